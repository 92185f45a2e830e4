-- Which deed is due, by what was found.
use Rattle.std.proofs.Common.{◌≡◌, ℕ, ◌+◌, ◌<◌, ◌≤◌, ◌&&◌, not, Bool, true, false, cond, Option, Some, None}
use Rattle.std.proofs.Common.{is_some, List, length, slice_get, nat_lt, suc, refl, sym, ap, ◌∙◌}
use Rattle.std.proofs.Common.{arith}
use Rattle.std.proofs.lemmas.Bool.{false≢true}
use Rattle.std.proofs.lemmas.Bool.Decides.{nat_tests}
use Rattle.std.proofs.lemmas.Option.{slice_get-get_or, slice_get_past}
use Rattle.up_num.specs.declared.answers.Packet.{Packet}
use Rattle.up_num.specs.declared.answers.Packet.TheVariants.{Complete}
use Rattle.up_num.specs.declared.answers.AskKind.{AskKind}
use Rattle.up_num.specs.declared.answers.AskKind.TheVariants.{Read as ReadAsk, Dirty as DirtyAsk}
use Rattle.up_span.specs.Sets.{holds as has}
use Rattle.up_span.specs.declared.run.Run.{Run}
use Rattle.up_model.specs.Asks.{asked}
use Rattle.up_model.specs.Packets.{sent, taken}
use Rattle.up_model.specs.Size.{size}
use Rattle.up_model.specs.Legal.{Legal}
use Rattle.up_model.specs.Roles.{detached}
use Rattle.up_model.specs.States.{plain, unclean}
use Rattle.up_model.specs.declared.entry.Reply.TheVariants as replies
use Rattle.up_model.proofs.Asked.{read_asked, dirty_asked}
use Rattle.up_model.proofs.Presence.{pages_within}
use Rattle.up_num.specs.Span.{Span}
use Rattle.up_span.specs.Runs.{run_of}
use Rattle.up_model.specs.declared.entry.Birth.{Birth}
use Rattle.up_model.specs.declared.entry.Brought.{Brought}
use Rattle.up_model.specs.declared.entry.Entry.{Entry}
use Rattle.up_model.specs.declared.entry.Call.TheVariants as calls
use Rattle.up_num.specs.declared.pages.PageNo.{PageNo}
use Rattle.up_claims.specs.declared.claim.Claim.{Claim}
use Rattle.up_claims.specs.declared.claim.Claim.TheVariants.{Fetch, Back}
use Rattle.up_claims.specs.declared.step.SiteStep.TheVariants as steps
use Rattle.up_claims.specs.Claimed.{one_page, claim_of}
use Rattle.up_claims.specs.Sited.{Rests, Makes, is_free, least, begins_at, busy_at, picked}
use Rattle.up_claims.specs.Sited.{picked_from, denies, is_denied, fits, is_wanted, goes_with, answer_of}
use Rattle.up_claims.specs.Sited.{tell_of, leaves_pages, Storing}
use Rattle.up_claims.specs.declared.step.SiteReply.{SiteReply}
use Rattle.up_claims.specs.declared.step.SiteReply.TheVariants as answers
use Rattle.up_site.specs.Nexts.{picked_pages}
use Rattle.up_site.specs.Due.{went_well}

-- what a free or a wanted page is
pub free_unclean : (among unclean claimed : Bool) → (among && (unclean && not claimed)) ≡ true → unclean ≡
    true
free_unclean true true c free = refl
free_unclean true false c free = absurd (false≢true free)
free_unclean false u c free = absurd (false≢true free)

pub free_unclaimed : (among unclean claimed : Bool) → (among && (unclean && not claimed)) ≡ true → claimed
    ≡ false
free_unclaimed true true false free = refl
free_unclaimed true true true free = absurd (false≢true free)
free_unclaimed true false c free = absurd (false≢true free)
free_unclaimed false u c free = absurd (false≢true free)

pub wanted_asks : (asks claimed : Bool) → (asks && not claimed) ≡ true → asks ≡ true
wanted_asks true c wanted = refl
wanted_asks false c wanted = absurd (false≢true wanted)

pub wanted_unclaimed : (asks claimed : Bool) → (asks && not claimed) ≡ true → claimed ≡ false
wanted_unclaimed true false wanted = refl
wanted_unclaimed true true wanted = absurd (false≢true wanted)
wanted_unclaimed false c wanted = absurd (false≢true wanted)

-- a packet is left
pub packet_left : (packets : List Packet) (n : ℕ) → nat_lt n (length packets) ≡ is_some (slice_get packets n)
packet_left packets n = elim (nat_lt n (length packets)) as (λ b. nat_lt n (length packets) ≡ b → b ≡
    is_some (slice_get packets n)) [
      | true ↦ λ is. let low : n < length packets = grind (arith, nat_tests) in sym (ap is_some
          (slice_get-get_or packets n Complete low))
      | false ↦ λ is. let past : length packets ≤ n = grind (arith, nat_tests) in sym (ap is_some
          (slice_get_past packets n past))
    ] refl

-- a pick
pub picks_packet : (birth : Birth) (h : List Entry) (brought : Brought) (write_first : Bool) → nat_lt
    (taken h) (length (sent birth h)) ≡ true →
    picked birth h brought write_first ≡ Makes calls.Packet
picks_packet birth h brought write_first some = rw some refl

pub picks_grant : (birth : Birth) (h : List Entry) (brought : Brought) (write_first : Bool) (page : ℕ) →
    nat_lt (taken h) (length (sent birth h)) ≡ false →
    least birth h (asked birth h DirtyAsk) ≡ Some page → picked birth h brought write_first ≡ Makes
    (calls.Dirty (one_page page) brought)
picks_grant birth h brought write_first page none found = rw (none, found) refl

pub picks_pages : (birth : Birth) (h : List Entry) (brought : Brought) (write_first : Bool) → nat_lt (taken
    h) (length (sent birth h)) ≡ false →
    least birth h (asked birth h DirtyAsk) ≡ None → picked birth h brought write_first ≡ picked_pages birth
    h write_first
picks_pages birth h brought write_first none found = rw (none, found) refl

-- a pick of a set
pub picks_run : (birth : Birth) (h : List Entry) (set : List Run) (first : ℕ) → least birth h (is_free
    birth h (has set)) ≡ Some first →
    picked_from birth h set ≡ begins_at birth h (has set) first
picks_run birth h set first found = rw found refl

pub picks_none : (birth : Birth) (h : List Entry) (set : List Run) (answer : SiteReply) → least birth h
    (is_free birth h (has set)) ≡ None →
    busy_at h (least birth h (λ p. has set p && unclean birth h p)) ≡ Rests answer → picked_from birth h
    set ≡ Rests answer
picks_none birth h set answer none rests = rw none rests

-- a denial
pub denies_so : (birth : Birth) (h : List Entry) (kind : AskKind) (page : ℕ) (denied : Bool) → denied ≡
    is_denied birth h kind page →
    denies birth h kind page ≡ cond denied (denies birth h kind page) (Rests answers.Passed)
denies_so birth h kind page true is = refl
denies_so birth h kind page false is = rw (sym is) refl

-- which claim goes with a step
pub pick_free : (write_first : Bool) (claim : Option Claim) (brought : Brought) → fits (steps.Pick
    write_first) claim brought ≡ true → claim ≡ None
pick_free w None brought fit = refl
pick_free w (Some (Fetch page ok)) brought fit = absurd (false≢true fit)
pick_free w (Some (Back range number copied stored)) brought fit = absurd (false≢true fit)

pub from_free : (set : List Run) (claim : Option Claim) (brought : Brought) → fits (steps.PickFrom set)
    claim brought ≡ true → claim ≡ None
from_free set None brought fit = refl
from_free set (Some (Fetch page ok)) brought fit = absurd (false≢true fit)
from_free set (Some (Back range number copied stored)) brought fit = absurd (false≢true fit)

pub deny_free : (kind : AskKind) (page : PageNo) (claim : Option Claim) (brought : Brought) → fits
    (steps.Deny kind page) claim brought ≡ true → claim ≡ None
deny_free kind page None brought fit = refl
deny_free kind page (Some (Fetch own ok)) brought fit = absurd (false≢true fit)
deny_free kind page (Some (Back range number copied stored)) brought fit = absurd (false≢true fit)

-- the frames that it brings play no part
pub copy_fits : (claim : Option Claim) (one other : Brought) → fits steps.Copy claim one ≡ fits steps.Copy
    claim other
copy_fits None one other = refl
copy_fits (Some (Fetch page ok)) one other = refl
copy_fits (Some (Back range number copied stored)) one other = refl

pub store_fits : (claim : Option Claim) (one other : Brought) → fits steps.Store claim one ≡ fits
    steps.Store claim other
store_fits None one other = refl
store_fits (Some (Fetch page ok)) one other = refl
store_fits (Some (Back range number copied stored)) one other = refl

pub end_fits : (claim : Option Claim) (one other : Brought) → fits steps.End claim one ≡ fits steps.End
    claim other
end_fits None one other = refl
end_fits (Some (Fetch page ok)) one other = refl
end_fits (Some (Back range number copied stored)) one other = refl

-- a run begins
pub begins_so : (birth : Birth) (h : List Entry) (among : ℕ → Bool) (first : ℕ) (range : Span) (only :
    Bool) → range.first ≡ first →
    range.count ≡ run_of (goes_with birth h among first) first 8 → only ≡ plain birth h first → begins_at
    birth h among first ≡ Makes (calls.Begin range only)
begins_so birth h among first range only from many zeros = λ i. Makes (calls.Begin (record {
  first = sym
      from i;
  count = sym many i;
}) (sym zeros i))

-- what is answered to a store
pub store_well : (ok more gone : Bool) → went_well (cond ok (answers.Stored more) (answers.StoreFailed
    gone)) ≡ ok
store_well true more gone = refl
store_well false more gone = refl

pub stored_told : (birth : Birth) (h : List Entry) (who : ℕ) (range : Span) (number : Option ℕ) (done : ℕ)
    (page : PageNo) (ok more gone : Bool) →
    claim_of h who ≡ Some (Back range number true done) → more ≡ nat_lt (done + 1) range.count → gone ≡
    detached birth h →
    cond ok (answers.Stored more) (answers.StoreFailed gone) ≡ answer_of birth h (claim_of h who)
    (calls.Tell (tell_of (Storing page) ok)) replies.Noted
stored_told birth h who range number done page ok more gone claim many apart =
    let next : done + 1 ≡ suc done = omega arith in
    let left : more ≡ leaves_pages (claim_of h who) = many ∙ (ap (λ (n : ℕ). nat_lt n range.count) next ∙
    ap leaves_pages (sym claim)) in
    λ i. cond ok (answers.Stored (left i)) (answers.StoreFailed (apart i))

-- a page that is denied lies within the object
pub denied_low : (birth : Birth) (h : List Entry) → Legal birth h → (kind : AskKind) (p : ℕ) → is_denied
    birth h kind p ≡ true → p < size birth h
denied_low birth h legal DirtyAsk p denied = pages_within birth h legal p (dirty_asked birth h legal p
    denied).here
denied_low birth h legal ReadAsk p denied = (read_asked birth h legal p (wanted_asks (asked birth h ReadAsk
    p) _ (left_true (is_wanted birth h p) _ denied))).low
  where
    left_true : (a b : Bool) → (a && b) ≡ true → a ≡ true
    left_true true b both = refl
    left_true false b both = absurd (false≢true both)
