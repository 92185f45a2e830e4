-- What each step answers, and which claim its actor has behind it; so the next task goes with the claim.
use Rattle.std.proofs.Common.{◌≡◌, ℕ, ◌+◌, ◌==◌, ◌&&◌, ◌++◌, not, Bool, true, false, cond, Option, Some, None, List, ◌∷◌, suc, refl, sym, ap, ◌∙◌, subst, arith, nat_lt}
use Rattle.std.specs.Prelude.{option_map, MatchOption, ◌≤◌, ◌<◌}
use Rattle.std.proofs.lemmas.Bool.Decides.{nat_tests}
use Rattle.up_num.specs.Span.{Span}
use Rattle.up_num.specs.Pages.{page_number}
use Rattle.up_num.specs.declared.answers.Code.TheVariants.{Io, NoSpace}
use Rattle.up_num.specs.declared.answers.Refusal.TheVariants.{NoFrames}
use Rattle.up_num.specs.declared.pages.PageNo.{PageNo}
use Rattle.up_span.specs.Pages.{within, first_page}
use Rattle.up_span.specs.Runs.{run_of}
use Rattle.up_span.specs.Sets.{holds as has}
use Rattle.up_span.specs.declared.run.Run.{Run}
use Rattle.up_span.proofs.Ranges.{first_is}
use Rattle.up_model.specs.Answered.{is_begin}
use Rattle.up_model.proofs.Bools.{and_left, and_right, nat_eq-same}
use Rattle.up_model.specs.Attempts.{accepts}
use Rattle.up_model.specs.Size.{size}
use Rattle.up_model.specs.States.{plain}
use Rattle.up_model.specs.declared.entry.Birth.{Birth}
use Rattle.up_model.specs.declared.entry.Brought.{Brought}
use Rattle.up_model.specs.declared.entry.Call.{Call}
use Rattle.up_model.specs.declared.entry.Call.TheVariants as calls
use Rattle.up_model.specs.declared.entry.Entry.{Entry}
use Rattle.up_model.specs.declared.entry.Reply.{Reply}
use Rattle.up_model.specs.declared.entry.Reply.TheVariants as replies
use Rattle.up_model.specs.declared.entry.Told.TheVariants as told
use Rattle.up_claims.specs.Claimed.{one_page, given_number, next_claim, claim_of}
use Rattle.up_claims.specs.Listed.{claim_over}
use Rattle.up_claims.specs.Sited.{Deed, Rests, Makes, or_next, least, any_page, same_test, is_free, goes_with, begins_at, begins_run, fetches, grants, takes_packet, idles, picked, busy_over, busy_at, picked_from, delivers, copies, stores, finishes, granted, delivered, answer_of}
use Rattle.up_claims.specs.declared.claim.Claim.{Claim}
use Rattle.up_claims.specs.declared.claim.Claim.TheVariants.{Fetch, Back}
use Rattle.up_claims.specs.declared.step.SiteReply.{SiteReply}
use Rattle.up_claims.specs.declared.step.SiteReply.TheVariants as sites
use Rattle.up_worker.specs.InStep.{suits, BeginsAccepted}
use Rattle.up_worker.specs.Courses.{Entered}
use Rattle.up_worker.specs.Thread.{of_object}
use Rattle.up_worker.specs.Turning.{MakesCall, Does}
use Rattle.up_worker.specs.declared.task.Task.TheVariants as tasks
use Rattle.up_turns.specs.Laws.{claim_in}

-- an answer behind which nothing is claimed
abbrev pub is_quiet : SiteReply → Bool
is_quiet (sites.Fetched page ok) = false
is_quiet (sites.Claimed range) = false
is_quiet sites.Copied = false
is_quiet (sites.Stored more) = false
is_quiet (sites.Needs count) = false
is_quiet _ = true

-- the answer to a step, and the claim behind it, where `old` was the one before
pub data Leads (old : Option Claim) : SiteReply → Option Claim → Type 0 where
  Quiet : (answer : SiteReply) → is_quiet answer ≡ true → Leads old answer None
  Asks : (count : ℕ) → Leads old (sites.Needs count) old
  Fetches : (page : PageNo) (ok : Bool) → Leads old (sites.Fetched page ok) (Some (Fetch page ok))
  Claims : (range : Span) (number : Option ℕ) → nat_lt 0 range.count ≡ true
      → Leads old (sites.Claimed range) (Some (Back range number false 0))
  Copies : (range : Span) (number : Option ℕ) (stored : ℕ) → nat_lt stored range.count ≡ true
      → Leads old sites.Copied (Some (Back range number true stored))
  Stores : (range : Span) (number : Option ℕ) (stored : ℕ) → nat_lt stored range.count ≡ true
      → Leads old (sites.Stored (nat_lt (suc stored) range.count)) (Some (Back range number true
      (suc stored)))

-- the claim behind an entry of the actor
at_true : {A : Type 0} (b : Bool) (x y : A) → b ≡ true → cond b x y ≡ x
at_true true x y is = refl
at_true false x y is = absurd cc

claim_made : (birth : Birth) (who object : ℕ) (before made : List Entered) (answer : SiteReply) (call : Call)
    → (m : MakesCall birth (of_object object before) who object answer call made)
    → claim_in (made ++ before) object who ≡ next_claim call m.entry.reply (claim_in before object who)
claim_made birth who object before made answer call m =
    let h = of_object object before in
    ap (λ (xs : List Entered). claim_in (xs ++ before) object who) m.is
    ∙ ap (λ (xs : List Entry). claim_of xs who) (at_true (object == object) (m.entry ∷ h) h
    (nat_eq-same object))
    ∙ at_true (m.entry.who == who) (next_claim m.entry.call m.entry.reply (claim_of h who)) (claim_of h who)
    (ap (λ (w : ℕ). w == who) m.by ∙ nat_eq-same who)
    ∙ ap (λ (c : Call). next_claim c m.entry.reply (claim_of h who)) m.of_call

abbrev FirstFound : (ℕ → Bool) → ℕ → Option ℕ → Type 0
FirstFound test count found = MatchOption found
    ((page : ℕ) → within 0 count page ≡ true → test page ≡ false)
    (λ page. (within 0 count page ≡ true) × ((test page ≡ true) × ((earlier : ℕ) → 0 ≤ earlier
    → earlier < page → test earlier ≡ false)))

pub found_passes : (test : ℕ → Bool) (count p : ℕ) → first_page test 0 count ≡ Some p → test p ≡ true
found_passes test count p is = (subst (λ (o : Option ℕ). FirstFound test count o) is
    (first_is test 0 count)).1.0

pub some_first : (t : Bool) (k : ℕ) → t ≡ true → nat_lt 0 (cond t (suc k) 0) ≡ true
some_first true k is = grind (arith, nat_tests)
some_first false k is = absurd cc

pub same_self : (b : Bool) → same_test b b ≡ true
same_self true = refl
same_self false = refl

pub both : (a b : Bool) → a ≡ true → b ≡ true → (a && b) ≡ true
both true b one two = two
both false b one two = one

-- the deed of a list of choices is one of them
record Mapped (f : ℕ → Deed) (o : Option ℕ) (x : Deed) : Type 0 where
  at : ℕ
  found : o ≡ Some at
  is : f at ≡ x

deed_is : (d x : Deed) → Some d ≡ Some x → d ≡ x
deed_is d x is = ap (λ (o : Option Deed). elim o [ Some k ↦ k | None ↦ d ]) is

mapped : (f : ℕ → Deed) (o : Option ℕ) (x : Deed) → option_map f o ≡ Some x → Mapped f o x
mapped f None x is = absurd cc
mapped f (Some p) x is = record { at = p; found = refl; is = deed_is (f p) x is }

when_is : (t : Bool) (d x : Deed) → cond t (Some d) None ≡ Some x → d ≡ x
when_is true d x is = deed_is d x is
when_is false d x is = absurd cc

or_cases : (P : Deed → Type 0) (G : Type 0) (o : Option Deed) (d : Deed) → P (or_next o d) → ((x : Deed)
    → o ≡ Some x → P x → G) → (P d → G) → G
or_cases P G None d p one two = two p
or_cases P G (Some x) d p one two = one x refl p

delivered_quiet : (range : Span) (reply : Reply) → is_quiet (delivered range reply) ≡ true
delivered_quiet range (replies.Refused NoFrames) = refl
delivered_quiet range _ = refl

granted_leads : (range : Span) (reply : Reply) → Leads None (granted range reply) None
granted_leads range (replies.Needs count) = Asks count
granted_leads range (replies.Refused NoFrames) = Quiet (sites.Denied (page_number range.first)) refl
granted_leads range _ = Quiet sites.Granted refl

module _ (births : ℕ → Birth) (who object : ℕ) (before made : List Entered) (answer : SiteReply) where
  abbrev Did : Deed → Type 0
  Did deed = Does (births object) (of_object object before) who object answer made deed

  abbrev LeadsTo : Option Claim → Type 0
  LeadsTo old = Leads old answer (claim_in (made ++ before) object who)

  pub by_call : (old : Option Claim) (call : Call) → claim_in before object who ≡ old
      → (m : MakesCall (births object) (of_object object before) who object answer call made)
      → Leads old (answer_of (births object) (of_object object before) old call m.entry.reply)
      (next_claim call m.entry.reply old) → LeadsTo old
  by_call old call is m leads =
      let answered : answer ≡ answer_of (births object) (of_object object before) old call m.entry.reply =
      m.told ∙ ap (λ (c : Option Claim). answer_of (births object)
      (of_object object before) c call m.entry.reply) is in
      let claim : claim_in (made ++ before) object who ≡ next_claim call m.entry.reply old =
      claim_made (births object) who object before made answer call m
      ∙ ap (λ (c : Option Claim). next_claim call m.entry.reply c) is in
      subst (λ (a : SiteReply). Leads old a (claim_in (made ++ before) object who)) (sym answered)
      (subst (λ (c : Option Claim). Leads old (answer_of (births object)
      (of_object object before) old call m.entry.reply) c) (sym claim) leads)

  pub by_rest : (old : Option Claim) (said : SiteReply) → claim_in before object who ≡ old
      → Did (Rests said) → Leads old said old → LeadsTo old
  by_rest old said is did leads =
      subst (λ (a : SiteReply). Leads old a (claim_in (made ++ before) object who)) (sym did.0)
      (subst (λ (c : Option Claim). Leads old said c)
      (sym (ap (λ (xs : List Entered). claim_in (xs ++ before) object who) did.1 ∙ is)) leads)

  begun : (range : Span) (zero_only : Bool) → nat_lt 0 range.count ≡ true
      → claim_in before object who ≡ None → BeginsAccepted made
      → Did (Makes (calls.Begin range zero_only)) → LeadsTo None
  begun range zero_only some is accepted m =
      let takes : accepts m.entry.reply ≡ true =
      (subst BeginsAccepted m.is accepted).1 (ap is_begin m.of_call) in
      by_call None (calls.Begin range zero_only) is m
      (subst (λ (c : Option Claim). Leads None (sites.Claimed range) c)
      (sym (at_true (accepts m.entry.reply) (Some (Back range
      (given_number m.entry.reply) false 0)) None takes))
      (Claims range (given_number m.entry.reply) some))

  runs_begin : (among : ℕ → Bool) (x : Deed)
      → begins_run (births object) (of_object object before) among ≡ Some x
      → claim_in before object who ≡ None → BeginsAccepted made → Did x → LeadsTo None
  runs_begin among x chosen is accepted did =
      let birth = births object in
      let h = of_object object before in
      let one = mapped (begins_at birth h among) (least birth h (is_free birth h among)) x chosen in
      let free = found_passes (is_free birth h among) (size birth h) one.at one.found in
      let goes : goes_with birth h among one.at one.at
      ≡ true = both _ _ free (same_self (plain birth h one.at)) in
      begun (record { first = one.at; count = run_of (goes_with birth h among one.at) one.at 8 })
      (plain birth h one.at)
      (some_first (goes_with birth h among one.at one.at) (run_of (goes_with birth h among one.at)
      (one.at + 1) 7) goes)
      is accepted (subst Did (sym one.is) did)

  page_fetched : (x : Deed) → fetches (births object) (of_object object before) ≡ Some x
      → claim_in before object who ≡ None → Did x → LeadsTo None
  page_fetched x chosen is did =
      let one = mapped _ _ x chosen in
      let told_so = subst Did (sym one.is) did in
      by_call None (calls.Tell (told.Fetched (page_number one.at) told_so.0)) is told_so.1 (Fetches
      (page_number one.at) told_so.0)

  idle : claim_in before object who ≡ None → Did (idles (births object) (of_object object before))
      → LeadsTo None
  idle is did = by_rest None _ is did (Quiet _ refl)

  late : (write_first : Bool) → claim_in before object who ≡ None → BeginsAccepted made
      → Did (cond write_first
      (or_next (begins_run (births object) (of_object object before) any_page)
      (or_next (fetches (births object) (of_object object before)) (idles (births object)
      (of_object object before))))
      (or_next (fetches (births object) (of_object object before))
      (or_next (begins_run (births object) (of_object object before) any_page) (idles (births object)
      (of_object object before)))))
      → LeadsTo None
  late true is accepted did =
      or_cases Did (LeadsTo None) _ _ did (λ x chosen does. runs_begin any_page x chosen is accepted does)
      (λ rest. or_cases Did (LeadsTo None) _ _ rest (λ x chosen does. page_fetched x chosen is does)
      (λ last. idle is last))
  late false is accepted did =
      or_cases Did (LeadsTo None) _ _ did (λ x chosen does. page_fetched x chosen is does)
      (λ rest. or_cases Did (LeadsTo None) _ _ rest
      (λ x chosen does. runs_begin any_page x chosen is accepted does) (λ last. idle is last))

  pub picks : (write_first : Bool) (b : Brought) → claim_in before object who ≡ None → BeginsAccepted made
      → Did (picked (births object) (of_object object before) b write_first) → LeadsTo None
  picks write_first b is accepted did =
      or_cases Did (LeadsTo None) (takes_packet (births object) (of_object object before)) _ did
      (λ x chosen does. by_call None calls.Packet is (subst Did (sym (when_is _
      (Makes calls.Packet) x chosen)) does) (Quiet sites.Taken refl))
      (λ rest. or_cases Did (LeadsTo None) (grants (births object) (of_object object before) b) _ rest
      (λ x chosen does.
      let one = mapped (λ p. Makes (calls.Dirty (one_page p) b)) _ x chosen in
      let m = subst Did (sym one.is) does in
      by_call None (calls.Dirty (one_page one.at) b) is m (granted_leads
      (one_page one.at) m.entry.reply))
      (λ more. late write_first is accepted more))

  busy_leads : (over : Option Span) → claim_in before object who ≡ None → Did (busy_over over) → LeadsTo None
  busy_leads None is did = by_rest None sites.Clear is did (Quiet sites.Clear refl)
  busy_leads (Some range) is did = by_rest None (sites.Busy range) is did (Quiet (sites.Busy range) refl)

  busy_page : (found : Option ℕ) → claim_in before object who ≡ None
      → Did (busy_at (of_object object before) found) → LeadsTo None
  busy_page None is did = by_rest None sites.Clear is did (Quiet sites.Clear refl)
  busy_page (Some p) is did = busy_leads (claim_over (of_object object before) p) is did

  pub picks_from : (set : List Run) → claim_in before object who ≡ None → BeginsAccepted made
      → Did (picked_from (births object) (of_object object before) set) → LeadsTo None
  picks_from set is accepted did =
      or_cases Did (LeadsTo None) (begins_run (births object) (of_object object before) (has set)) _ did
      (λ x chosen does. runs_begin (has set) x chosen is accepted does) (λ rest. busy_page _ is rest)

  pub delivery : (b : Brought) (bytes : List ℕ) (good : Bool) (old : Option Claim)
      → suits (tasks.Deliver good) old ≡ true
      → claim_in before object who ≡ old → Did (delivers b bytes old) → LeadsTo old
  delivery b bytes good None goes is did = absurd cc
  delivery b bytes good (Some (Back range number copied stored)) goes is did = absurd cc
  delivery b bytes good (Some (Fetch page true)) goes is did =
      by_call (Some (Fetch page true)) (calls.Supply (one_page page.0) bytes b) is did
      (Quiet _ (delivered_quiet (one_page page.0) did.entry.reply))
  delivery b bytes good (Some (Fetch page false)) goes is did =
      by_call (Some (Fetch page false)) (calls.Fail (one_page page.0) Io) is did (Quiet sites.Delivered refl)

  pub copy : (old : Option Claim) → suits tasks.Copy old ≡ true → claim_in before object who ≡ old
      → Did (copies old) → LeadsTo old
  copy None goes is did = absurd cc
  copy (Some (Fetch page ok)) goes is did = absurd cc
  copy (Some (Back range number copied stored)) goes is did =
      let none : (stored == 0) ≡ true = and_left _ _ (and_right (not copied) _ goes) in
      let some : nat_lt 0 range.count ≡ true = and_right (stored == 0) _ (and_right (not copied) _ goes) in
      let less : nat_lt stored range.count ≡ true = grind (arith, nat_tests) in
      by_call (Some (Back range number copied stored)) (calls.Tell (told.Copied range)) is did
      (Copies range number stored less)

  pub store : (old : Option Claim) → suits tasks.Store old ≡ true → claim_in before object who ≡ old
      → Did (stores old) → LeadsTo old
  store None goes is did = absurd cc
  store (Some (Fetch page ok)) goes is did = absurd cc
  store (Some (Back range number false stored)) goes is did = absurd cc
  store (Some (Back range number true stored)) goes is did = stored_by did.0 did.1
    where
      stored_by : (ok : Bool)
          → MakesCall (births object) (of_object object before) who object answer
          (calls.Tell (told.Stored (page_number (range.first + stored)) ok)) made
          → LeadsTo (Some (Back range number true stored))
      stored_by true m =
          by_call (Some (Back range number true stored)) (calls.Tell (told.Stored (page_number
          (range.first + stored)) true)) is m
          (Stores range number stored goes)
      stored_by false m =
          by_call (Some (Back range number true stored)) (calls.Tell (told.Stored (page_number
          (range.first + stored)) false)) is m
          (Quiet _ refl)

  pub finish : (old : Option Claim) → suits tasks.End old ≡ true → claim_in before object who ≡ old
      → Did (finishes old) → LeadsTo old
  finish None goes is did = absurd cc
  finish (Some (Fetch page ok)) goes is did = absurd cc
  finish (Some (Back range number copied stored)) goes is did =
      by_call (Some (Back range number copied stored)) (calls.End range number) is did
      (Quiet sites.Ended refl)

  pub denial : (test : Bool) (p : ℕ) → claim_in before object who ≡ None
      → Did (cond test (Makes (calls.Fail (one_page p) NoSpace)) (Rests sites.Passed)) → LeadsTo None
  denial true p is did = by_call None (calls.Fail (one_page p) NoSpace) is did (Quiet sites.Passed refl)
  denial false p is did = by_rest None sites.Passed is did (Quiet sites.Passed refl)
