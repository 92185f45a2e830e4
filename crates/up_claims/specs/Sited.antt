-- What each step of the sample pager does, and what it answers, as functions of the object's journal.
use Rattle.std.specs.Prelude.{ℕ, ◌+◌, ◌==◌, ◌&&◌, ◌||◌, not, Bool, true, false, cond, Option, Some, None, option_map, List, length, suc, nat_lt}
use Rattle.up_num.specs.Span.{Span}
use Rattle.up_num.specs.Pages.{page_number}
use Rattle.up_num.specs.declared.pages.PageNo.{PageNo}
use Rattle.up_num.specs.declared.answers.AskKind.{AskKind}
use Rattle.up_num.specs.declared.answers.AskKind.TheVariants.{Read as ReadAsk, Dirty as DirtyAsk}
use Rattle.up_num.specs.declared.answers.Code.{Code}
use Rattle.up_num.specs.declared.answers.Code.TheVariants.{Io, NoSpace}
use Rattle.up_num.specs.declared.answers.Refusal.TheVariants.{NoFrames}
use Rattle.up_span.specs.Sets.{holds as has}
use Rattle.up_span.specs.declared.run.Run.{Run}
use Rattle.up_model.specs.Size.{size}
use Rattle.up_model.specs.States.{plain, unclean}
use Rattle.up_model.specs.Roles.{detached}
use Rattle.up_model.specs.Asks.{asked}
use Rattle.up_model.specs.Packets.{sent, taken}
use Rattle.up_model.specs.Order.{loose}
use Rattle.up_model.specs.Pages.{first_page, run_of, runs}
use Rattle.up_model.specs.Reply.{brings}
use Rattle.up_model.specs.declared.entry.Birth.{Birth}
use Rattle.up_model.specs.declared.entry.Entry.{Entry}
use Rattle.up_model.specs.declared.entry.Brought.{Brought}
use Rattle.up_model.specs.declared.entry.Told.{Told}
use Rattle.up_model.specs.declared.entry.Told.TheVariants as told
use Rattle.up_model.specs.declared.entry.Call.{Call}
use Rattle.up_model.specs.declared.entry.Call.TheVariants as calls
use Rattle.up_model.specs.declared.entry.Reply.{Reply}
use Rattle.up_model.specs.declared.entry.Reply.TheVariants as replies
use Rattle.up_claims.specs.Claimed.{one_page, claim_of}
use Rattle.up_claims.specs.Listed.{claimed, claim_over}
use Rattle.up_claims.specs.declared.claim.Claim.{Claim}
use Rattle.up_claims.specs.declared.claim.Claim.TheVariants.{Fetch, Back}
use Rattle.up_claims.specs.declared.step.SiteStep.{SiteStep}
use Rattle.up_claims.specs.declared.step.SiteStep.TheVariants as steps
use Rattle.up_claims.specs.declared.step.SiteReply.{SiteReply}
use Rattle.up_claims.specs.declared.step.SiteReply.TheVariants as answers

-- what is told of a call on the disk, which goes well or not
pub data Fact : Type 0 where
  Fetching : PageNo → Fact
  Storing : PageNo → Fact
  Flushing : Fact

abbrev pub tell_of : Fact → Bool → Told
tell_of (Fetching page) ok = told.Fetched page ok
tell_of (Storing page) ok = told.Stored page ok
tell_of Flushing ok = told.Flushed ok

-- a step answers this without an entry, makes the entry of a call, or tells what came of a call on the disk
pub data Deed : Type 0 where
  Rests : SiteReply → Deed
  Makes : Call → Deed
  Tells : Fact → Deed

-- the first deed, where there is one
abbrev pub or_next : Option Deed → Deed → Deed
or_next None next = next
or_next (Some deed) next = deed

-- the least page of the object that passes a test
abbrev pub least : Birth → List Entry → (ℕ → Bool) → Option ℕ
least birth h test = first_page test 0 (size birth h)

abbrev pub any_page : ℕ → Bool
any_page p = true

abbrev pub same_test : Bool → Bool → Bool
same_test true b = b
same_test false b = not b

-- the page is among those that may be written back, unclean, and not claimed
abbrev pub is_free : Birth → List Entry → (ℕ → Bool) → ℕ → Bool
is_free birth h among p = among p && (unclean birth h p && not (claimed h p))

-- such a page that is a zero page exactly where the first one is
abbrev pub goes_with : Birth → List Entry → (ℕ → Bool) → ℕ → ℕ → Bool
goes_with birth h among first p = is_free birth h among p && same_test (plain birth h first) (plain birth h p)

-- the writeback of a run of at most eight such pages, for zero pages alone where the first one is one
abbrev pub begins_at : Birth → List Entry → (ℕ → Bool) → ℕ → Deed
begins_at birth h among first =
    Makes (calls.Begin (record { first = first; count = run_of (goes_with birth h among first) first 8 }) (plain birth h first))

abbrev pub begins_run : Birth → List Entry → (ℕ → Bool) → Option Deed
begins_run birth h among = option_map (begins_at birth h among) (least birth h (is_free birth h among))

-- Pick: the least page that is asked for and not claimed is fetched
abbrev pub is_wanted : Birth → List Entry → ℕ → Bool
is_wanted birth h p = asked birth h ReadAsk p && not (claimed h p)

abbrev pub fetches : Birth → List Entry → Option Deed
fetches birth h = option_map (λ p. Tells (Fetching (page_number p))) (least birth h (is_wanted birth h))

abbrev pub grants : Birth → List Entry → Brought → Option Deed
grants birth h brought = option_map (λ p. Makes (calls.Dirty (one_page p) brought)) (least birth h (asked birth h DirtyAsk))

abbrev pub takes_packet : Birth → List Entry → Option Deed
takes_packet birth h = cond (nat_lt (taken h) (length (sent birth h))) (Some (Makes calls.Packet)) None

abbrev pub idles : Birth → List Entry → Deed
idles birth h = Rests (answers.Idle (detached birth h))

-- Pick: a packet, else leave to get dirty, else a fetch and then a writeback, or a writeback and then a fetch, else nothing
abbrev pub picked : Birth → List Entry → Brought → Bool → Deed
picked birth h brought write_first =
    or_next (takes_packet birth h)
    (or_next (grants birth h brought)
    (cond write_first
    (or_next (begins_run birth h any_page) (or_next (fetches birth h) (idles birth h)))
    (or_next (fetches birth h) (or_next (begins_run birth h any_page) (idles birth h)))))

-- PickFrom: a writeback within the set, else the claim over its least unclean page, else all of it is clean
abbrev pub busy_over : Option Span → Deed
busy_over None = Rests answers.Clear
busy_over (Some range) = Rests (answers.Busy range)

abbrev pub busy_at : List Entry → Option ℕ → Deed
busy_at h None = Rests answers.Clear
busy_at h (Some p) = busy_over (claim_over h p)

abbrev pub picked_from : Birth → List Entry → List Run → Deed
picked_from birth h set = or_next (begins_run birth h (has set)) (busy_at h (least birth h (λ p. has set p && unclean birth h p)))

-- Survey: the unclean pages
abbrev pub surveys : Birth → List Entry → Deed
surveys birth h = Rests (answers.Surveyed (runs (unclean birth h) 0 0 (size birth h)))

-- Deliver: the page is supplied with the bytes that were read, or failed where they weren't
abbrev pub delivers : Brought → List ℕ → Option Claim → Deed
delivers brought bytes (Some (Fetch page true)) = Makes (calls.Supply (one_page page.0) bytes brought)
delivers brought bytes (Some (Fetch page false)) = Makes (calls.Fail (one_page page.0) Io)
delivers brought bytes _ = Rests answers.Passed

-- Copy, Store, End: of the writeback that is claimed
abbrev pub copies : Option Claim → Deed
copies (Some (Back range number copied stored)) = Makes (calls.Tell (told.Copied range))
copies _ = Rests answers.Passed

abbrev pub stores : Option Claim → Deed
stores (Some (Back range number copied stored)) = Tells (Storing (page_number (range.first + stored)))
stores _ = Rests answers.Passed

abbrev pub finishes : Option Claim → Deed
finishes (Some (Back range number copied stored)) = Makes (calls.End range number)
finishes _ = Rests answers.Passed

-- no page of the object is unclean or loose
abbrev pub is_unclean_or_loose : Birth → List Entry → ℕ → Bool
is_unclean_or_loose birth h p = unclean birth h p || loose birth h p

abbrev pub is_tight : Birth → List Entry → Option ℕ → Bool
is_tight birth h None = true
is_tight birth h (Some p) = false

-- Deny: the page is still asked for; for a read it isn't claimed either, and no frame is to be had from the object
abbrev pub is_denied : Birth → List Entry → AskKind → ℕ → Bool
is_denied birth h DirtyAsk p = asked birth h DirtyAsk p
is_denied birth h ReadAsk p = is_wanted birth h p && is_tight birth h (least birth h (is_unclean_or_loose birth h))

abbrev pub denies : Birth → List Entry → AskKind → ℕ → Deed
denies birth h kind p = cond (is_denied birth h kind p) (Makes (calls.Fail (one_page p) NoSpace)) (Rests answers.Passed)

-- what a step does, of an actor that brings frames and has read bytes
abbrev pub deed_of : Birth → List Entry → ℕ → Brought → List ℕ → SiteStep → Deed
deed_of birth h who brought bytes (steps.Pick write_first) = picked birth h brought write_first
deed_of birth h who brought bytes steps.Survey = surveys birth h
deed_of birth h who brought bytes (steps.PickFrom set) = picked_from birth h set
deed_of birth h who brought bytes steps.Deliver = delivers brought bytes (claim_of h who)
deed_of birth h who brought bytes steps.Copy = copies (claim_of h who)
deed_of birth h who brought bytes steps.Store = stores (claim_of h who)
deed_of birth h who brought bytes steps.End = finishes (claim_of h who)
deed_of birth h who brought bytes (steps.Deny kind page) = denies birth h kind page.0
deed_of birth h who brought bytes steps.Flush = Tells Flushing

-- a resize: the claim of least first page that reaches past the new pages is in the way
abbrev pub reaches : ℕ → Option Span → Bool
reaches pages None = false
reaches pages (Some range) = nat_lt pages (range.first + range.count)

abbrev pub busy_past : ℕ → Option Span → Option Deed
busy_past pages None = None
busy_past pages (Some range) = Some (Makes (calls.Tell (told.Busy pages range)))

abbrev pub claim_over_page : List Entry → Option ℕ → Option Span
claim_over_page h None = None
claim_over_page h (Some p) = claim_over h p

abbrev pub resizes : Birth → List Entry → ℕ → Deed
resizes birth h pages =
    or_next (busy_past pages (claim_over_page h (least birth h (λ p. reaches pages (claim_over h p))))) (Makes (calls.Resize pages))

-- what is answered to leave to get dirty, and to a supply, by the reply
abbrev pub granted : Span → Reply → SiteReply
granted range (replies.Needs count) = answers.Needs count
granted range (replies.Refused NoFrames) = answers.Denied (page_number range.first)
granted range _ = answers.Granted

abbrev pub delivered : Span → Reply → SiteReply
delivered range (replies.Refused NoFrames) = answers.NoFrame (page_number range.first)
delivered range _ = answers.Delivered

-- a fail with IO is that of a fetch, any other that of a page which is denied
abbrev pub failed : Code → SiteReply
failed Io = answers.Delivered
failed _ = answers.Passed

-- after a store that was done, whether pages are left
abbrev pub leaves_pages : Option Claim → Bool
leaves_pages (Some (Back range number copied stored)) = nat_lt (suc stored) range.count
leaves_pages _ = false

abbrev pub told_answer : Birth → List Entry → Option Claim → Told → SiteReply
told_answer birth h claim (told.Fetched page ok) = answers.Fetched page ok
told_answer birth h claim (told.Copied range) = answers.Copied
told_answer birth h claim (told.Stored page ok) = cond ok (answers.Stored (leaves_pages claim)) (answers.StoreFailed (detached birth h))
told_answer birth h claim (told.Flushed ok) = answers.Flushed ok
told_answer birth h claim (told.Busy pages range) = answers.Busy range

-- what is answered once an entry is made, by its call and reply, and by the claim and the journal before it
abbrev pub answer_of : Birth → List Entry → Option Claim → Call → Reply → SiteReply
answer_of birth h claim calls.Packet reply = answers.Taken
answer_of birth h claim (calls.Dirty range brought) reply = granted range reply
answer_of birth h claim (calls.Begin range zero) reply = answers.Claimed range
answer_of birth h claim (calls.Supply range bytes brought) reply = delivered range reply
answer_of birth h claim (calls.Fail range code) reply = failed code
answer_of birth h claim (calls.End range of) reply = answers.Ended
answer_of birth h claim (calls.Tell said) reply = told_answer birth h claim said
answer_of birth h claim (calls.Resize pages) reply = answers.Resized reply
answer_of birth h claim _ reply = answers.Passed

-- which steps an actor may make, by its claim and the frames that it brings. A page that was fetched well takes one frame, or a scan.
abbrev pub fits : SiteStep → Option Claim → Brought → Bool
fits steps.Deliver (Some (Fetch page ok)) brought = cond ok (brings 1 brought) true
fits steps.Deliver _ brought = false
fits steps.Copy (Some (Back range number copied stored)) brought = not copied && (stored == 0)
fits steps.Copy _ brought = false
fits steps.Store (Some (Back range number copied stored)) brought = copied && nat_lt stored range.count
fits steps.Store _ brought = false
fits steps.End (Some (Back range number copied stored)) brought = copied && (stored == range.count)
fits steps.End _ brought = false
fits _ None brought = true
fits _ _ brought = false
