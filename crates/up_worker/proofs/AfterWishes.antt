-- What follows from a wish.
use Rattle.std.proofs.Common.{◌≡◌, ℕ, ◌==◌, ◌&&◌, ◌||◌, ◌⊎◌, not, Bool, true, false, cond, is_some, Option, Some, None, List, [], ◌∷◌, refl, sym, ap, subst, arith, inl, inr}
use Rattle.std.specs.List.{filter}
use Rattle.std.proofs.lemmas.Bool.Decides.{nat_tests}
use Rattle.up_model.specs.declared.entry.Brought.{Brought}
use Rattle.up_model.specs.declared.entry.Brought.TheVariants.{Nothing}
use Rattle.up_model.specs.declared.entry.Call.{Call}
use Rattle.up_model.specs.declared.entry.Call.TheVariants as calls
use Rattle.up_model.specs.declared.entry.Reply.{Reply}
use Rattle.up_model.specs.declared.entry.Reply.TheVariants as replies
use Rattle.up_script.specs.Objects.{is_evictor}
use Rattle.up_script.specs.declared.script.Action.{Action}
use Rattle.up_script.specs.declared.script.Action.TheVariants as actions
use Rattle.up_worker.specs.Acting.{Acting, under_way, hears, next_wish, has}
use Rattle.up_worker.specs.Calls.{frames_before, borrows, is_access}
use Rattle.up_model.specs.Bringing.{bringing}
use Rattle.up_worker.specs.Wishes.{attempt, settles, is_refused, ticket_after, act_on, makes, last_of, last_wish, begins_call, wants_frames, parks, unsettled}
use Rattle.up_worker.specs.Laws.{MakesUnderWay, GoesOn, AsksAgain, Retries, GathersAfterNeeds, EndsRefused, LeavesOnce}
use Rattle.up_worker.specs.declared.course.Aim.{Aim}
use Rattle.up_worker.specs.declared.course.Doing.{Doing}
use Rattle.up_worker.specs.declared.course.Doing.TheVariants.{Idle, OneLine, Leaving}
use Rattle.up_worker.specs.declared.wish.Heard.{Heard}
use Rattle.up_worker.specs.declared.wish.Heard.TheVariants as heard
use Rattle.up_worker.specs.declared.wish.Wish.TheVariants as wishes

settled_ticket : (reply : Reply) (before : Option ℕ) → settles reply ≡ true → ticket_after reply before ≡ None
settled_ticket (replies.Needs m) before is = absurd cc
settled_ticket (replies.Blocked t) before is = absurd cc
settled_ticket replies.Waiting before is = absurd cc
settled_ticket _ before is = refl

-- a wish to act comes of no other call than its own
acts : (on : ℕ) (made : Call) (object : ℕ) (call : Call) → act_on on made ≡ wishes.Act object call → (object ≡ on) × (call ≡ made)
acts on (calls.Resize pages) object call is = absurd cc
acts on made object call is = (cc, cc)

last_is_no_act : (action : Action) (object : ℕ) (call : Call) → last_of action ≡ wishes.Act object call → ⊥
last_is_no_act actions.Age object call is = cc
last_is_no_act actions.Watch object call is = cc
last_is_no_act (actions.Relieve frames) object call is = cc
last_is_no_act actions.Recall object call is = cc
last_is_no_act actions.Lend object call is = cc
last_is_no_act _ object call is = cc

last_no_act : (doing : Doing) (object : ℕ) (call : Call) → last_wish doing ≡ wishes.Act object call → ⊥
last_no_act Idle object call is = cc
last_no_act (OneLine action) object call is = last_is_no_act action object call is
last_no_act (Leaving left) object call is = cc

last_is_no_gather : (action : Action) (count : ℕ) → last_of action ≡ wishes.Gather count → ⊥
last_is_no_gather actions.Age count is = cc
last_is_no_gather actions.Watch count is = cc
last_is_no_gather (actions.Relieve frames) count is = cc
last_is_no_gather actions.Recall count is = cc
last_is_no_gather actions.Lend count is = cc
last_is_no_gather _ count is = cc

last_no_gather : (doing : Doing) (count : ℕ) → last_wish doing ≡ wishes.Gather count → ⊥
last_no_gather Idle count is = cc
last_no_gather (OneLine action) count is = last_is_no_gather action count is
last_no_gather (Leaving left) count is = cc

-- the call is made, or the retry of its ticket
abbrev Made : Option Aim → Option ℕ → ℕ → Call → Type 0
Made aim ticket object call = (one : Aim) × (b : Brought) × (aim ≡ Some one) × (object ≡ one.object) × (call ≡ bringing b (attempt ticket one.call))

makes_acts : (aim : Option Aim) (ticket : Option ℕ) (b : Brought) (object : ℕ) (call : Call) → makes aim ticket b ≡ wishes.Act object call → Made aim ticket object call
makes_acts None ticket b object call is = absurd cc
makes_acts (Some one) ticket b object call is =
    let same = acts one.object (bringing b (attempt ticket one.call)) object call is in
    (one, b, refl, same.0, same.1)

first_acts : (test : Bool) (aim : Option Aim) (count object : ℕ) (call : Call)
    → cond test (makes aim None Nothing) (wishes.Gather count) ≡ wishes.Act object call → Made aim None object call
first_acts true aim count object call is = makes_acts aim None Nothing object call is
first_acts false aim count object call is = absurd cc

begins_acts : (doing : Doing) (aim : Option Aim) (object : ℕ) (call : Call) → begins_call doing aim ≡ wishes.Act object call → Made aim None object call
begins_acts doing None object call is = absurd (last_no_act doing object call is)
begins_acts doing (Some one) object call is = first_acts (frames_before one.call == 0) (Some one) (frames_before one.call) object call is

loan_no_act : (test : Bool) (count object : ℕ) (call : Call) → cond test wishes.Loan (wishes.Gather count) ≡ wishes.Act object call → ⊥
loan_no_act true count object call is = cc
loan_no_act false count object call is = cc

wants_no_act : (aim : Option Aim) (count object : ℕ) (call : Call) → wants_frames aim count ≡ wishes.Act object call → ⊥
wants_no_act None count object call is = cc
wants_no_act (Some one) count object call is = loan_no_act (borrows one.call) count object call is

parks_no_act : (aim : Option Aim) (object : ℕ) (call : Call) → parks aim ≡ wishes.Act object call → ⊥
parks_no_act None object call is = cc
parks_no_act (Some one) object call is = cc

unsettled_no_act : (aim : Option Aim) (reply : Reply) (object : ℕ) (call : Call) → unsettled aim reply ≡ wishes.Act object call → ⊥
unsettled_no_act aim (replies.Needs count) object call is = wants_no_act aim count object call is
unsettled_no_act aim _ object call is = parks_no_act aim object call is

settled_acts : (stops : Bool) (doing : Doing) (aim : Option Aim) (object : ℕ) (call : Call)
    → cond stops wishes.LineEnd (begins_call doing aim) ≡ wishes.Act object call → Made aim None object call
settled_acts true doing aim object call is = absurd cc
settled_acts false doing aim object call is = begins_acts doing aim object call is

reply_acts : (done : Bool) (doing : Doing) (aim : Option Aim) (ticket : Option ℕ) (reply : Reply) (object : ℕ) (call : Call) → settles reply ≡ done
    → cond done (cond (is_access doing && is_refused reply) wishes.LineEnd (begins_call doing aim)) (unsettled aim reply) ≡ wishes.Act object call
    → Made aim (ticket_after reply ticket) object call
reply_acts true doing aim ticket reply object call done is =
    subst (λ t. Made aim t object call) (sym (settled_ticket reply ticket done)) (settled_acts (is_access doing && is_refused reply) doing aim object call is)
reply_acts false doing aim ticket reply object call done is = absurd (unsettled_no_act aim reply object call is)

done_acts : (test : Bool) (aim : Option Aim) (ticket : Option ℕ) (object : ℕ) (call : Call)
    → cond test (makes aim ticket Nothing) wishes.LineEnd ≡ wishes.Act object call → Made aim ticket object call
done_acts true aim ticket object call is = makes_acts aim ticket Nothing object call is
done_acts false aim ticket object call is = absurd cc

made : (a : Acting) (h : Heard) (object : ℕ) (call : Call) → next_wish a h ≡ wishes.Act object call → Made (under_way (hears a h)) (hears a h).ticket object call
made a (heard.Replied reply) object call is =
    reply_acts (settles reply) a.doing (under_way (hears a (heard.Replied reply))) a.ticket reply object call refl is
made a (heard.Site reply) object call is = begins_acts a.doing (under_way (hears a (heard.Site reply))) object call is
made a (heard.Brought b) object call is = makes_acts (under_way a) a.ticket b object call is
made a heard.Done object call is = done_acts (is_some a.ticket) (under_way a) a.ticket object call is

pub makes_under_way : MakesUnderWay
makes_under_way a h object call is =
    let one = made a h object call is in
    record { aim = one.0; brought = one.1; is = one.2; on = one.3; made = one.4 }

pub goes_on : GoesOn
goes_on a reply is = rw is refl

pub asks_again : AsksAgain
asks_again a reply is = rw is refl

pub retries : Retries
retries a h ticket object call held is =
    let one = made a h object call is in
    let ticketed = subst (λ t. call ≡ bringing one.1 (attempt t one.0.call)) held one.4 in
    (one.1, ticketed)

-- frames
acts_no_gather : (on : ℕ) (call : Call) (count : ℕ) → act_on on call ≡ wishes.Gather count → ⊥
acts_no_gather on (calls.Resize pages) count is = cc
acts_no_gather on call count is = cc

makes_no_gather : (aim : Option Aim) (ticket : Option ℕ) (b : Brought) (count : ℕ) → makes aim ticket b ≡ wishes.Gather count → ⊥
makes_no_gather None ticket b count is = cc
makes_no_gather (Some one) ticket b count is = acts_no_gather one.object (bringing b (attempt ticket one.call)) count is

abbrev Before : Option Aim → ℕ → Type 0
Before aim count = (one : Aim) × (aim ≡ Some one) × (frames_before one.call ≡ count)

first_gathers : (test : Bool) (one : Aim) (count : ℕ)
    → cond test (makes (Some one) None Nothing) (wishes.Gather (frames_before one.call)) ≡ wishes.Gather count → Before (Some one) count
first_gathers true one count is = absurd (makes_no_gather (Some one) None Nothing count is)
first_gathers false one count is = (one, refl, cc)

begins_gathers : (doing : Doing) (aim : Option Aim) (count : ℕ) → begins_call doing aim ≡ wishes.Gather count → Before aim count
begins_gathers doing None count is = absurd (last_no_gather doing count is)
begins_gathers doing (Some one) count is = first_gathers (frames_before one.call == 0) one count is

settled_gathers : (stops : Bool) (doing : Doing) (aim : Option Aim) (count : ℕ)
    → cond stops wishes.LineEnd (begins_call doing aim) ≡ wishes.Gather count → Before aim count
settled_gathers true doing aim count is = absurd cc
settled_gathers false doing aim count is = begins_gathers doing aim count is

loan_gathers : (test : Bool) (m count : ℕ) → cond test wishes.Loan (wishes.Gather m) ≡ wishes.Gather count → m ≡ count
loan_gathers true m count is = absurd cc
loan_gathers false m count is = cc

wants_gathers : (aim : Option Aim) (m count : ℕ) → wants_frames aim m ≡ wishes.Gather count → m ≡ count
wants_gathers None m count is = absurd cc
wants_gathers (Some one) m count is = loan_gathers (borrows one.call) m count is

parks_no_gather : (aim : Option Aim) (count : ℕ) → parks aim ≡ wishes.Gather count → ⊥
parks_no_gather None count is = cc
parks_no_gather (Some one) count is = cc

unsettled_gathers : (aim : Option Aim) (reply : Reply) (count : ℕ) → unsettled aim reply ≡ wishes.Gather count → reply ≡ replies.Needs count
unsettled_gathers aim (replies.Needs m) count is = ap replies.Needs (wants_gathers aim m count is)
unsettled_gathers aim _ count is = absurd (parks_no_gather aim count is)

reply_gathers : (done : Bool) (doing : Doing) (aim : Option Aim) (reply : Reply) (count : ℕ)
    → cond done (cond (is_access doing && is_refused reply) wishes.LineEnd (begins_call doing aim)) (unsettled aim reply) ≡ wishes.Gather count
    → (heard.Replied reply ≡ heard.Replied (replies.Needs count)) ⊎ Before aim count
reply_gathers true doing aim reply count is = inr (settled_gathers (is_access doing && is_refused reply) doing aim count is)
reply_gathers false doing aim reply count is = inl (ap heard.Replied (unsettled_gathers aim reply count is))

done_no_gather : (test : Bool) (aim : Option Aim) (ticket : Option ℕ) (count : ℕ) → cond test (makes aim ticket Nothing) wishes.LineEnd ≡ wishes.Gather count → ⊥
done_no_gather true aim ticket count is = makes_no_gather aim ticket Nothing count is
done_no_gather false aim ticket count is = cc

pub gathers_after_needs : GathersAfterNeeds
gathers_after_needs a (heard.Replied reply) count is = reply_gathers (settles reply) a.doing (under_way (hears a (heard.Replied reply))) reply count is
gathers_after_needs a (heard.Site reply) count is = inr (begins_gathers a.doing (under_way (hears a (heard.Site reply))) count is)
gathers_after_needs a (heard.Brought b) count is = absurd (makes_no_gather (under_way a) a.ticket b count is)
gathers_after_needs a heard.Done count is = absurd (done_no_gather (is_some a.ticket) (under_way a) a.ticket count is)

pub ends_refused : EndsRefused
ends_refused a why is = rw is refl

-- leaves
not_true : (test : Bool) → not test ≡ true → test ≡ false
not_true true wrong = absurd cc
not_true false right = refl

kept_head : (same : Bool) (n object : ℕ) (rest left : List ℕ) → (n == object) ≡ same → not (has left n) ≡ true
    → ((n == object) || has rest object) ≡ true → (has rest object ≡ true → has left object ≡ false) → has left object ≡ false
kept_head true n object rest left is stays found later =
    let one : n ≡ object = grind (arith, nat_tests) in
    subst (λ o. has left o ≡ false) one (not_true (has left n) stays)
kept_head false n object rest left is stays found later = later (rw is at found)

kept : (test : Bool) (n object : ℕ) (rest left : List ℕ) → not (has left n) ≡ test
    → has (cond test (n ∷ rest) rest) object ≡ true → (has rest object ≡ true → has left object ≡ false) → has left object ≡ false
kept true n object rest left is found later = kept_head (n == object) n object rest left refl is found later
kept false n object rest left is found later = later found

stays : (left objects : List ℕ) (object : ℕ) → has (filter (λ o. not (has left o)) objects) object ≡ true → has left object ≡ false
stays left [] object found = absurd cc
stays left (n ∷ objects) object found =
    kept (not (has left n)) n object (filter (λ o. not (has left o)) objects) left refl found (stays left objects object)

by_kind : (none : Bool) (left objects : List ℕ) (object : ℕ) → has (cond none [] (filter (λ o. not (has left o)) objects)) object ≡ true → has left object ≡ false
by_kind true left objects object found = absurd cc
by_kind false left objects object found = stays left objects object found

pub leaves_once : LeavesOnce
leaves_once a object found = by_kind (is_evictor a.kind) a.left a.objects object found
