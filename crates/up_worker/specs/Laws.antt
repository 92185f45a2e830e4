-- Laws of an actor's wishes.
use Rattle.std.specs.Prelude.{◌≡◌, ℕ, ◌+◌, ◌⊎◌, true, false, Some, slice_get}
use Rattle.up_num.specs.declared.answers.Refusal.{Refusal}
use Rattle.up_model.specs.declared.entry.Brought.{Brought}
use Rattle.up_model.specs.declared.entry.Call.{Call}
use Rattle.up_model.specs.declared.entry.Call.TheVariants as calls
use Rattle.up_model.specs.declared.entry.Reply.{Reply}
use Rattle.up_model.specs.declared.entry.Reply.TheVariants as replies
use Rattle.up_worker.specs.Acting.{Acting, under_way, hears, next_wish, next_acting, has, to_leave}
use Rattle.up_worker.specs.Calls.{calls_of, frames_before, is_access}
use Rattle.up_model.specs.Bringing.{bringing}
use Rattle.up_worker.specs.Wishes.{attempt, settles}
use Rattle.up_worker.specs.declared.course.Aim.{Aim}
use Rattle.up_worker.specs.declared.wish.Heard.{Heard}
use Rattle.up_worker.specs.declared.wish.Heard.TheVariants as heard
use Rattle.up_worker.specs.declared.wish.Wish.TheVariants as wishes

-- the actor's call that isn't settled yet is made, or the retry of the ticket under which it waits
pub record Makes (a : Acting) (object : ℕ) (call : Call) : Type 0 where
  pub aim : Aim
  pub brought : Brought
  pub is : under_way a ≡ Some aim
  pub on : object ≡ aim.object
  pub made : call ≡ bringing brought (attempt a.ticket aim.call)

abbrev pub MakesUnderWay : Type 0
MakesUnderWay = (a : Acting) (h : Heard) (object : ℕ) (call : Call) → next_wish a h ≡ wishes.Act object call → Makes (hears a h) object call

abbrev pub GoesOn : Type 0
GoesOn = (a : Acting) (reply : Reply) → settles reply ≡ true
    → under_way (next_acting a (heard.Replied reply)) ≡ slice_get (calls_of a.kind a.objects a.doing) (a.settled + 1)

abbrev pub AsksAgain : Type 0
AsksAgain = (a : Acting) (reply : Reply) → settles reply ≡ false → under_way (next_acting a (heard.Replied reply)) ≡ under_way a

abbrev pub Retries : Type 0
Retries = (a : Acting) (h : Heard) (ticket object : ℕ) (call : Call) → (next_acting a h).ticket ≡ Some ticket
    → next_wish a h ≡ wishes.Act object call → (b : Brought) × (call ≡ calls.Retry ticket b)

abbrev pub GathersAfterNeeds : Type 0
GathersAfterNeeds = (a : Acting) (h : Heard) (count : ℕ) → next_wish a h ≡ wishes.Gather count
    → (h ≡ heard.Replied (replies.Needs count)) ⊎ ((aim : Aim) × (under_way (hears a h) ≡ Some aim) × (frames_before aim.call ≡ count))

abbrev pub EndsRefused : Type 0
EndsRefused = (a : Acting) (why : Refusal) → is_access a.doing ≡ true → next_wish a (heard.Replied (replies.Refused why)) ≡ wishes.LineEnd

abbrev pub LeavesOnce : Type 0
LeavesOnce = (a : Acting) (object : ℕ) → has (to_leave a) object ≡ true → has a.left object ≡ false
