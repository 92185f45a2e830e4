-- The frames that a call is handed, and what a call by value makes of an object.
use Rattle.std.specs.Prelude.{◌≡◌, ℕ, ◌+◌, ◌==◌, cond, Option, Some, None, List, [], length, Result, IfOk, IfErr, OnOk, OnErr}
use Rattle.up_bank.specs.Standing.{Held as Frame}
use Rattle.up_pages.specs.Frames.{Stock}
use Rattle.up_model.specs.declared.entry.Brought.{Brought}
use Rattle.up_model.specs.declared.entry.Brought.TheVariants as brought
use Rattle.up_model.specs.declared.entry.Call.{Call}
use Rattle.up_model.specs.declared.entry.Reply.{Reply}
use Rattle.up_model.specs.declared.entry.Reply.TheVariants.{Refused as RefusedReply, Needs as NeedsReply}
use Rattle.up_object.specs.declared.step.FramesIn.{FramesIn}
use Rattle.up_object.specs.declared.step.FramesIn.TheVariants.{NoneYet, Given, Scanned}
use Rattle.up_object.specs.declared.step.Declined.{Declined}
use Rattle.up_object.specs.declared.step.Declined.TheVariants.{Refused, Needs}
use Rattle.up_object.specs.declared.step.Stepped.{Stepped}
use Rattle.up_object.specs.Change.{Change, AllOwn}
use Rattle.up_object.specs.Whole.{Whole, after}
use Rattle.up_object.specs.Answered.{RepliesAsDue, FramesBalance}

-- so many frames, of which none are as if none were given yet
abbrev pub brought_count : ℕ → Brought
brought_count n = cond (n == 0) brought.Nothing (brought.Frames n)

-- what a call's entry says of the frames that it was handed
abbrev pub brought_of : FramesIn → Brought
brought_of NoneYet = brought.Nothing
brought_of (Given frames) = brought_count (length frames.items)
brought_of (Scanned scan) = brought.Scanned

-- all of them
abbrev pub frames_of : FramesIn → List Frame
frames_of NoneYet = []
frames_of (Given frames) = frames.items
frames_of (Scanned scan) = []

abbrev pub declined_reply : Declined → Reply
declined_reply (Refused why) = RefusedReply why
declined_reply (Needs count) = NeedsReply count

-- what keeps a call from being done, else what comes next
abbrev pub or_declined : Option Declined → Reply → Reply
or_declined None next = next
or_declined (Some why) next = declined_reply why

-- n pages further
abbrev pub further : ℕ → Change → Change
further n change = record change { done = record change.done { mark = change.done.mark + n } }

-- Where it answers, the object's journal has the call's entry more, the reply is the one that is due, frames
-- are in balance, and those that come back are of the object's banks. After want of memory the object is as
-- before, and the frames that were given come back.
pub record DoesCall {E : Type 0} (old new : Whole) (step : Result Stepped (E × Stock))
    (who epoch : ℕ) (call : Call) (given : List Frame) : Type 0 where
  pub ok : OnOk step (new ≡ after old who epoch call)
  pub due : RepliesAsDue old who epoch call step
  pub frames : FramesBalance old new given step
  pub own : IfOk step (λ s. AllOwn old.banks s.back.items)
  pub err : OnErr step (new ≡ old)
  pub back : IfErr step (λ failed. failed.1.items ≡ given)
