-- What an access to an object comes to, and what it asks for where it has to wait.
use Rattle.std.specs.Prelude.{◌≡◌, ℕ, ◌+◌, ◌<◌, ◌≤◌, ◌^◌, not, Bool, true, false, cond, Some, None, is_some, List, length, nat_lt}
use Rattle.up_num.specs.declared.answers.AskKind.{AskKind}
use Rattle.up_num.specs.declared.answers.AskKind.TheVariants.{Read as ReadAsk, Dirty as DirtyAsk}
use Rattle.up_num.specs.declared.answers.Refusal.TheVariants as refusal
use Rattle.up_num.specs.declared.answers.PageState.{PageState}
use Rattle.up_num.specs.declared.answers.PageState.TheVariants.{Dirty}
use Rattle.up_span.specs.Runs.{runs}
use Rattle.up_model.specs.Attempts.{Access, page_of}
use Rattle.up_model.specs.Size.{size}
use Rattle.up_model.specs.Value.{there, bytes_from}
use Rattle.up_model.specs.Roles.{detached}
use Rattle.up_model.specs.Asks.{lacks, kind_of, want, asked}
use Rattle.up_model.specs.Tickets.{next_ticket}
use Rattle.up_model.specs.Looks.{PageLook, Missing, Zeros, Framed, look_of, is_present, lacks_own_frame}
use Rattle.up_model.specs.Reply.{access_reply, frames_in}
use Rattle.up_model.specs.declared.entry.Birth.{Birth}
use Rattle.up_model.specs.declared.entry.Brought.{Brought}
use Rattle.up_model.specs.declared.entry.Brought.TheVariants.{Nothing, Frames, Scanned}
use Rattle.up_model.specs.declared.entry.Entry.{Entry}
use Rattle.up_model.specs.declared.entry.Reply.{Reply}
use Rattle.up_model.specs.declared.entry.Reply.TheVariants as answer
use Rattle.up_object.specs.declared.step.Declined.TheVariants.{Refused, Needs}
use Rattle.up_object.specs.OneCall.{declined_reply}
use Rattle.up_fault.specs.declared.access.Attempt.{Attempt}
use Rattle.up_fault.specs.declared.access.Decision.{Decision}
use Rattle.up_fault.specs.declared.access.Decision.TheVariants.{Decline, Park, Done}
use Rattle.up_fault.specs.declared.wanting.Shortfall.{Shortfall}

abbrev pub is_dirty_state : PageState → Bool
is_dirty_state Dirty = true
is_dirty_state _ = false

-- the page is there and dirty
abbrev pub dirty_look : PageLook → Bool
dirty_look Missing = false
dirty_look (Zeros state) = is_dirty_state state
dirty_look (Framed state loan) = is_dirty_state state

-- the access, where a write brings these bytes
abbrev pub access_in : Attempt → List ℕ → Access
access_in attempt bytes = record { off = attempt.off; len = attempt.len; last = attempt.last.0; bytes = cond attempt.write (Some bytes) None }

-- what an access that is done answers
abbrev pub done_reply : Birth → List Entry → Access → Reply
done_reply birth h a = cond (is_some a.bytes) answer.Done (answer.Bytes (bytes_from birth h a.off a.len))

-- an access that must wait, by whether the object is detached
abbrev pub wait_verdict : Bool → AskKind → Decision
wait_verdict gone kind = cond gone (Decline (Refused refusal.Detached)) (Park kind)

-- a write that needs one frame
abbrev pub frame_verdict : Brought → Decision
frame_verdict Nothing = Decline (Needs 1)
frame_verdict (Frames n) = cond (nat_lt n 1) (Decline (Needs 1)) Done
frame_verdict Scanned = Decline (Refused refusal.NoFrames)

-- what an access comes to, by whether it lies within the object, its page is there, it writes, it must ask for leave first, its page
-- lacks a frame of its own, and the object is detached
abbrev pub decision : Bool → Bool → Bool → Bool → Bool → Bool → Brought → Decision
decision within here writes leave lacking gone brought =
    cond (not within) (Decline (Refused refusal.Range))
    (cond (not here) (wait_verdict gone ReadAsk)
    (cond (not writes) Done
    (cond leave (wait_verdict gone DirtyAsk)
    (cond lacking (frame_verdict brought) Done))))

-- it waits, and asks with this kind
pub record Parking (birth : Birth) (h : List Entry) (a : Access) (brought : Brought) (kind : AskKind) : Type 0 where
  pub answers : access_reply birth h a brought ≡ answer.Blocked (next_ticket h)
  pub asks : kind_of birth h a ≡ kind
  pub lacking : lacks birth h kind (page_of a.off) ≡ true
  pub attached : detached birth h ≡ false
  pub low : page_of a.off < size birth h

-- it is done; a write has the frame that it needs
pub record Doing (birth : Birth) (h : List Entry) (a : Access) (brought : Brought) : Type 0 where
  pub answers : access_reply birth h a brought ≡ done_reply birth h a
  pub here : there birth h (page_of a.off) ≡ true
  pub present : is_present (look_of birth h (page_of a.off)) ≡ true
  pub low : page_of a.off < size birth h
  pub framed : is_some a.bytes ≡ true → lacks_own_frame (look_of birth h (page_of a.off)) ≡ true → 0 < frames_in brought

-- what the decision says of the access
abbrev pub Decided : Birth → List Entry → Access → Brought → Decision → Type 0
Decided birth h a brought (Decline why) = access_reply birth h a brought ≡ declined_reply why
Decided birth h a brought (Park kind) = Parking birth h a brought kind
Decided birth h a brought Done = Doing birth h a brought

-- what an access that waits asks for, with the runs of it that nobody asked for yet
pub record Wants (birth : Birth) (h : List Entry) (a : Access) (wanted : Shortfall) : Type 0 where
  pub asks : want birth h a ≡ record { kind = wanted.kind; first = wanted.range.first; count = wanted.range.count }
  pub fresh : wanted.parts ≡ runs (λ p. not (asked birth h wanted.kind p)) wanted.range.first 0 wanted.range.count
  pub fits : wanted.range.first + wanted.range.count ≤ size birth h
  pub few : length wanted.parts < 2 ^ 32
