-- What is wished to begin a call, to make it with what was brought, and after its reply.
use Rattle.std.specs.Prelude.{ℕ, ◌==◌, ◌&&◌, Bool, true, false, cond, is_some, Option, Some, None}
use Rattle.up_model.specs.declared.entry.Brought.{Brought as BroughtValue}
use Rattle.up_model.specs.declared.entry.Brought.TheVariants.{Nothing as NothingBrought}
use Rattle.up_model.specs.declared.entry.Call.{Call}
use Rattle.up_model.specs.declared.entry.Call.TheVariants as calls
use Rattle.up_model.specs.declared.entry.Reply.{Reply as ReplyValue}
use Rattle.up_model.specs.declared.entry.Reply.TheVariants as replies
use Rattle.up_script.specs.declared.script.Action.{Action}
use Rattle.up_script.specs.declared.script.Action.TheVariants as actions
use Rattle.up_worker.specs.Calls.{frames_before, borrows, is_access}
use Rattle.up_model.specs.Bringing.{bringing}
use Rattle.up_worker.specs.declared.course.Aim.{Aim}
use Rattle.up_worker.specs.declared.course.Doing.{Doing}
use Rattle.up_worker.specs.declared.course.Doing.TheVariants.{OneLine}
use Rattle.up_worker.specs.declared.wish.Heard.{Heard}
use Rattle.up_worker.specs.declared.wish.Heard.TheVariants as heard
use Rattle.up_worker.specs.declared.wish.Wanted.{Wanted}
use Rattle.up_worker.specs.declared.wish.Wanted.TheVariants as wanted
use Rattle.up_worker.specs.declared.wish.Wish.{Wish}
use Rattle.up_worker.specs.declared.wish.Wish.TheVariants as wishes

-- which kind of answer a wish waits for
abbrev pub wants_after : Wish → Wanted
wants_after (wishes.Act object call) = wanted.Reply
wants_after (wishes.Site object step) = wanted.Site
wants_after (wishes.Resize object pages) = wanted.Site
wants_after (wishes.Gather count) = wanted.Frames
wants_after wishes.Loan = wanted.Frames
wants_after wishes.LineEnd = wanted.Nothing
wants_after _ = wanted.Done

-- what is heard is an answer of this kind
abbrev pub answers : Wanted → Heard → Bool
answers wanted.Reply (heard.Replied reply) = true
answers wanted.Site (heard.Site reply) = true
answers wanted.Frames (heard.Brought b) = true
answers wanted.Done heard.Done = true
answers _ _ = false

-- the call with this reply is done with: it asks for no frames and waits for nothing
abbrev pub settles : ReplyValue → Bool
settles (replies.Needs count) = false
settles (replies.Blocked ticket) = false
settles replies.Waiting = false
settles _ = true

abbrev pub is_refused : ReplyValue → Bool
is_refused (replies.Refused why) = true
is_refused _ = false

-- the ticket under which the call waits after this reply
abbrev pub ticket_after : ReplyValue → Option ℕ → Option ℕ
ticket_after (replies.Blocked ticket) before = Some ticket
ticket_after replies.Waiting before = before
ticket_after (replies.Needs count) before = before
ticket_after _ before = None

-- what is made for a call: itself, or the retry of its ticket
abbrev pub attempt : Option ℕ → Call → Call
attempt None call = call
attempt (Some ticket) call = calls.Retry ticket NothingBrought

-- a resize goes through the object's site
abbrev pub act_on : ℕ → Call → Wish
act_on object (calls.Resize pages) = wishes.Resize object pages
act_on object call = wishes.Act object call

-- the call is made with what was brought
abbrev pub makes : Option Aim → Option ℕ → BroughtValue → Wish
makes None ticket b = wishes.LineEnd
makes (Some aim) ticket b = act_on aim.object (bringing b (attempt ticket aim.call))

-- behind the last call of a line
abbrev pub last_of : Action → Wish
last_of actions.Age = wishes.Age
last_of actions.Watch = wishes.Watch
last_of (actions.Relieve frames) = wishes.Relieve frames
last_of actions.Recall = wishes.Keep
last_of actions.Lend = wishes.Give
last_of _ = wishes.LineEnd

abbrev pub last_wish : Doing → Wish
last_wish (OneLine action) = last_of action
last_wish _ = wishes.LineEnd

-- the next call is made with nothing brought, but a supply gathers its frames first
abbrev pub begins_call : Doing → Option Aim → Wish
begins_call doing None = last_wish doing
begins_call doing (Some aim) =
    cond (frames_before aim.call == 0) (makes (Some aim) None NothingBrought) (wishes.Gather (frames_before aim.call))

-- the call asks for frames: one loaned frame, or as many as it needs
abbrev pub wants_frames : Option Aim → ℕ → Wish
wants_frames None count = wishes.LineEnd
wants_frames (Some aim) count = cond (borrows aim.call) wishes.Loan (wishes.Gather count)

abbrev pub parks : Option Aim → Wish
parks None = wishes.LineEnd
parks (Some aim) = wishes.Park aim.object

abbrev pub unsettled : Option Aim → ReplyValue → Wish
unsettled aim (replies.Needs count) = wants_frames aim count
unsettled aim _ = parks aim

-- after the reply, where `aim` is the call that isn't settled yet
abbrev pub after_reply : Doing → Option Aim → ReplyValue → Wish
after_reply doing aim reply =
    cond (settles reply) (cond (is_access doing && is_refused reply) wishes.LineEnd (begins_call doing aim)) (unsettled aim reply)

-- after what was heard, where `aim` is the call that isn't settled yet, and `ticket` the one under which it waits
abbrev pub wish_after : Doing → Option Aim → Option ℕ → Heard → Wish
wish_after doing aim ticket (heard.Replied reply) = after_reply doing aim reply
wish_after doing aim ticket (heard.Site reply) = begins_call doing aim
wish_after doing aim ticket (heard.Brought b) = makes aim ticket b
wish_after doing aim ticket heard.Done = cond (is_some ticket) (makes aim ticket NothingBrought) wishes.LineEnd
