-- Which actors wait.
use Rattle.std.specs.Prelude.{ℕ, ◌==◌, cond, Option, Some, None, List, [], ◌∷◌}
use Rattle.up_model.specs.declared.entry.Entry.{Entry}
use Rattle.up_model.specs.declared.entry.Call.{Call}
use Rattle.up_model.specs.declared.entry.Call.TheVariants.{Retry}
use Rattle.up_model.specs.declared.entry.Reply.{Reply}
use Rattle.up_model.specs.declared.entry.Reply.TheVariants.{Blocked, Waiting}

abbrev pub retried : Call → Option ℕ
retried (Retry ticket brought) = Some ticket
retried _ = None

-- the ticket under which an actor waits after a call with this reply: a new one, or the one that it retried
abbrev pub waits_after : Reply → Call → Option ℕ
waits_after (Blocked ticket) call = Some ticket
waits_after Waiting call = retried call
waits_after _ call = None

-- the ticket under which an actor waits: its last entry decides
abbrev pub waits_under : List Entry → ℕ → Option ℕ
waits_under [] who = None
waits_under (e ∷ before) who = cond (e.who == who) (waits_after e.reply e.call) (waits_under before who)
