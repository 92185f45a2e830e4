-- What an end makes of a page, and of those who wait for it.
use Rattle.std.specs.Prelude.{ℕ, Bool, false, Option, Some, None}
use Rattle.up_num.specs.declared.answers.AskKind.TheVariants.{Dirty as DirtyAsk}
use Rattle.up_num.specs.declared.answers.Outcome.TheVariants.{Freed}
use Rattle.up_asks.specs.declared.event.Event.{Event}
use Rattle.up_model.specs.Looks.{PageLook, Zeros}
use Rattle.up_model.specs.declared.entry.Reply.{Reply}
use Rattle.up_model.specs.declared.entry.Reply.TheVariants.{Done, Began}

-- zeros go at an end that is for them
abbrev pub goes_at_end : Bool → PageLook → Bool
goes_at_end ended (Zeros state) = ended
goes_at_end ended _ = false

-- what a begin answers, by the number that it gets
abbrev pub begun_reply : Option ℕ → Reply
begun_reply None = Done
begun_reply (Some n) = Began n

-- leave for those who wait to make a page dirty
abbrev pub freed_page : ℕ → Event
freed_page p = record { kind = DirtyAsk; range = record { first = p; count = 1 }; outcome = Freed }
