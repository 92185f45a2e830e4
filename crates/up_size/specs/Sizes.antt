-- What zeros and a resize make of those who wait, and why they are refused.
use Rattle.std.specs.Prelude.{ℕ, ◌&&◌, Bool, cond, Option, Some, None, List, [], ◌∷◌, nat_le}
use Rattle.up_num.specs.Span.{Span, covers}
use Rattle.up_num.specs.declared.answers.AskKind.{AskKind}
use Rattle.up_num.specs.declared.answers.AskKind.TheVariants.{Read as ReadAsk, Dirty as DirtyAsk}
use Rattle.up_num.specs.declared.answers.Outcome.{Outcome}
use Rattle.up_num.specs.declared.answers.Outcome.TheVariants.{Waiting}
use Rattle.up_num.specs.declared.answers.Refusal.{Refusal}
use Rattle.up_asks.specs.declared.event.Event.{Event}
use Rattle.up_model.specs.Reply.{is_pinned}
use Rattle.up_model.specs.declared.entry.Entry.{Entry}
use Rattle.up_model.specs.declared.entry.Reply.{Reply}
use Rattle.up_model.specs.declared.entry.Reply.TheVariants.{Refused}

-- the same becomes of all who wait for a page of the range
abbrev pub over : Span → Outcome → AskKind → ℕ → Outcome
over range outcome kind p = cond (covers range p) outcome Waiting

-- it as events
abbrev pub event_over : AskKind → Span → Outcome → Event
event_over kind range outcome = record { kind = kind; range = range; outcome = outcome }

abbrev pub both_over : Span → Outcome → List Event
both_over range outcome = event_over ReadAsk range outcome ∷ event_over DirtyAsk range outcome ∷ []

-- a refusal where there is one, else what comes next
abbrev pub or_refused : Option Refusal → Reply → Reply
or_refused None next = next
or_refused (Some why) next = Refused why

-- a pinned page that a size cuts off
abbrev pub pinned_past : List Entry → ℕ → ℕ → Bool
pinned_past h pages p = nat_le pages p && is_pinned h p
