-- What leave to make pages dirty does, and when it is refused.
use Rattle.std.specs.Prelude.{ℕ, ◌+◌, ◌-◌, not, Bool, Option, Some, None, List}
use Rattle.up_num.specs.Span.{Span}
use Rattle.up_num.specs.declared.answers.AskKind.TheVariants.{Dirty as DirtyAsk}
use Rattle.up_num.specs.declared.answers.Outcome.TheVariants.{Freed}
use Rattle.up_num.specs.declared.answers.Refusal.{Refusal}
use Rattle.up_num.specs.declared.answers.Refusal.TheVariants as refusal
use Rattle.up_asks.specs.declared.event.Event.{Event}
use Rattle.up_model.specs.Size.{range_fits}
use Rattle.up_model.specs.Roles.{detached}
use Rattle.up_model.specs.Looks.{look_of, has_loan}
use Rattle.up_model.specs.Reply.{refuse_where, refuse_at, first_in, absent}
use Rattle.up_model.specs.declared.entry.Birth.{Birth}
use Rattle.up_model.specs.declared.entry.Entry.{Entry}
use Rattle.up_model.specs.declared.entry.Reply.{Reply}
use Rattle.up_model.specs.declared.entry.Reply.TheVariants.{Refused}
use Rattle.up_object.specs.Change.{Change}

-- the refusals that come before any frame is needed, in their order, else what comes next
abbrev pub refused_or : Birth → List Entry → Span → Reply → Reply
refused_or birth h range next =
    refuse_where (not (range_fits birth h range)) refusal.Range
    (refuse_where (not birth.trap) refusal.NotTrap
    (refuse_where (detached birth h) refusal.Detached
    (refuse_at (first_in (absent birth h) range) refusal.NotFound next)))

-- a refusal where there is one, else what comes next
abbrev pub or_refused : Option Refusal → Reply → Reply
or_refused None next = next
or_refused (Some why) next = Refused why

-- the page has a loaned frame
abbrev pub lent : Birth → List Entry → ℕ → Bool
lent birth h p = has_loan (look_of birth h p)

-- leave for those who wait to make pages dirty
abbrev pub freed : Span → Event
freed range = record { kind = DirtyAsk; range = range; outcome = Freed }

-- n pages further, with so many of the given frames used
abbrev pub further_using : ℕ → ℕ → Change → Change
further_using used n change = record change { done = record change.done { mark = change.done.mark + n }; given = change.given - used }
