-- What one thread makes of a script's lines, and of each actor's.
use Rattle.std.specs.Prelude.{◌≡◌, ℕ, true, List, [], ◌∷◌}
use Rattle.up_script.specs.declared.script.Line.{Line}
use Rattle.up_model.specs.Legal.{Legal}
use Rattle.up_model.specs.declared.entry.Birth.{Birth}
use Rattle.up_model.specs.declared.entry.Call.{Call}
use Rattle.up_model.specs.declared.entry.Reply.{Reply}
use Rattle.up_worker.specs.Courses.{Entered, is_told, lines as begun}
use Rattle.up_worker.specs.Rules.{Rules}
use Rattle.up_worker.specs.Thread.{of_object}
use Rattle.up_worker.specs.declared.course.Doing.{Doing}
use Rattle.up_steps.specs.Steps.{Setting, Moment, Steps}
use Rattle.up_steps.specs.Told.{own}
use Rattle.up_steps.specs.OneThread.{ActorEvent, entries, events_of, moment_in, OneThread, Ran}

abbrev pub StepsFollow : Type 0
StepsFollow = (s : Setting) (lines : List Line) (history : List ActorEvent) → OneThread s history → Ran s lines history → Steps s lines (moment_in s history) (entries history)

-- lines that are told by the entries of their calls
abbrev pub AllTold : List Doing → Type 0
AllTold [] = Unit {0}
AllTold (doing ∷ earlier) = (is_told doing ≡ true) × AllTold earlier

-- an actor's entries keep the rules on what is pending and on tickets, where its lines are told so
abbrev pub KeepsRules : Type 0
KeepsRules = (s : Setting) (who : ℕ) (history : List ActorEvent) → OneThread s history → AllTold (begun (events_of who history)) → Rules (own who (entries history))

-- each entry's reply is the one that the entries before it give
abbrev pub Answered : (List Entered → ℕ → ℕ → ℕ → Call → Reply) → List Entered → Type 0
Answered due [] = Unit {0}
Answered due (x ∷ before) = Answered due before × (x.entry.reply ≡ due before x.object x.entry.who x.entry.epoch x.entry.call)

-- two lists of entries that are the steps of the same lines, and are answered by the same rule, are one
abbrev pub StepsDecide : Type 0
StepsDecide =
    (s : Setting) (due : List Entered → ℕ → ℕ → ℕ → Call → Reply) (lines : List Line) (m k : Moment) (g h : List Entered) → Steps s lines m g → Steps s lines k h
    → Answered due g → Answered due h → (g ≡ h) × (m ≡ k)

-- each object's journal is legal
abbrev pub AreLegal : (ℕ → Birth) → List Entered → Type 0
AreLegal births g = (object : ℕ) → Legal (births object) (of_object object g)

-- the entries that lines make of objects with these births are decided
abbrev pub LinesDecide : Type 0
LinesDecide =
    (s : Setting) (births : ℕ → Birth) (lines : List Line) (m k : Moment) (g h : List Entered) → Steps s lines m g → Steps s lines k h → AreLegal births g
    → AreLegal births h → (g ≡ h) × (m ≡ k)
