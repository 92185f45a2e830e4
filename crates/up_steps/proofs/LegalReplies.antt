-- Legal journals are answered by the rule of replies.
use Rattle.std.proofs.Common.{◌≡◌, ℕ, ◌==◌, Bool, true, false, cond, List, [], ◌∷◌, refl}
use Rattle.up_model.specs.Legal.{Legal}
use Rattle.up_model.specs.Reply.{reply}
use Rattle.up_model.specs.declared.entry.Birth.{Birth}
use Rattle.up_model.specs.declared.entry.Call.{Call}
use Rattle.up_model.specs.declared.entry.Entry.{Entry}
use Rattle.up_model.specs.declared.entry.Reply.{Reply}
use Rattle.up_worker.specs.Courses.{Entered}
use Rattle.up_worker.specs.Thread.{of_object}
use Rattle.up_steps.specs.Laws.{Answered, AreLegal, LinesDecide}
use Rattle.up_steps.proofs.OwnEntries.{same_test}
use Rattle.up_steps.proofs.LineSteps.{steps_decide}

abbrev pub due_by : (ℕ → Birth) → List Entered → ℕ → ℕ → ℕ → Call → Reply
due_by births before object who epoch call = reply (births object) (of_object object before) who epoch call

legal_rest : (test : Bool) (birth : Birth) (e : Entry) (before : List Entry) → Legal birth (cond test (e ∷ before) before) → Legal birth before
legal_rest true birth e before legal = legal.0
legal_rest false birth e before legal = legal

legal_here : (test : Bool) (birth : Birth) (e : Entry) (before : List Entry) → test ≡ true → Legal birth (cond test (e ∷ before) before)
    → e.reply ≡ reply birth before e.who e.epoch e.call
legal_here true birth e before is legal = legal.2
legal_here false birth e before is legal = absurd cc

pub answered : (births : ℕ → Birth) (g : List Entered) → AreLegal births g → Answered (due_by births) g
answered births [] legal = tt
answered births (x ∷ before) legal = (
  answered births before (λ object. legal_rest (x.object == object) (births object) x.entry (of_object object before) (legal object)),
  legal_here (x.object == x.object) (births x.object) x.entry (of_object x.object before) (same_test x.object x.object refl) (legal x.object),
)

pub lines_decide : LinesDecide
lines_decide s births lines m k g h one two first second =
    steps_decide s (due_by births) lines m k g h one two (answered births g first) (answered births h second)
