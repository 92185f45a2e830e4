-- How far actors have come with their lines, and what doing lines in order makes of a script's objects and actors.
use Rattle.std.specs.Prelude.{◌≡◌, ℕ, ◌+◌, ◌<◌, ◌≤◌, ◌==◌, ◌&&◌, ◌++◌, Bool, true, false, Some, List, [], ◌∷◌, length, take, reverse, slice_get, slice_index}
use Rattle.std.specs.List.{list_all}
use Rattle.up_model.specs.declared.entry.Birth.{Birth}
use Rattle.up_script.specs.Fit.{may_do}
use Rattle.up_script.specs.declared.script.Line.{Line}
use Rattle.up_worker.specs.Courses.{lines as begun}
use Rattle.up_steps.specs.Steps.{Setting}
use Rattle.up_steps.specs.Told.{is_go, is_played, given_to, kind_at}
use Rattle.up_steps.specs.OneThread.{ActorEvent, events_of, is_parked, GoesOn, LineRan, Ran}
use Rattle.up_stage.specs.Scheduled.{Scheduled, SameShape}
use Rattle.up_stage.specs.Ready.{AtRest}
use Rattle.up_stage.specs.LeadsTo.{LeadsToRest}

-- an actor has begun its lines up to line `at`, and no other
abbrev pub HasBegun : List Line → ℕ → ℕ → List ActorEvent → Type 0
HasBegun lines who at history = begun (events_of who history) ≡ given_to who (reverse (take at lines))

-- each actor has begun its lines up to that to which it is done, and where it isn't parked all up to line `at`
pub record Paced (s : Setting) (lines : List Line) (at : ℕ) (history : List ActorEvent) (done : List ℕ) : Type 0 where
  pub pace : (who : ℕ) → who < length done → HasBegun lines who (slice_index done who) history
  pub low : (who : ℕ) → who < length done → slice_index done who ≤ at
  pub even : (who : ℕ) → who < length done → is_parked s who history ≡ false → HasBegun lines who at history

-- an actor went on with the lines that were put off, up to line `at`
pub record CaughtTo (births : List Birth) (s : Setting) (lines : List Line) (who at : ℕ) (history : List ActorEvent) (scheduler : Scheduled) : Type 0 where
  pub more : List ActorEvent
  pub stands : LeadsToRest births s (more ++ history) scheduler
  pub goes : GoesOn s who more history
  pub pace : HasBegun lines who at (more ++ history)

-- and it is parked, or has begun all its lines before line `end`
pub record CaughtUp (births : List Birth) (s : Setting) (lines : List Line) (who end at : ℕ) (history : List ActorEvent) (scheduler : Scheduled) : Type 0 where
  pub caught : CaughtTo births s lines who at history scheduler
  pub low : at ≤ end
  pub even : is_parked s who (caught.more ++ history) ≡ false → HasBegun lines who end (caught.more ++ history)

-- what is kept while an actor catches up: the others' places in the lines
pub record SameOthers (who : ℕ) (old new : List ℕ) : Type 0 where
  pub count : length new ≡ length old
  pub others : (other : ℕ) → (who == other) ≡ false → slice_index new other ≡ slice_index old other

pub record CatchingUp (lines : List Line) (who at : ℕ) (old new : Scheduled) : Type 0 where
  pub rest : AtRest new
  pub shape : SameShape old new
  pub done : SameOthers who old.done new.done
  pub place : slice_index new.done who ≡ at
  pub went : (births : List Birth) (s : Setting) (history : List ActorEvent) → LeadsToRest births s history old → HasBegun lines who (slice_index old.done who) history
      → CaughtTo births s lines who at history new

pub record CatchesUp (lines : List Line) (who end : ℕ) (old new : Scheduled) : Type 0 where
  pub rest : AtRest new
  pub shape : SameShape old new
  pub done : SameOthers who old.done new.done
  pub went : (births : List Birth) (s : Setting) (history : List ActorEvent) → LeadsToRest births s history old → HasBegun lines who (slice_index old.done who) history
      → slice_index old.done who ≤ end → CaughtUp births s lines who end (slice_index new.done who) history new

-- one line more is done
pub record OneLineDone (births : List Birth) (s : Setting) (lines : List Line) (at : ℕ) (history : List ActorEvent) (scheduler : Scheduled) : Type 0 where
  pub now : List ActorEvent
  pub stands : LeadsToRest births s now scheduler
  pub line : Line
  pub is : slice_get lines at ≡ Some line
  pub ran : LineRan s (line ∷ reverse (take at lines)) line (is_go line.action) (is_parked s line.actor history) history now
  pub paced : Paced s lines (at + 1) now scheduler.done

pub record DoesLine (lines : List Line) (at : ℕ) (old new : Scheduled) : Type 0 where
  pub rest : AtRest new
  pub shape : SameShape old new
  pub went : (births : List Birth) (s : Setting) (history : List ActorEvent) → LeadsToRest births s history old → Paced s lines at history old.done → OneLineDone births s lines at history new

-- all lines before line `at` are done
pub record AllLinesDone (births : List Birth) (s : Setting) (lines : List Line) (at : ℕ) (scheduler : Scheduled) : Type 0 where
  pub history : List ActorEvent
  pub stands : LeadsToRest births s history scheduler
  pub ran : Ran s (reverse (take at lines)) history
  pub paced : Paced s lines at history scheduler.done

abbrev pub is_own_line : Setting → Line → Bool
is_own_line s line = may_do (kind_at s.actors line.actor) line.action && is_played line.action

pub record GoesThrough (lines : List Line) (at : ℕ) (old new : Scheduled) : Type 0 where
  pub rest : AtRest new
  pub shape : SameShape old new
  pub went : (births : List Birth) (s : Setting) → list_all (is_own_line s) lines ≡ true → LeadsToRest births s [] old → Paced s lines 0 [] old.done → AllLinesDone births s lines at new
