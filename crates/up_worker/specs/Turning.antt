-- What a sample pager's steps are, as entries: one step, a step with the frames that it asks for, so many
-- steps of a worker, and those of a sync. Entries stand newest first.
use Rattle.std.specs.Prelude.{◌≡◌, ℕ, ◌==◌, ◌++◌, Bool, true, false, Some, None, List, [], ◌∷◌, zero, suc}
use Rattle.up_span.specs.declared.run.Run.{Run}
use Rattle.up_model.specs.declared.entry.Birth.{Birth}
use Rattle.up_model.specs.declared.entry.Brought.{Brought}
use Rattle.up_model.specs.declared.entry.Brought.TheVariants.{Nothing}
use Rattle.up_model.specs.declared.entry.Call.{Call}
use Rattle.up_model.specs.declared.entry.Call.TheVariants.{Tell}
use Rattle.up_model.specs.declared.entry.Entry.{Entry}
use Rattle.up_claims.specs.Claimed.{claim_of}
use Rattle.up_claims.specs.Sited.{Deed, Rests, Makes, Tells, tell_of, deed_of, answer_of}
use Rattle.up_claims.specs.declared.step.SiteReply.{SiteReply}
use Rattle.up_claims.specs.declared.step.SiteReply.TheVariants.{Needs}
use Rattle.up_claims.specs.declared.step.SiteStep.{SiteStep}
use Rattle.up_worker.specs.Frames.{Judge}
use Rattle.up_worker.specs.Courses.{Entered, OwnEvicts}
use Rattle.up_worker.specs.Program.{step_of, task_after, sync_after, set_after, is_busy, frames_first, frames_asked}
use Rattle.up_worker.specs.Thread.{of_object}
use Rattle.up_worker.specs.declared.task.Task.{Task}

-- the one entry that a step makes by a call, and what it answers
pub record MakesCall (birth : Birth) (h : List Entry) (who object : ℕ) (answer : SiteReply) (call : Call)
    (made : List Entered)
    : Type 0 where
  pub entry : Entry
  pub is : made ≡ record { object = object; entry = entry } ∷ []
  pub by : entry.who ≡ who
  pub of_call : entry.call ≡ call
  pub told : answer ≡ answer_of birth h (claim_of h who) call entry.reply

-- what comes of a deed: an answer without an entry, or an entry; a call on the disk may have gone well or not
abbrev pub Does : Birth → List Entry → ℕ → ℕ → SiteReply → List Entered → Deed → Type 0
Does birth h who object answer made (Rests told) = (answer ≡ told) × (made ≡ [])
Does birth h who object answer made (Makes call) = MakesCall birth h who object answer call made
Does birth h who object answer made (Tells fact) =
    (ok : Bool) × MakesCall birth h who object answer (Tell (tell_of fact ok)) made

-- One step of an actor that has frames in hand, after the entries before it: what it does is read off the
-- object's journal. Only the bytes of a fetch are free.
abbrev pub StepDone : (ℕ → Birth) → ℕ → ℕ → SiteStep → Brought → List Entered → List Entered → SiteReply
    → Type 0
StepDone births who object step b before made answer =
    (bytes : List ℕ) × Does (births object) (of_object object before) who object answer made
    (deed_of (births object) (of_object object before) who b bytes step)

-- frames that an actor gathers, with evicts of its own
pub record Gathered (j : Judge) (who count : ℕ) (before : List Entered) : Type 0 where
  pub brought : Brought
  pub evicts : List Entered
  pub own : OwnEvicts who evicts
  pub judged : j.gathers count brought evicts before

-- A step is made, and where it asks for frames they are gathered, and it is made again with them.
pub data Tries (j : Judge) (births : ℕ → Birth) (who object : ℕ) (step : SiteStep)
    : Brought → List Entered → List Entered → SiteReply → Type 0 where
  Once : (b : Brought) (before made : List Entered) (answer : SiteReply)
      → StepDone births who object step b before made answer
      → frames_asked answer ≡ None → Tries j births who object step b before made answer
  Again : (b : Brought) (before asking : List Entered) (count : ℕ) (rest : List Entered) (answer : SiteReply)
      → StepDone births who object step b before asking (Needs count)
      → (g : Gathered j who count (asking ++ before))
      → Tries j births who object step g.brought (g.evicts ++ (asking ++ before)) rest answer
      → Tries j births who object step b before (rest ++ (g.evicts ++ asking)) answer

-- A task is done by its step: first a frame is gathered for a page that was fetched well.
pub data TaskDone (j : Judge) (births : ℕ → Birth) (who object : ℕ) (task : Task) (set : List Run)
    : List Entered → List Entered → SiteReply → Type 0 where
  Bare : (before made : List Entered) (answer : SiteReply) → (frames_first task == 0) ≡ true
      → Tries j births who object (step_of task set) Nothing before made answer
      → TaskDone j births who object task set before made answer
  Framed : (before rest : List Entered) (answer : SiteReply) → (frames_first task == 0) ≡ false
      → (g : Gathered j who (frames_first task) before)
      → Tries j births who object (step_of task set) g.brought (g.evicts ++ before) rest answer
      → TaskDone j births who object task set before (rest ++ g.evicts) answer

-- so many steps of a worker, from a task on, and the task behind them
abbrev pub TurnSteps : Judge → (ℕ → Birth) → ℕ → ℕ → Task → List Run → ℕ → List Entered → List Entered
    → Task → Type 0
TurnSteps j births who object task set zero start made next = (made ≡ []) × (next ≡ task)
TurnSteps j births who object task set (suc n) start made next =
    (mid : Task) × (old : List Entered) × (now : List Entered) × (answer : SiteReply) × (made ≡ now ++ old)
    × TurnSteps j births who object task set n start old mid × TaskDone j births who object mid set
    (old ++ start) now answer
    × (next ≡ task_after mid answer)

-- where a sync rests: it is parked with the pages that it still has to begin to write back, or done
pub data SyncEnd : Type 0 where
  Parked : List Run → SyncEnd
  Done : SyncEnd

-- the steps of a sync from a task on, up to where it rests
pub data SyncSteps (births : ℕ → Birth) (who object : ℕ) : Task → List Run → List Entered → List Entered
    → SyncEnd → Type 0 where
  Parks : (task : Task) (set : List Run) (before made : List Entered) (answer : SiteReply)
      → StepDone births who object (step_of task set) Nothing before made answer → is_busy answer ≡ true
      → SyncSteps births who object task set before made (Parked set)
  Ends : (task : Task) (set : List Run) (before made : List Entered) (answer : SiteReply)
      → StepDone births who object (step_of task set) Nothing before made answer → sync_after answer ≡ None
      → SyncSteps births who object task set before made Done
  Next : (task : Task) (set : List Run) (before made : List Entered) (answer : SiteReply) (next : Task)
      (rest : List Entered)
      (end : SyncEnd) → StepDone births who object (step_of task set) Nothing before made answer
      → is_busy answer ≡ false
      → sync_after answer ≡ Some next
      → SyncSteps births who object next (set_after set answer) (made ++ before) rest end
      → SyncSteps births who object task set before (rest ++ made) end
