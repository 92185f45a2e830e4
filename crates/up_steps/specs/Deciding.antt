-- That a worker's turns and a user's sync decide their entries, once it is given what came of each call on a disk, and which bytes were read.
use Rattle.std.specs.Prelude.{◌≡◌, ℕ, Bool, List, [], ◌∷◌, ◌++◌}
use Rattle.up_span.specs.declared.run.Run.{Run}
use Rattle.up_model.specs.declared.entry.Birth.{Birth}
use Rattle.up_model.specs.declared.entry.Call.{Call}
use Rattle.up_model.specs.declared.entry.Call.TheVariants as calls
use Rattle.up_model.specs.declared.entry.Reply.{Reply}
use Rattle.up_model.specs.declared.entry.Told.{Told}
use Rattle.up_model.specs.declared.entry.Told.TheVariants as told
use Rattle.up_worker.specs.Courses.{Entered}
use Rattle.up_worker.specs.Thread.{exact}
use Rattle.up_worker.specs.Turning.{TurnSteps, SyncSteps, SyncEnd}
use Rattle.up_worker.specs.declared.task.Task.{Task}
use Rattle.up_steps.specs.Laws.{Answered, AreLegal}
use Rattle.up_steps.specs.Steps.{AllAt}

-- what is told of a call on a disk says that it went so
abbrev pub IsSo : Bool → Told → Type 0
IsSo ok (told.Fetched page good) = good ≡ ok
IsSo ok (told.Stored page good) = good ≡ ok
IsSo ok (told.Flushed good) = good ≡ ok
IsSo ok _ = Unit {0}

-- a supply brings these bytes
abbrev pub IsGiven : Bool → List ℕ → Call → Type 0
IsGiven ok bytes (calls.Tell said) = IsSo ok said
IsGiven ok bytes (calls.Supply range found brought) = found ≡ bytes
IsGiven ok bytes _ = Unit {0}

-- whether each call on a disk went well, and which bytes each supply brings, is what the entries before it give
abbrev pub GivenBy : (List Entered → Bool) → (List Entered → List ℕ) → List Entered → Type 0
GivenBy ok bytes [] = Unit {0}
GivenBy ok bytes (x ∷ before) = GivenBy ok bytes before × IsGiven (ok before) (bytes before) x.entry.call

-- entries of one generation, after others: each reply is the one that the rule gives, and so is what a disk answers
pub record IsFixed (due : List Entered → ℕ → ℕ → ℕ → Call → Reply) (ok : List Entered → Bool) (bytes : List Entered → List ℕ) (epoch : ℕ) (start made : List Entered)
    : Type 0 where
  pub at : AllAt epoch made
  pub replies : Answered due (made ++ start)
  pub facts : GivenBy ok bytes (made ++ start)

-- two lists of entries that are so many steps of a worker from one task, and are fixed by the same rules, are one, and lead to one task
abbrev pub TurnsDecide : Type 0
TurnsDecide =
    (home loans : List Entered → ℕ) (objects : ℕ) (births : ℕ → Birth) (due : List Entered → ℕ → ℕ → ℕ → Call → Reply) (ok : List Entered → Bool)
    (bytes : List Entered → List ℕ) (epoch who object count : ℕ) (task : Task) (set : List Run) (start g h : List Entered) (next then : Task)
    → TurnSteps (exact home loans objects) births who object task set count start g next
    → TurnSteps (exact home loans objects) births who object task set count start h then
    → IsFixed due ok bytes epoch start g → IsFixed due ok bytes epoch start h → (g ≡ h) × (next ≡ then)

-- two lists of entries that are the steps of a sync from one task and one set, and are fixed by the same rules, are one, and rest alike
abbrev pub SyncsDecide : Type 0
SyncsDecide =
    (births : ℕ → Birth) (due : List Entered → ℕ → ℕ → ℕ → Call → Reply) (ok : List Entered → Bool) (bytes : List Entered → List ℕ) (epoch who object : ℕ) (task : Task)
    (set : List Run) (start g h : List Entered) (end last : SyncEnd) → SyncSteps births who object task set start g end
    → SyncSteps births who object task set start h last
    → IsFixed due ok bytes epoch start g → IsFixed due ok bytes epoch start h → (g ≡ h) × (end ≡ last)

-- the same where the journals are legal, so that replies are those of the definitions
abbrev pub LegalTurnsDecide : Type 0
LegalTurnsDecide =
    (home loans : List Entered → ℕ) (objects : ℕ) (births : ℕ → Birth) (ok : List Entered → Bool) (bytes : List Entered → List ℕ) (epoch who object count : ℕ)
    (task : Task) (set : List Run) (start g h : List Entered) (next then : Task) → TurnSteps (exact home loans objects) births who object task set count start g next
    → TurnSteps (exact home loans objects) births who object task set count start h then → AllAt epoch g → AllAt epoch h → AreLegal births (g ++ start)
    → AreLegal births (h ++ start) → GivenBy ok bytes (g ++ start) → GivenBy ok bytes (h ++ start) → (g ≡ h) × (next ≡ then)

abbrev pub LegalSyncsDecide : Type 0
LegalSyncsDecide =
    (births : ℕ → Birth) (ok : List Entered → Bool) (bytes : List Entered → List ℕ) (epoch who object : ℕ) (task : Task) (set : List Run) (start g h : List Entered)
    (end last : SyncEnd) → SyncSteps births who object task set start g end → SyncSteps births who object task set start h last → AllAt epoch g → AllAt epoch h
    → AreLegal births (g ++ start) → AreLegal births (h ++ start) → GivenBy ok bytes (g ++ start) → GivenBy ok bytes (h ++ start) → (g ≡ h) × (end ≡ last)
