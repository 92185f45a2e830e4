-- What one actor does, told by its lines and its own entries alone. Lines and entries stand newest first.
use Rattle.std.specs.Prelude.{◌≡◌, ℕ, ◌+◌, ◌-◌, ◌^◌, ◌≤◌, Bool, true, false, cond, List, [], ◌∷◌, ◌++◌}
use Rattle.up_model.specs.declared.entry.Call.{Call}
use Rattle.up_model.specs.declared.entry.Call.TheVariants as calls
use Rattle.up_script.specs.declared.script.Action.{Action}
use Rattle.up_script.specs.declared.script.Action.TheVariants as actions
use Rattle.up_script.specs.declared.script.Kind.{Kind}
use Rattle.up_worker.specs.Calls.{calls_of, is_access}
use Rattle.up_worker.specs.Frames.{Judge, front}
use Rattle.up_worker.specs.Courses.{Entered, OwnEvicts}
use Rattle.up_worker.specs.declared.course.Doing.{Doing}
use Rattle.up_worker.specs.declared.course.Doing.TheVariants.{Idle, OneLine, Leaving}
use Rattle.up_steps.specs.Asked.{without_evicts, AreNext, IsDone, AllBring}
use Rattle.up_steps.specs.Steps.{EvictsOne}

-- Which gatherings and loans there are, which evicts a relief by so many frames makes, and which a watch, after the entries before.
pub record Manner : Type 1 where
  pub judge : Judge
  pub relieves : ℕ → List Entered → List Entered → Type 0
  pub watches : List Entered → List Entered → Type 0

-- The entries of a line by calls, after those before it: each but evicts is the next call of the line, all calls are settled, or an
-- access was refused; each brings what the judge says; and no evicts stand last.
pub record ByCalls (m : Manner) (kind : Kind) (objects : List ℕ) (doing : Doing) (start made : List Entered) : Type 0 where
  pub next : AreNext (calls_of kind objects doing) (is_access doing) (without_evicts made)
  pub done : IsDone (calls_of kind objects doing) (is_access doing) (without_evicts made)
  pub brings : AllBring m.judge start made
  pub quiet : front made ≡ []

-- the entries of a line of one call: an evict is itself
abbrev pub IsCallBlock : Manner → Kind → List ℕ → ℕ → Call → List Entered → List Entered → Type 0
IsCallBlock m kind objects object (calls.Evict limit most) start made = EvictsOne object limit most made
IsCallBlock m kind objects object call start made = ByCalls m kind objects (OneLine (actions.Act object call)) start made

-- the entries of a line
abbrev pub IsLineBlock : Manner → ℕ → Kind → List ℕ → Action → List Entered → List Entered → Type 0
IsLineBlock m who kind objects (actions.Act object call) start made = IsCallBlock m kind objects object call start made
IsLineBlock m who kind objects (actions.Relieve frames) start made = OwnEvicts who made × m.relieves frames made start
IsLineBlock m who kind objects actions.Watch start made = OwnEvicts who made × m.watches made start
IsLineBlock m who kind objects action start made = ByCalls m kind objects (OneLine action) start made

-- the entries of what an actor does: a line, or its leaves at the end
abbrev pub IsBlock : Manner → ℕ → Kind → List ℕ → Doing → List Entered → List Entered → Type 0
IsBlock m who kind objects Idle start made = ByCalls m kind objects Idle start made
IsBlock m who kind objects (OneLine action) start made = IsLineBlock m who kind objects action start made
IsBlock m who kind objects (Leaving left) start made = ByCalls m kind objects (Leaving left) start made

-- how many of these lines made the clock older
abbrev pub is_age : Doing → Bool
is_age (OneLine actions.Age) = true
is_age doing = false

abbrev pub ages_in : List Doing → ℕ
ages_in [] = 0
ages_in (doing ∷ earlier) = cond (is_age doing) (ages_in earlier + 1) (ages_in earlier)

-- the greatest generation: a clock stands still there
abbrev pub last_age : ℕ
last_age = 2 ^ 64 - 1

-- entries of this generation or later ones
abbrev pub AllFrom : ℕ → List Entered → Type 0
AllFrom low [] = Unit {0}
AllFrom low (x ∷ made) = AllFrom low made × (low ≤ x.entry.epoch)

-- An actor's entries are cut into those of its lines, one after the other; each has at least as high a generation as the actor's
-- lines before made.
abbrev pub IsTale : Manner → ℕ → Kind → List ℕ → List Doing → List Entered → Type 0
IsTale m who kind objects [] tale = tale ≡ []
IsTale m who kind objects (doing ∷ earlier) tale =
    (made : List Entered) × (start : List Entered) × (tale ≡ made ++ start) × IsTale m who kind objects earlier start
    × IsBlock m who kind objects doing start made × (ages_in earlier ≤ last_age → AllFrom (ages_in earlier) made)
