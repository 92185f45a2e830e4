-- The entries of one actor, but for evicts, told by its lines. Entries and lines stand newest first.
use Rattle.std.specs.Prelude.{◌≡◌, ℕ, ◌==◌, ◌&&◌, not, Bool, true, false, cond, Option, Some, None, List, [], ◌∷◌, ◌++◌, slice_get}
use Rattle.up_script.specs.Actions.{kind_of}
use Rattle.up_script.specs.declared.script.Action.{Action}
use Rattle.up_script.specs.declared.script.Action.TheVariants as actions
use Rattle.up_script.specs.declared.script.ActorLine.{ActorLine}
use Rattle.up_script.specs.declared.script.Kind.{Kind}
use Rattle.up_script.specs.declared.script.Line.{Line}
use Rattle.up_worker.specs.Calls.{calls_of, is_access}
use Rattle.up_worker.specs.Courses.{Entered}
use Rattle.up_worker.specs.declared.course.Doing.{Doing}
use Rattle.up_worker.specs.declared.course.Doing.TheVariants.{Idle, OneLine}
use Rattle.up_steps.specs.Asked.{parks, AreNext, IsDone}

-- the entries of one actor
abbrev pub own : ℕ → List Entered → List Entered
own who [] = []
own who (x ∷ before) = cond (x.entry.who == who) (x ∷ own who before) (own who before)

-- an actor is parked where its last entry parks
abbrev pub last_parks : List Entered → Bool
last_parks [] = false
last_parks (x ∷ before) = parks x.entry.reply

abbrev pub parked : ℕ → List Entered → Bool
parked who g = last_parks (own who g)

abbrev pub is_go : Action → Bool
is_go actions.Go = true
is_go _ = false

-- a line that the steps tell: none of a sample pager, and no sync
abbrev pub is_played : Action → Bool
is_played (actions.Sync object) = false
is_played (actions.Turn object steps) = false
is_played _ = true

-- the lines of an actor, but for go; before the first it is idle
abbrev pub given_to : ℕ → List Line → List Doing
given_to who [] = Idle ∷ []
given_to who (line ∷ earlier) = cond ((line.actor == who) && not (is_go line.action)) (OneLine line.action ∷ given_to who earlier) (given_to who earlier)

-- the actor of a number
abbrev pub kind_at : List ActorLine → ℕ → Kind
kind_at actors who = kind_of (slice_get actors who)

abbrev pub objects_in : Option ActorLine → List ℕ
objects_in None = []
objects_in (Some actor) = actor.objects

abbrev pub objects_at : List ActorLine → ℕ → List ℕ
objects_at actors who = objects_in (slice_get actors who)

-- the entries are those of all these lines, line by line, each done
abbrev pub Told : Kind → List ℕ → List Doing → List Entered → Type 0
Told kind objects [] xs = xs ≡ []
Told kind objects (doing ∷ earlier) xs =
    (now : List Entered) × (old : List Entered) × (xs ≡ now ++ old) × AreNext (calls_of kind objects doing) (is_access doing) now
    × IsDone (calls_of kind objects doing) (is_access doing) now × Told kind objects earlier old

-- the entries are those of the lines up to one that isn't done: the lines behind it aren't begun
pub record ToldInPart (kind : Kind) (objects : List ℕ) (given : List Doing) (xs : List Entered) : Type 0 where
  pub later : List Doing
  pub doing : Doing
  pub earlier : List Doing
  pub now : List Entered
  pub old : List Entered
  pub lines : given ≡ later ++ doing ∷ earlier
  pub is : xs ≡ now ++ old
  pub next : AreNext (calls_of kind objects doing) (is_access doing) now
  pub before : Told kind objects earlier old
