-- What an actor of a script does beside others, by the journals at the end. The sample pager's workers and lines that sync aren't told here.
use Rattle.std.specs.Prelude.{◌≡◌, ℕ, ◌≤◌, not, cond, List, [], ◌∷◌, filter, reverse}
use Rattle.up_evictor.specs.declared.levels.Levels.{Levels}
use Rattle.up_script.specs.Objects.{is_evictor}
use Rattle.up_script.specs.declared.script.Kind.{Kind}
use Rattle.up_script.specs.declared.script.Line.{Line}
use Rattle.up_worker.specs.Acting.{left_after, has}
use Rattle.up_worker.specs.Courses.{Entered}
use Rattle.up_worker.specs.Thread.{of_object}
use Rattle.up_worker.specs.declared.course.Doing.{Doing}
use Rattle.up_worker.specs.declared.course.Doing.TheVariants.{Leaving}
use Rattle.up_steps.specs.Told.{given_to}
use Rattle.up_tales.specs.Beside.{Journaled, by_actor, beside}
use Rattle.up_tales.specs.Tales.{IsTale}

-- entries of this generation or earlier ones
abbrev pub AllUpTo : ℕ → List Entered → Type 0
AllUpTo high [] = Unit {0}
AllUpTo high (x ∷ before) = AllUpTo high before × (x.entry.epoch ≤ high)

-- each entry's generation is at least that of every one before it, over all objects
abbrev pub NeverFalls : List Entered → Type 0
NeverFalls [] = Unit {0}
NeverFalls (x ∷ before) = NeverFalls before × AllUpTo x.entry.epoch before

-- the objects that these lines have left
abbrev pub left_by : List Doing → List ℕ
left_by [] = []
left_by (doing ∷ earlier) = left_after (left_by earlier) doing

-- the objects that an actor leaves behind its last line: an evictor none, others all that no line has left
abbrev pub leaves_after : Kind → List ℕ → List Doing → List ℕ
leaves_after kind objects given = cond (is_evictor kind) [] (filter (λ object. not (has (left_by given) object)) objects)

-- its lines but go, and then its leaves, newest first
abbrev pub all_given : ℕ → Kind → List ℕ → List Line → List Doing
all_given who kind objects lines =
    Leaving (leaves_after kind objects (given_to who (reverse lines))) ∷ given_to who (reverse lines)

-- An actor has a tale, whose part on each object is the actor's entries of that journal, in order; it is cut into the actor's lines, all of
-- which are done, and its leaves; and generations never fall. `count` is how many objects there are.
pub record PlaysAs (levels : Levels) (who : ℕ) (kind : Kind) (objects : List ℕ) (lines : List Line) (count : ℕ) (ends : ℕ → Journaled) : Type 0 where
  pub tale : List Entered
  pub parts : (object : ℕ) → of_object object tale ≡ by_actor who (ends object).journal
  pub told : IsTale (beside ends who count levels) who kind objects (all_given who kind objects lines) tale
  pub epochs : NeverFalls tale
