-- Which scripts are done today: the forms that are built.
use Rattle.std.specs.Prelude.{ℕ, not, Bool, cond, List, [], ◌∷◌, Option, Some, None}
use Rattle.up_model.specs.declared.entry.Birth.{Birth}
use Rattle.up_script.specs.Objects.{is_worker}
use Rattle.up_script.specs.declared.script.ActorLine.{ActorLine}
use Rattle.up_script.specs.declared.script.Line.{Line}
use Rattle.up_script.specs.declared.script.ObjectLine.{ObjectLine}
use Rattle.up_script.specs.declared.script.Script.{Script}
use Rattle.up_steps.specs.Told.{is_played}

-- a line that is none of a sample pager, and no sync
abbrev pub is_built_line : Line → Bool
is_built_line line = is_played line.action

-- no image yet
abbrev pub is_built_birth : Birth → Bool
is_built_birth birth = not birth.image

abbrev pub is_built_object : ObjectLine → Bool
is_built_object object = is_built_birth object.birth

-- no worker yet
abbrev pub is_built_actor : ActorLine → Bool
is_built_actor actor = not (is_worker actor.kind)

-- the number of the first item that doesn't pass the test
unfoldable pub first_failing : {X : Type 0} → (X → Bool) → (X → ℕ) → List X → Option ℕ
first_failing test number [] = None
first_failing test number (x ∷ xs) = cond (test x) (first_failing test number xs) (Some (number x))

-- the first of two numbers that is there
abbrev pub or_number : Option ℕ → Option ℕ → Option ℕ
or_number None second = second
or_number (Some n) second = Some n

abbrev pub object_number : ObjectLine → ℕ
object_number object = object.number

abbrev pub actor_number : ActorLine → ℕ
actor_number actor = actor.number

abbrev pub line_number : Line → ℕ
line_number line = line.number

-- the first line of a form that isn't built: declarations come in this order, and actions behind them
abbrev pub unbuilt_line : Script → Option ℕ
unbuilt_line script =
    or_number (first_failing is_built_object object_number script.objects)
    (or_number (first_failing is_built_actor actor_number script.actors)
    (first_failing is_built_line line_number script.lines))
