-- How short memory is, and which pages are asked for then.
use Rattle.std.specs.Prelude.{ℕ, cond, List, [], ◌∷◌, nat_le}
use Rattle.up_evictor.specs.declared.levels.Level.{Level}
use Rattle.up_evictor.specs.declared.levels.Level.TheVariants.{Normal, Warning, Critical, Empty}
use Rattle.up_evictor.specs.declared.levels.Levels.{Levels}

-- how short memory is where so many frames are free
abbrev pub level_of : Levels → ℕ → Level
level_of marks free =
    cond (nat_le marks.warn free) Normal
    (cond (nat_le marks.critical free) Warning
    (cond (nat_le 1 free) Critical Empty))

-- the age classes that the passes of a level ask for
abbrev pub age_limits : Level → List ℕ
age_limits Normal = []
age_limits Warning = 4 ∷ []
age_limits Critical = 4 ∷ 0 ∷ []
age_limits Empty = 4 ∷ 0 ∷ []
