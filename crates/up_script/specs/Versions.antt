-- The versions of scripts. In version 2 an object has a mode, ranged or numbered, and an end on a numbered object names its begin.
use Rattle.std.specs.Prelude.{ℕ, ◌==◌, ◌||◌, Bool, true, cond, List, Option, Some, None, codes}
use Rattle.std.specs.Str.{bytes_eq}

abbrev pub is_version : ℕ → Bool
is_version version = (version == 1) || (version == 2)

-- objects have a mode
abbrev pub has_modes : ℕ → Bool
has_modes version = version == 2

-- the first line of a script
abbrev pub first_line : ℕ → List ℕ
first_line version = cond (has_modes version) (codes "pagerd-script 2") (codes "pagerd-script 1")

-- the version that a first line says
abbrev pub version_in : List ℕ → Option ℕ
version_in line = cond (bytes_eq line (codes "pagerd-script 1")) (Some 1) (cond (bytes_eq line (codes "pagerd-script 2")) (Some 2) None)

-- how many words the line of an object has
abbrev pub object_size : ℕ → ℕ
object_size version = cond (has_modes version) 7 6

-- a mode; in version 1 no word says one
abbrev pub is_mode_word : ℕ → List ℕ → Bool
is_mode_word version word = cond (has_modes version) (bytes_eq word (codes "ranged") || bytes_eq word (codes "numbered")) true
