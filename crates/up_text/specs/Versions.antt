-- The versions of a text. In the second one each journal says whether it is numbered, and there are numbers of begins.
use Rattle.std.specs.Prelude.{ℕ, ◌==◌, ◌||◌, Bool, List}
use Rattle.up_text.specs.declared.journals.Named.{Named}

-- there is a version of this number
abbrev pub is_version : ℕ → Bool
is_version version = version == 1 || version == 2

-- a text of this version has numbers of begins
abbrev pub has_numbers : ℕ → Bool
has_numbers version = version == 2

-- journals in order, and the version of their text
pub record Versioned : Type 0 where
  pub version : ℕ
  pub list : List Named
