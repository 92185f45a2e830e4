use Rattle.std.specs.Prelude.{ℕ, ◌≤◌, List, Option, length, take}
use Rattle.std.specs.Io.KnownBytes.{Appends}

-- known bytes grow by some front of these bytes: by none of them, by all, or by some of the first
abbrev pub AppendsFront : Option (List ℕ) → Option (List ℕ) → List ℕ → Type 0
AppendsFront old new bytes = (count : ℕ) × (count ≤ length bytes) × Appends old new (take count bytes)
