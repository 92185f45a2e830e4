-- Bytes as blocks.
use Rattle.std.specs.Prelude.{ℕ, zero, suc, ◌+◌, ◌*◌, ◌/◌, List, [], ◌∷◌, ◌++◌, length, slice_range}

-- the first blocks of these bytes
abbrev pub first_blocks : ℕ → List ℕ → List (List ℕ)
first_blocks zero bytes = []
first_blocks (suc n) bytes = first_blocks n bytes ++ slice_range bytes (4096 * n) (4096 * n + 4096) ∷ []

-- all of them
abbrev pub blocks_of : List ℕ → List (List ℕ)
blocks_of bytes = first_blocks (length bytes / 4096) bytes
