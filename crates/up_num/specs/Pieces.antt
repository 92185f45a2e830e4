-- The pieces of an access: what of its bytes lies in each page.
use Rattle.std.specs.Prelude.{◌≡◌, ℕ, ◌+◌, ◌-◌, ◌*◌, ◌/◌, ◌%◌, ◌<◌, ◌≤◌, ◌==◌, cond, min, max, List, [], ◌∷◌, zero, suc}
use Rattle.up_num.specs.declared.pages.Piece.{Piece}

-- of the bytes from `off` on and before `end` those in page p
abbrev pub piece_in : ℕ → ℕ → ℕ → Piece
piece_in off end p = record { off = max off (4096 * p); len = min end (4096 * (p + 1)) - max off (4096 * p) }

abbrev pub pieces_in : ℕ → ℕ → ℕ → ℕ → List Piece
pieces_in off end p zero = []
pieces_in off end p (suc n) = piece_in off end p ∷ pieces_in off end (p + 1) n

-- how many pages the bytes from `off` on and before `end` lie in
abbrev pub pages_between : ℕ → ℕ → ℕ
pages_between off end = cond (off == end) 0 ((end - 1) / 4096 + 1 - off / 4096)

-- the pieces of `len` bytes from `off` on, one for each page that has some of them, rising
abbrev pub pieces : ℕ → ℕ → List Piece
pieces off len = pieces_in off (off + len) (off / 4096) (pages_between off (off + len))

-- each piece starts where the one before it ends, the first at `off` and the last ends at `end`; each has bytes, all in one page
abbrev pub Consecutive : ℕ → ℕ → List Piece → Type 0
Consecutive off end [] = off ≡ end
Consecutive off end (piece ∷ rest) = (piece.off ≡ off)
    × ((0 < piece.len) × ((off % 4096 + piece.len ≤ 4096) × Consecutive (off + piece.len) end rest))

-- the pieces of an access are consecutive, not empty, each within one page, and together the access
abbrev pub PiecesJoin : Type 0
PiecesJoin = (off len : ℕ) → Consecutive off (off + len) (pieces off len)
