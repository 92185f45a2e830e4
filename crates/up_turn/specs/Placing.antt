-- Entries with their positions in a list, and the numbers of actors.
use Rattle.std.specs.Prelude.{◌≡◌, ℕ, zero, suc, ◌+◌, ◌==◌, Bool, true, false, List, [], ◌∷◌, ◌++◌, length, nat_lt, if◌then◌else◌}
use Rattle.up_model.specs.declared.entry.Entry.{Entry}

-- an entry, and where it stands in the list
pub record Placed : Type 0 where
  pub at : ℕ
  pub entry : Entry

-- entries that stand one after the other, from a position on
abbrev pub placed : ℕ → List Entry → List Placed
placed from [] = []
placed from (e ∷ es) = record { at = from; entry = e } ∷ placed (from + 1) es

-- those of an actor
abbrev pub by : ℕ → List Placed → List Placed
by who [] = []
by who (p ∷ ps) = if p.entry.who == who then p ∷ by who ps else by who ps

-- whether the numbers have this one
abbrev pub has : List ℕ → ℕ → Bool
has [] n = false
has (m ∷ ms) n = if m == n then true else has ms n

-- the numbers below some number, the greatest first
abbrev pub below : ℕ → List ℕ
below zero = []
below (suc n) = n ∷ below n

-- the numbers less this one
abbrev pub without : ℕ → List ℕ → List ℕ
without who [] = []
without who (m ∷ ms) = if m == who then without who ms else m ∷ without who ms

-- the second list is the first with more behind it
pub record Begins (before after : List Entry) : Type 0 where
  pub more : List Entry
  pub is : after ≡ before ++ more

-- each of the entries is by one of the numbers
abbrev pub ByThese : List ℕ → List Entry → Type 0
ByThese numbers [] = Unit {0}
ByThese numbers (e ∷ es) = (has numbers e.who ≡ true) × ByThese numbers es

-- of two lists the one that has more entries
abbrev pub longer : List Entry → List Entry → List Entry
longer xs ys = if nat_lt (length xs) (length ys) then ys else xs

-- own entries: of each number held all that stand in the list, with their positions and in order, and of no other number any
pub record Tally (numbers : List ℕ) (own : List Placed) (log : List Entry) : Type 0 where
  pub mine : (n : ℕ) → has numbers n ≡ true → by n own ≡ by n (placed 0 log)
  pub others : (n : ℕ) → has numbers n ≡ false → by n own ≡ []
