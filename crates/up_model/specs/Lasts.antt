-- What the last entry says that says something: a number, or nothing.
use Rattle.std.specs.Prelude.{◌≡◌, ℕ, ◌<◌, ◌↔◌, Option, Some, None, List, [], ◌∷◌}
use Rattle.up_model.specs.Value.{or_else}
use Rattle.up_model.specs.Positions.{said_at}
use Rattle.up_model.specs.declared.entry.Entry.{Entry}

abbrev pub last_said : (List Entry → Entry → Option ℕ) → List Entry → Option ℕ
last_said says [] = None
last_said says (e ∷ before) = or_else (says before e) (last_said says before)

-- the entry at position k says this, and none after it says anything
pub record SaysLast (says : List Entry → Entry → Option ℕ) (h : List Entry) (what k : ℕ) : Type 0 where
  pub here : said_at None says h k ≡ Some what
  pub later : (j : ℕ) → k < j → said_at None says h j ≡ None

-- what was said last stands at some position, and nothing is said after it; nothing was said where no entry says anything
abbrev pub LastSaidIsLast : Type 0
LastSaidIsLast =
    (says : List Entry → Entry → Option ℕ) (h : List Entry) →
    ((what : ℕ) → (last_said says h ≡ Some what) ↔ ((k : ℕ) × SaysLast says h what k))
    × ((last_said says h ≡ None) ↔ ((k : ℕ) → said_at None says h k ≡ None))
