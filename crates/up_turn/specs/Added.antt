-- What a call on a journal makes of a pass, and whose its entries are.
use Rattle.std.specs.Prelude.{◌≡◌, ◌++◌, ◌∷◌, [], ℕ, List, false, length, map}
use Rattle.up_model.specs.declared.entry.Entry.{Entry}
use Rattle.up_turn.specs.Placing.{placed, by, Begins}
use Rattle.up_turn.specs.Standing.{Standing}

-- an outside pass of the same turn, with the same numbers
pub record Stays (old new : Standing) : Type 0 where
  pub turn : new.turn ≡ old.turn
  pub outside : new.inside ≡ false
  pub numbers : new.numbers ≡ old.numbers
  pub first : new.first ≡ old.first

-- one entry was added, behind a list that what was seen begins
pub record Added (old new : Standing) (e : Entry) : Type 0 where
  pub before : List Entry
  pub later : Begins old.seen before
  pub is : new.seen ≡ before ++ e ∷ []
  pub own : new.own ≡ old.own ++ record { at = length before; entry = e } ∷ []

-- the entries of an actor, in order
abbrev pub entries_by : ℕ → List Entry → List Entry
entries_by who log = map (λ p. p.entry) (by who (placed 0 log))
