-- What contracts see of shelves: what they brought, what was put back, and what a shelf in memory holds.
use Rattle.std.specs.Prelude.{◌≡◌, ◌≢◌, ℕ, ◌+◌, ◌<◌, ◌||◌, ◌==◌, Bool, false, cond, not, nat_le, Option, Some, None, Result, Ok, List, [], ◌++◌, ◌∷◌, length, slice_get, take, drop, ⊤}
use Rattle.std.specs.List.{find}
use Rattle.std.specs.Str.{bytes_eq}
use Rattle.up_outside.specs.InMemory.{counted, is_listed}

-- a list with one more, the last
abbrev pub with_last : {A : Type 0} → List A → A → List A
with_last items last = items ++ last ∷ []

-- a disk that was brought, with its name, as it was then
pub record Brought (D : Type 0) : Type 0 where
  pub name : List ℕ
  pub disk : D

abbrev pub brought_as : {D : Type 0} → List ℕ → D → Brought D
brought_as name disk = record { name = name; disk = disk }

-- where a call gave a disk
abbrev pub IfGiven : {D F M : Type 0} → Result (Result D F) M → (D → Type 0) → Type 0
IfGiven (Ok (Ok disk)) holds = holds disk
IfGiven _ holds = ⊤

-- where it gave none
abbrev pub IfNotGiven : {D F M : Type 0} → Result (Result D F) M → Type 0 → Type 0
IfNotGiven (Ok (Ok _)) holds = ⊤
IfNotGiven _ holds = holds

-- a disk on a shelf: its name and its number of blocks
pub record Stored (D : Type 0) : Type 0 where
  pub name : List ℕ
  pub blocks : ℕ
  pub disk : D

-- a shelf in memory: what it holds, what it brought, what was put back at each place, the numbers of the calls that are
-- to fail, how many calls it has room for, how many it had, and how many failed
pub record Shelved (D : Type 0) : Type 0 where
  pub held : List (Stored D)
  pub brought : List (Brought D)
  pub back : List (Option D)
  pub fail : List ℕ
  pub room : ℕ
  pub calls : ℕ
  pub faults : ℕ

-- the disk has this name
abbrev pub is_named : {D : Type 0} → List ℕ → Stored D → Bool
is_named name stored = bytes_eq stored.name name

-- what is held under this name
abbrev pub held_as : {D : Type 0} → List ℕ → List (Stored D) → Option (Stored D)
held_as name held = find (is_named name) held

-- the disk that is held under this name
abbrev pub disk_of : {D : Type 0} → Option (Stored D) → Option D
disk_of None = None
disk_of (Some stored) = Some stored.disk

abbrev pub held_disk : {D : Type 0} → List (Stored D) → List ℕ → Option D
held_disk held name = disk_of (held_as name held)

-- it has so many blocks
abbrev pub has_blocks : {D : Type 0} → Option (Stored D) → ℕ → Bool
has_blocks None blocks = false
has_blocks (Some stored) blocks = stored.blocks == blocks

-- the rest, without what is held under this name
abbrev pub held_without : {D : Type 0} → List ℕ → List (Stored D) → List (Stored D)
held_without name [] = []
held_without name (stored ∷ rest) = cond (is_named name stored) rest (stored ∷ held_without name rest)

-- what is held under this name stands at this place
abbrev pub StandsAt : {D : Type 0} → List ℕ → List (Stored D) → ℕ → Type 0
StandsAt name held place = (place < length held) × (held_as name held ≡ slice_get held place)
    × (held_without name held ≡ take place held ++ drop (place + 1) held)

-- the next call fails: there is no room for it, no disk of that name with so many blocks is held, or the call is listed
abbrev pub bring_fails : {D : Type 0} → Shelved D → List ℕ → ℕ → Bool
bring_fails shelf name blocks =
    (nat_le shelf.room shelf.calls || not (has_blocks (held_as name shelf.held) blocks)) || is_listed shelf.fail (counted shelf.calls)

-- the shelf after a call that failed
abbrev pub after_failed : {D : Type 0} → Shelved D → Shelved D
after_failed shelf = record shelf { calls = counted shelf.calls; faults = counted shelf.faults }

-- the shelf after a disk of this name was given
abbrev pub after_given : {D : Type 0} → Shelved D → List ℕ → D → Shelved D
after_given shelf name disk = record shelf {
  held = held_without name shelf.held;
  brought = with_last shelf.brought (brought_as name disk);
  back = with_last shelf.back None;
  calls = counted shelf.calls;
}

-- a disk that is held
abbrev pub stored_as : {D : Type 0} → List ℕ → ℕ → D → Stored D
stored_as name blocks disk = record { name = name; blocks = blocks; disk = disk }

-- a shelf that was just made
abbrev pub shelved : {D : Type 0} → List ℕ → ℕ → Shelved D
shelved fail room = record { held = []; brought = []; back = []; fail = fail; room = room; calls = 0; faults = 0 }

-- what is held under other names stays
abbrev pub OthersStay : {D : Type 0} → (List ℕ → Option D) → (List ℕ → Option D) → List ℕ → Type 0
OthersStay old new name = (other : List ℕ) → other ≢ name → new other ≡ old other

-- what is held stays
abbrev pub AllStay : {D : Type 0} → (List ℕ → Option D) → (List ℕ → Option D) → Type 0
AllStay old new = (name : List ℕ) → new name ≡ old name
