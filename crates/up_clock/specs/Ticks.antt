-- The rule of the clock's word, and what each kind of step tells its seat.
use Rattle.std.specs.Prelude.{◌≡◌, ◌≢◌, ℕ, ◌+◌, ◌≤◌, true, false, [], ◌∷◌, ◌++◌, length, slice_index, min, max, All}
use Rattle.std.specs.List.Sorted.{IsNonDecreasing}
use mathlib.Core.Option.{some}
use lib.ListN.{get_elem?}
use Rattle.atomic_table.specs.Table.{State, Me, Step}
use Rattle.up_clock.specs.Known.{last_age}
use Rattle.up_clock.specs.declared.view.View.{View}

-- what is true of a seat's view while the clock shows this number and so many seats were ever made: it was told and found no more, its finds don't fall, and where it never had company, the clock shows how often it aged it
pub record Fits (shows seats : ℕ) (v : View) : Type 0 where
  pub told : v.told ≤ shows
  pub found : All (λ n. n ≤ shows) v.finds
  pub rising : IsNonDecreasing v.finds
  pub alone : v.sole ≡ true → (seats ≡ 1) × (shows ≡ min v.ages last_age)

-- the rule: the clock has one word, and each seat's view fits it
pub record Ticks (s : State (Unit {0}) View) : Type 0 where
  pub wide : length s.words ≡ 1
  pub each : (j : ℕ) (v : View) → get_elem? s.views j ≡ some v → Fits (slice_index s.words 0) (length s.views) v

abbrev SeatState : Type 0
SeatState = Me (Unit {0}) View

abbrev Tick : Type 0
Tick = Step (Unit {0})

-- the view of the first seat
abbrev pub newcomer : View
newcomer = record { told = 0; ages = 0; sole = true; finds = [] }

-- one find more
abbrev pub found : View → ℕ → View
found v n = record { told = v.told; ages = v.ages; sole = v.sole; finds = v.finds ++ n ∷ [] }

-- the seat is answered n
abbrev pub answered : View → ℕ → View
answered v n = record { told = n; ages = v.ages; sole = v.sole; finds = v.finds }

-- one age more
abbrev pub older : View → View
older v = record { told = v.told; ages = v.ages + 1; sole = v.sole; finds = v.finds }

-- what any step that found n tells: no less than the seat was told or found before, and the number of a lone seat's ages
pub record Shows (v : View) (n : ℕ) : Type 0 where
  pub told : v.told ≤ n
  pub rising : IsNonDecreasing (v.finds ++ n ∷ [])
  pub alone : v.sole ≡ true → n ≡ min v.ages last_age

-- the load of `now` answers what it finds
abbrev pub looked : Tick → SeatState → ℕ → SeatState → Type 0
looked st m n m' = (m' ≡ (answered (found m.0 n) n, m.1)) × Shows m.0 n

-- the load of `age` answers where it finds the clock at its end
abbrev pub began : Tick → SeatState → ℕ → SeatState → Type 0
began st m n m' = (n ≡ last_age → m' ≡ (older (answered (found m.0 n) n), m.1)) × (n ≢ last_age → m' ≡ (found m.0 n, m.1)) × Shows m.0 n

-- the fetch of `age` answers the number that it brings
abbrev pub aged : Tick → SeatState → ℕ → SeatState → Type 0
aged st m n m' = (m' ≡ (older (answered (found m.0 n) st.first), m.1)) × Shows m.0 n

-- a seat that has company
abbrev pub shared : View → View
shared v = record { told = v.told; ages = v.ages; sole = false; finds = v.finds }

-- the seat that was made from it
abbrev pub new_seat : View → View
new_seat v = record { told = v.told; ages = 0; sole = false; finds = [] }

-- a seat that took another's place in
abbrev pub joined : View → View → View
joined v w = record { told = max v.told w.told; ages = v.ages; sole = false; finds = v.finds }

-- the seat that is no more
abbrev pub spent : View
spent = record { told = 0; ages = 0; sole = false; finds = [] }
