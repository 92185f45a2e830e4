-- What each kind of step on a turn's table tells its seat: of the step, the seat before, the word found and the seat after.
use Rattle.std.specs.Prelude.{◌≡◌, ◌≢◌, ℕ, ◌/◌, ◌≤◌, true, false, List, [], ◌∷◌, ◌++◌, length, drop, Option, Some, None, All, if◌then◌else◌}
use Rattle.std.specs.List.Sorted.{IsNonDecreasing}
use Rattle.atomic_table.specs.Table.{Me, Step, rest}
use Rattle.up_model.specs.declared.entry.Entry.{Entry}
use Rattle.up_turn.specs.Placing.{placed, without, Begins, longer, Tally}
use Rattle.up_turn.specs.declared.view.View.{View}

-- one more find, of this count
abbrev pub found : View → ℕ → View
found v n = record v { finds = v.finds ++ n ∷ [] }

-- a view that was let in, where the list is this one
abbrev pub came_in : View → List Entry → View
came_in v log = record v { seen = log; inside = true }

-- a view that brought the list out
abbrev pub gone_out : View → List Entry → View
gone_out v log = record v { seen = log; own = v.own ++ placed (length v.seen) (drop (length v.seen) log); inside = false }

-- a view without one of its numbers
abbrev pub lacks : ℕ → View → View
lacks who v = record v { numbers = without who v.numbers }

-- the new view that has that number
abbrev pub only : ℕ → View → View
only who v = record { seen = v.seen; one = []; other = []; own = []; numbers = who ∷ []; first = false; inside = false; finds = [] }

-- two views made one, which knows the two lists that it was made of
abbrev pub united : View → View → View
united v w = record v { seen = longer v.seen w.seen; one = v.seen; other = w.seen; own = v.own ++ w.own; numbers = v.numbers ++ w.numbers; first = if v.first then true else w.first }

-- the view that was given up
abbrev pub spent : View
spent = record { seen = []; one = []; other = []; own = []; numbers = []; first = false; inside = false; finds = [] }

-- what a count that was found tells: no less was seen or found before
pub record Counted (v : View) (count : ℕ) : Type 0 where
  pub seen : length v.seen ≤ count
  pub finds : All (λ n. n ≤ count) v.finds
  pub rising : IsNonDecreasing (v.finds ++ count ∷ [])

-- both lists of the views that were made one begin the list that was seen
pub record Agreed (v : View) : Type 0 where
  pub one : Begins v.one v.seen
  pub other : Begins v.other v.seen
  pub tally : Tally v.numbers v.own v.seen

module _ {S : Type 0} where
  abbrev pub fronted : Step (Option S) → Me (Option S) View → ℕ → Me (Option S) View → Type 0
  fronted st m was m' = (m' ≡ (found m.0 (was / 2), m.1)) × Counted m.0 (was / 2)

  abbrev pub agreed : Step (Option S) → Me (Option S) View → ℕ → Me (Option S) View → Type 0
  agreed st m was m' = (m' ≡ m) × Agreed m.0

  -- the seat is inside, and has the slot with the value
  pub record Entered (kin : S → Type 0) (list : S → List Entry) (m m' : Me (Option S) View) : Type 0 where
    pub value : S
    pub fits : kin value
    pub later : Begins m.0.seen (list value)
    pub was : Tally m.0.numbers m.0.own m.0.seen
    pub tally : Tally m.0.numbers m.0.own (list value)
    pub finds : All (λ n. n ≤ length (list value)) m.0.finds
    pub is : m' ≡ (came_in m.0 (list value), (0, Some value) ∷ m.1)

  abbrev pub entered : (S → Type 0) → (S → List Entry) → Step (Option S) → Me (Option S) View → ℕ → Me (Option S) View → Type 0
  entered kin list st m was m' = (was ≡ st.first → Entered kin list m m') × (was ≢ st.first → m' ≡ m)

  abbrev pub left : (S → List Entry) → Step (Option S) → Me (Option S) View → ℕ → Me (Option S) View → Type 0
  left list st m was m' = (value : S) → m.1 ≡ (0, Some value) ∷ rest m.1 → (m' ≡ (gone_out m.0 (list value), rest m.1)) × Tally m'.0.numbers m'.0.own m'.0.seen

  -- the seat is inside, and its slot is empty, since the value is in hand
  pub record InHand (list : S → List Entry) (v : View) (m' : Me (Option S) View) (value : S) : Type 0 where
    pub later : Begins v.seen (list value)
    pub was : Tally v.numbers v.own v.seen
    pub tally : Tally v.numbers v.own (list value)
    pub finds : All (λ n. n ≤ length (list value)) v.finds
    pub is : m' ≡ (came_in v (list value), (0, None) ∷ [])
