-- Laws over the rule of a turn's table, which holds at each moment between two steps of its threads.
use Rattle.std.specs.Prelude.{◌≡◌, ◌⊎◌, ℕ, ◌/◌, ◌%◌, true, List, length, slice_index, Option, Some}
use mathlib.Core.Option.{some}
use lib.ListN.{get_elem?}
use Rattle.atomic_table.specs.Table.{State}
use Rattle.up_model.specs.declared.entry.Entry.{Entry}
use Rattle.up_turn.specs.Placing.{placed, by, has, Begins}
use Rattle.up_turn.specs.Turned.{Turned}
use Rattle.up_turn.specs.declared.view.View.{View}

module _ {S O : Type 0} (origin : S → O) (list : S → List Entry) where
  -- the rule of a turn that was made with this value, for so many actors
  abbrev pub Rule : S → ℕ → State (Option S) View → Type 0
  Rule opening actors s = Turned (λ x. origin x ≡ origin opening) list actors s

  -- at each moment no number is held by two passes
  abbrev pub NumbersApart : Type 0
  NumbersApart = (opening : S) (actors : ℕ) (s : State (Option S) View) → Rule opening actors s
      → (i j n : ℕ) (v w : View) → get_elem? s.views i ≡ some v → get_elem? s.views j ≡ some w → has v.numbers n ≡ true → has w.numbers n ≡ true → i ≡ j

  -- at each moment all entries by a number that a pass holds are its own, at their positions, and it has no other by that number
  abbrev pub EntriesAreOwn : Type 0
  EntriesAreOwn = (opening : S) (actors : ℕ) (s : State (Option S) View) (r : Rule opening actors s)
      → (j n : ℕ) (v : View) → get_elem? s.views j ≡ some v → has v.numbers n ≡ true → by n v.own ≡ by n (placed 0 r.log)

  -- what stands behind the turn: the word counts it; while no pass is inside the value at home stands for it, and is of the turn's origin; and what any pass has seen begins it, so that of what two passes have seen one begins the other
  pub record IsOneHistory (opening : S) (log : List Entry) (s : State (Option S) View) : Type 0 where
    pub counted : slice_index s.words 0 / 2 ≡ length log
    pub home : (value : S) → get_elem? s.homes 0 ≡ some (some (Some value)) → slice_index s.words 0 % 2 ≡ 0 → (list value ≡ log) × (origin value ≡ origin opening)
    pub seen : (j : ℕ) (v : View) → get_elem? s.views j ≡ some v → Begins v.seen log
    pub both : (i j : ℕ) (v w : View) → get_elem? s.views i ≡ some v → get_elem? s.views j ≡ some w → Begins v.seen w.seen ⊎ Begins w.seen v.seen

  abbrev pub OneHistory : Type 0
  OneHistory = (opening : S) (actors : ℕ) (s : State (Option S) View) (r : Rule opening actors s) → IsOneHistory opening r.log s
