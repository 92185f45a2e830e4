-- Laws over the rule of a clock.
use Rattle.std.specs.Prelude.{◌≡◌, ℕ, ◌≤◌, All, slice_index}
use mathlib.Core.Option.{some}
use lib.ListN.{get_elem?}
use Rattle.atomic_table.specs.Table.{State}
use Rattle.up_clock.specs.Ticks.{Ticks}
use Rattle.up_clock.specs.declared.view.View.{View}

-- at each moment the clock shows no less than any seat was ever told, or found
abbrev pub NeverFalls : Type 0
NeverFalls = (s : State (Unit {0}) View) → Ticks s → (j : ℕ) (v : View) → get_elem? s.views j ≡ some v → (v.told ≤ slice_index s.words 0) × All (λ n. n ≤ slice_index s.words 0) v.finds
