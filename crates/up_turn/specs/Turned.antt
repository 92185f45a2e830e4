-- The rule of a turn's table: one word, twice the count of entries and 1 more while a pass is inside, and one slot, which has the value while none is.
use Rattle.std.specs.Prelude.{◌≡◌, ℕ, ◌+◌, ◌*◌, ◌<◌, ◌≤◌, true, false, List, [], ◌∷◌, length, Option, Some, All}
use Rattle.std.specs.List.Sorted.{IsNonDecreasing}
use mathlib.Core.Option as maybe
use mathlib.Core.Option.{some}
use lib.ListN.{get_elem?}
use Rattle.atomic_table.specs.Table.{State}
use Rattle.up_model.specs.declared.entry.Entry.{Entry}
use Rattle.up_turn.specs.Placing.{placed, by, has, below, Begins, Tally}
use Rattle.up_turn.specs.Standing.{Counts}
use Rattle.up_turn.specs.declared.view.View.{View}

-- the seat j alone holds the number, and has all its entries
pub record Mine (log : List Entry) (actors owner j n : ℕ) (v : View) : Type 0 where
  pub held : owner ≡ j
  pub under : n < actors
  pub all : by n v.own ≡ by n (placed 0 log)

-- the seat j alone is inside, and has seen all
pub record IsInside (log : List Entry) (held holder j : ℕ) (v : View) : Type 0 where
  pub taken : held ≡ 1
  pub alone : holder ≡ j
  pub all : log ≡ v.seen
  pub counts : Counts v.first v.numbers

-- what is true of the view of the seat j
pub record Fits (log : List Entry) (held holder root actors : ℕ) (owner : ℕ → ℕ) (j : ℕ) (v : View) : Type 0 where
  pub seen : Begins v.seen log
  pub mine : (n : ℕ) → has v.numbers n ≡ true → Mine log actors (owner n) j n v
  pub tally : Tally v.numbers v.own v.seen
  pub one : Begins v.one v.seen
  pub other : Begins v.other v.seen
  pub first : v.first ≡ true → root ≡ j
  pub inside : v.inside ≡ true → IsInside log held holder j v
  pub found : All (λ n. n ≤ length log) v.finds
  pub rising : IsNonDecreasing v.finds

-- the value is in its slot, is of the turn's kin, and stands for the list
pub record IsHome {S : Type 0} (kin : S → Type 0) (list : S → List Entry) (log : List Entry) (homes : List (maybe.Option (Option S))) : Type 0 where
  pub value : S
  pub there : get_elem? homes 0 ≡ some (some (Some value))
  pub is : list value ≡ log
  pub fits : kin value

pub record IsHolder (views : List View) (holder : ℕ) : Type 0 where
  pub view : View
  pub there : get_elem? views holder ≡ some view
  pub inside : view.inside ≡ true

-- The rule: the list behind the turn, who is inside, who is the first, and who holds each number
pub record Turned {S : Type 0} (kin : S → Type 0) (list : S → List Entry) (actors : ℕ) (s : State (Option S) View) : Type 0 where
  pub log : List Entry
  pub held : ℕ
  pub holder : ℕ
  pub root : ℕ
  pub owner : ℕ → ℕ
  pub word : s.words ≡ (length log * 2 + held) ∷ []
  pub bit : held < 2
  pub slots : length s.homes ≡ 1
  pub free : held ≡ 0 → IsHome kin list log s.homes
  pub busy : held ≡ 1 → IsHolder s.views holder
  pub known : (n : ℕ) → actors ≤ n → by n (placed 0 log) ≡ []
  pub each : (j : ℕ) (v : View) → get_elem? s.views j ≡ some v → Fits log held holder root actors owner j v

-- the view of the first pass
abbrev pub newcomer : ℕ → View
newcomer actors = record { seen = []; one = []; other = []; own = []; numbers = below actors; first = true; inside = false; finds = [] }
