-- What contracts see of a turn and its passes.
use Rattle.std.specs.Prelude.{◌≡◌, ◌⊎◌, ℕ, ◌<◌, Bool, true, false, List, [], ◌∷◌, ◌++◌, length, drop, refl, if◌then◌else◌}
use Rattle.std.specs.Coded.{Coded, code_by, coded×, coded_ℕ}
use Rattle.atomic_table.specs.Seated.{TableId, table_id_coded}
use Rattle.up_model.specs.declared.entry.Entry.{Entry}
use Rattle.up_turn.specs.Placing.{Placed, placed, has, below, ByThese, longer}

-- which turn it is, the value that it was made with, and for how many actors
pub record TurnId (S : Type 0) : Type 0 where
  pub table : TableId
  pub opening : S
  pub actors : ℕ

abbrev pub turn_code : {S : Type 0} → Coded S → Coded (TurnId S)
turn_code {S} c = code_by (TableId × (S × ℕ)) (coded× table_id_coded (coded× c coded_ℕ)) (λ t. (t.table, (t.opening, t.actors))) (λ p. record { table = p.0; opening = p.1.0; actors = p.1.1 }) (λ _. refl)

-- a pass: its turn, the list that it has seen, its own entries, the numbers that it holds, whether it is the first pass or one that took that in, whether it is inside the turn, and the counts that its looks at the front found, in order
pub record Standing : Type 0 where
  pub turn : TableId
  pub seen : List Entry
  pub own : List Placed
  pub numbers : List ℕ
  pub first : Bool
  pub inside : Bool
  pub finds : List ℕ

-- the pass of a new turn, which holds all numbers
abbrev pub first_pass : TableId → ℕ → Standing
first_pass turn actors = record { turn = turn; seen = []; own = []; numbers = below actors; first = true; inside = false; finds = [] }

-- a pass with one number, made from one that has seen this list
abbrev pub second_pass : TableId → List Entry → ℕ → Standing
second_pass turn seen who = record { turn = turn; seen = seen; own = []; numbers = who ∷ []; first = false; inside = false; finds = [] }

-- a pass is the first, or holds a number
abbrev pub Counts : Bool → List ℕ → Type 0
Counts first numbers = (first ≡ true) ⊎ ((n : ℕ) × (has numbers n ≡ true))

-- the list goes on with entries by these numbers alone
pub record GoesOn (numbers : List ℕ) (before after : List Entry) : Type 0 where
  pub new : List Entry
  pub is : after ≡ before ++ new
  pub theirs : ByThese numbers new

-- a pass that brought the list out: it has seen it whole, and each entry that is new there is its own
abbrev pub came_out : Standing → List Entry → Standing
came_out pass log = record pass { seen = log; own = pass.own ++ placed (length pass.seen) (drop (length pass.seen) log); inside = false }

-- a pass that took in another
abbrev pub joined : Standing → Standing → Standing
joined pass other = record pass { seen = longer pass.seen other.seen; own = pass.own ++ other.own; numbers = pass.numbers ++ other.numbers; first = if pass.first then true else other.first }

-- the pass took in all others of its turn: it is the first, and holds every number
pub record IsLast (actors : ℕ) (pass : Standing) : Type 0 where
  pub first : pass.first ≡ true
  pub all : (n : ℕ) → n < actors → has pass.numbers n ≡ true
