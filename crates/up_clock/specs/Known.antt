-- What contracts see of a clock's seat, and what one call of `age` finds.
use Rattle.std.specs.Prelude.{◌≡◌, ℕ, ◌+◌, ◌-◌, ◌^◌, ◌<◌, Bool, true, false, List, [], ◌∷◌, ◌++◌, refl}
use Rattle.std.specs.Coded.{Coded, code_by, coded×, coded_ℕ, coded_bool, coded_list}
use Rattle.atomic_table.specs.Seated.{TableId, table_id_coded}

-- the clock that the seat is of, whether that never had another seat, the greatest number that the seat was answered, how often it aged the clock, and what its loads and fetches found, in order
pub record Known : Type 0 where
  pub clock : TableId
  pub sole : Bool
  pub told : ℕ
  pub ages : ℕ
  pub finds : List ℕ

abbrev pub known_code : Coded Known
known_code = code_by (TableId × (Bool × (ℕ × (ℕ × List ℕ)))) (coded× table_id_coded (coded× coded_bool (coded× coded_ℕ (coded× coded_ℕ (coded_list coded_ℕ)))))
    (λ k. (k.clock, (k.sole, (k.told, (k.ages, k.finds)))))
    (λ p. record { clock = p.0; sole = p.1.0; told = p.1.1.0; ages = p.1.1.1.0; finds = p.1.1.1.1 })
    (λ _. refl)

-- the only seat of a new clock
abbrev pub first_seat : TableId → Known
first_seat clock = record { clock = clock; sole = true; told = 0; ages = 0; finds = [] }

-- a second seat, made from one that was told so much
abbrev pub second_seat : TableId → ℕ → Known
second_seat clock told = record { clock = clock; sole = false; told = told; ages = 0; finds = [] }

-- the greatest number that a clock reaches, and keeps
abbrev pub last_age : ℕ
last_age = 2 ^ 64 - 1

-- what one age finds, and answers: the end of the clock at its load, or some number at its load and no less at its fetch, and then it answers one more than the first
pub data Aged (before after : List ℕ) (answer : ℕ) : Type 0 where
  at_the_end : answer ≡ last_age → after ≡ before ++ last_age ∷ [] → Aged before after answer
  one_more : (load fetch : ℕ) → answer ≡ load + 1 → load < last_age → after ≡ before ++ load ∷ fetch ∷ [] → Aged before after answer
