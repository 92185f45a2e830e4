-- Small facts on tests.
use Rattle.std.proofs.Common.{◌≡◌, ℕ, ◌&&◌, ◌||◌, ◌==◌, not, Bool, true, false, refl, arith}
use Rattle.std.proofs.lemmas.Bool.Decides.{nat_tests}

pub and_left : (a b : Bool) → (a && b) ≡ true → a ≡ true
and_left true b p = refl
and_left false b p = p

pub and_right : (a b : Bool) → (a && b) ≡ true → b ≡ true
and_right true b p = p
and_right false b p = absurd cc

pub not_true : (b : Bool) → not b ≡ true → b ≡ false
not_true true p = absurd cc
not_true false p = refl

pub and_false : (b : Bool) → (b && false) ≡ false
and_false true = refl
and_false false = refl

pub and_true : (b : Bool) → (b && true) ≡ b
and_true true = refl
and_true false = refl

pub nat_eq_true : (m n : ℕ) → (m == n) ≡ true → m ≡ n
nat_eq_true m n p = grind (arith, nat_tests)

pub nat_eq-same : (n : ℕ) → (n == n) ≡ true
nat_eq-same n = grind (arith, nat_tests)

pub differ : (m n : ℕ) → (m == n) ≡ false → m ≡ n → ⊥
differ m n f same = grind (arith, nat_tests)

pub false_by : (b : Bool) → (b ≡ true → ⊥) → b ≡ false
false_by true never = absurd (never refl)
false_by false never = refl

pub not_false : (b : Bool) → not b ≡ false → b ≡ true
not_false true q = refl
not_false false q = absurd cc

pub or_left : (a b : Bool) → a ≡ true → (a || b) ≡ true
or_left true b is = refl
or_left false b is = absurd cc

pub or_right : (a b : Bool) → b ≡ true → (a || b) ≡ true
or_right true b is = refl
or_right false b is = is

pub and_implied : (a b : Bool) → (b ≡ true → a ≡ true) → (a && b) ≡ b
and_implied true b is = refl
and_implied false true is = is refl
and_implied false false is = refl
