-- The first item of a list that fails a test.
use Rattle.std.proofs.Common.{◌≡◌, ℕ, ◌+◌, ◌<◌, ◌≤◌, ◌&&◌, Bool, true, false, cond, List, [], ◌∷◌, length, get_or, drop, Some, None, refl, ◌∙◌}
use Rattle.std.specs.List.{list_all}
use Rattle.std.proofs.lemmas.List.{at_drop_more, at_drop_all}
use Rattle.pagerd.specs.Built.{first_failing}

pub failing_here : {X : Type 0} (test : X → Bool) (number : X → ℕ) (xs : List X) (i : ℕ) (d : X) → i < length xs → test (get_or xs i d) ≡ false → first_failing test number (drop i xs) ≡ Some (number (get_or xs i d))
unfolding first_failing
failing_here test number xs i d lt fails = at_drop_more (first_failing test number) xs i d lt ∙ rw fails refl

pub failing_more : {X : Type 0} (test : X → Bool) (number : X → ℕ) (xs : List X) (i : ℕ) (d : X) → i < length xs → test (get_or xs i d) ≡ true → first_failing test number (drop i xs) ≡ first_failing test number (drop (i + 1) xs)
unfolding first_failing
failing_more test number xs i d lt passes = at_drop_more (first_failing test number) xs i d lt ∙ rw passes refl

pub failing_nowhere : {X : Type 0} (test : X → Bool) (number : X → ℕ) (xs : List X) (i : ℕ) → length xs ≤ i → first_failing test number (drop i xs) ≡ None
unfolding first_failing
failing_nowhere test number xs i le = at_drop_all (first_failing test number) xs i le

-- where no item fails, all pass
pub none_fails : {X : Type 0} (test : X → Bool) (number : X → ℕ) (xs : List X) → first_failing test number xs ≡ None → list_all test xs ≡ true
unfolding first_failing
none_fails test number [] e = refl
none_fails test number (x ∷ xs) e =
    elim (test x) as (λ b. cond b (first_failing test number xs) (Some (number x)) ≡ None → (b && list_all test xs) ≡ true) [
      | true ↦ λ p. none_fails test number xs p
      | false ↦ λ p. absurd cc
    ] e
