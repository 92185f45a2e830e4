-- Steps of loops over the pages of a range.
use Rattle.std.proofs.Common.{◌≡◌, ℕ, ◌+◌, ◌-◌, ◌<◌, Bool, true, cond, suc, ap, ◌∙◌, arith}
use Rattle.up_span.specs.Runs.{run_of}

suc_of : (n : ℕ) → 0 < n → n ≡ suc (n - 1)
suc_of n some = omega arith

-- one page that passes, and one that doesn't
pub run_goes_on : (test : ℕ → Bool) (p n : ℕ) → 0 < n → test p ≡ true → run_of test p n ≡ suc (run_of test (p + 1) (n - 1))
run_goes_on test p n some is = ap (run_of test p) (suc_of n some) ∙ ap (λ b. cond b (suc (run_of test (p + 1) (n - 1))) 0) is

-- the run after some pages of it
pub run_step : (test : ℕ → Bool) (first count place : ℕ) → place < count → test (first + place) ≡ true → run_of test first count ≡ place + run_of test (first + place) (count - place) →
    run_of test first count ≡ place + 1 + run_of test (first + (place + 1)) (count - (place + 1))
run_step test first count place low is was =
    let next : first + place + 1 ≡ first + (place + 1) = omega arith in
    let left : count - place - 1 ≡ count - (place + 1) = omega arith in
    let more : run_of test (first + place) (count - place) ≡ suc (run_of test (first + (place + 1)) (count - (place + 1))) =
    run_goes_on test (first + place) (count - place) (omega arith) is ∙ (λ i. suc (run_of test (next i) (left i))) in
    was ∙ ap (λ (n : ℕ). place + n) more ∙ shift place (run_of test (first + (place + 1)) (count - (place + 1)))
  where
    shift : (a b : ℕ) → a + suc b ≡ a + 1 + b
    shift a b = omega arith
