-- One page more of a range.
use Rattle.std.proofs.Common.{◌≡◌, ◌<◌, ℕ, ◌+◌, ◌-◌, Bool, cond, zero, suc, refl, ap, ◌∙◌, arith}
use Rattle.up_model.specs.Pages.{run_of}

-- the place and the number that are left, after one step
pub next_place : (first place : ℕ) → first + place + 1 ≡ first + (place + 1)
next_place first place = omega arith

pub left : (place count : ℕ) → count - place - 1 ≡ count - (place + 1)
left place count = omega arith

run_more : (test : ℕ → Bool) (p n : ℕ) → 0 < n → run_of test p n ≡ cond (test p) (1 + run_of test (p + 1) (n - 1)) 0
run_more test p zero h = absurd (omega arith)
run_more test p (suc n) h =
    let e : suc (run_of test (p + 1) n) ≡ 1 + run_of test (p + 1) n = omega arith in
    let less : n ≡ suc n - 1 = omega arith in
    ap (λ k. cond (test p) k 0) e ∙ ap (λ k. cond (test p) (1 + run_of test (p + 1) k) 0) less

pub run_step : (test : ℕ → Bool) (first place count : ℕ) → place < count →
    run_of test (first + place) (count - place) ≡ cond (test (first + place)) (1 + run_of test (first + (place + 1)) (count - (place + 1))) 0
run_step test first place count h =
    let some : 0 < count - place = omega arith in
    run_more test (first + place) (count - place) some
    ∙ ap (λ p. cond (test (first + place)) (1 + run_of test p (count - place - 1)) 0) (next_place first place)
    ∙ ap (λ n. cond (test (first + place)) (1 + run_of test (first + (place + 1)) n) 0) (left place count)

pub run_none : (test : ℕ → Bool) (p : ℕ) → run_of test p 0 ≡ 0
run_none test p = refl
