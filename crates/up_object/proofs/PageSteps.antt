-- One page more of a range: what is still to come of it.
use Rattle.std.proofs.Common.{◌≡◌, ◌<◌, ℕ, ◌+◌, ◌-◌, Bool, true, false, cond, Some, zero, suc, ap, ◌∙◌, arith}
use Rattle.up_span.specs.Pages.{first_page, count_pages}

next_place : (first place : ℕ) → first + place + 1 ≡ first + (place + 1)
next_place first place = omega arith

left : (place count : ℕ) → count - place - 1 ≡ count - (place + 1)
left place count = omega arith

first_more : (test : ℕ → Bool) (p n : ℕ) → 0 < n → first_page test p n ≡ cond (test p) (Some p) (first_page test (p + 1) (n - 1))
first_more test p zero h = absurd (omega arith)
first_more test p (suc n) h =
    let less : n ≡ suc n - 1 = omega arith in
    ap (λ k. cond (test p) (Some p) (first_page test (p + 1) k)) less

pub first_step : (test : ℕ → Bool) (first place count : ℕ) → place < count →
    first_page test (first + place) (count - place)
    ≡ cond (test (first + place)) (Some (first + place)) (first_page test (first + (place + 1)) (count - (place + 1)))
first_step test first place count h =
    let some : 0 < count - place = omega arith in
    first_more test (first + place) (count - place) some
    ∙ ap (λ p. cond (test (first + place)) (Some (first + place)) (first_page test p (count - place - 1))) (next_place first place)
    ∙ ap (λ n. cond (test (first + place)) (Some (first + place)) (first_page test (first + (place + 1)) n)) (left place count)

one_more : (test : Bool) (n : ℕ) → cond test (suc n) n ≡ cond test 1 0 + n
one_more true n = omega arith
one_more false n = omega arith

count_more : (test : ℕ → Bool) (p n : ℕ) → 0 < n → count_pages test p n ≡ cond (test p) 1 0 + count_pages test (p + 1) (n - 1)
count_more test p zero h = absurd (omega arith)
count_more test p (suc n) h =
    let less : n ≡ suc n - 1 = omega arith in
    one_more (test p) (count_pages test (p + 1) n) ∙ ap (λ k. cond (test p) 1 0 + count_pages test (p + 1) k) less

pub count_step : (test : ℕ → Bool) (first place count : ℕ) → place < count →
    count_pages test (first + place) (count - place) ≡ cond (test (first + place)) 1 0 + count_pages test (first + (place + 1)) (count - (place + 1))
count_step test first place count h =
    let some : 0 < count - place = omega arith in
    count_more test (first + place) (count - place) some
    ∙ ap (λ p. cond (test (first + place)) 1 0 + count_pages test p (count - place - 1)) (next_place first place)
    ∙ ap (λ n. cond (test (first + place)) 1 0 + count_pages test (first + (place + 1)) n) (left place count)
