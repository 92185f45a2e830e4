-- One page or ticket more of a range: what the definitions over ranges make of it.
use Rattle.std.proofs.Common.{◌≡◌, ◌<◌, ℕ, ◌+◌, ◌-◌, Bool, true, false, cond, Some, List, [], ◌∷◌, ◌++◌, zero, suc, refl, sym, ap, ◌∙◌, append_assoc, arith}
use Rattle.up_model.specs.Pages.{first_page, count_pages, list_pages}
use Rattle.up_model.specs.Tickets.{wakes, woken_from}
use Rattle.up_model.specs.declared.entry.Birth.{Birth}
use Rattle.up_model.specs.declared.entry.Entry.{Entry}
use Rattle.up_model.specs.declared.entry.Call.{Call}
use Rattle.up_facts.proofs.Places.{next_place, left}

-- an element that is put before the rest, or after what is there already
grown : {A : Type 0} (test : Bool) (xs ys : List A) (x : A) → xs ++ cond test (x ∷ ys) ys ≡ cond test (xs ++ x ∷ []) xs ++ ys
grown true xs ys x = sym (append_assoc xs (x ∷ []) ys)
grown false xs ys x = refl

first_more : (test : ℕ → Bool) (p n : ℕ) → 0 < n → first_page test p n ≡ cond (test p) (Some p) (first_page test (p + 1) (n - 1))
first_more test p zero h = absurd (omega arith)
first_more test p (suc n) h =
    let less : n ≡ suc n - 1 = omega arith in
    ap (λ k. cond (test p) (Some p) (first_page test (p + 1) k)) less

pub first_step : (test : ℕ → Bool) (first place count : ℕ) → place < count →
    first_page test (first + place) (count - place)
    ≡ cond (test (first + place)) (Some (first + place)) (first_page test (first + (place + 1)) (count - (place + 1)))
first_step test first place count h =
    let some : 0 < count - place = omega arith in
    first_more test (first + place) (count - place) some
    ∙ ap (λ p. cond (test (first + place)) (Some (first + place)) (first_page test p (count - place - 1))) (next_place first place)
    ∙ ap (λ n. cond (test (first + place)) (Some (first + place)) (first_page test (first + (place + 1)) n)) (left place count)

one_more : (test : Bool) (n : ℕ) → cond test (suc n) n ≡ cond test 1 0 + n
one_more true n = omega arith
one_more false n = omega arith

count_more : (test : ℕ → Bool) (p n : ℕ) → 0 < n →
    count_pages test p n ≡ cond (test p) 1 0 + count_pages test (p + 1) (n - 1)
count_more test p zero h = absurd (omega arith)
count_more test p (suc n) h =
    let less : n ≡ suc n - 1 = omega arith in
    one_more (test p) (count_pages test (p + 1) n) ∙ ap (λ k. cond (test p) 1 0 + count_pages test (p + 1) k) less

pub count_step : (test : ℕ → Bool) (first place count : ℕ) → place < count →
    count_pages test (first + place) (count - place)
    ≡ cond (test (first + place)) 1 0 + count_pages test (first + (place + 1)) (count - (place + 1))
count_step test first place count h =
    let some : 0 < count - place = omega arith in
    count_more test (first + place) (count - place) some
    ∙ ap (λ p. cond (test (first + place)) 1 0 + count_pages test p (count - place - 1)) (next_place first place)
    ∙ ap (λ n. cond (test (first + place)) 1 0 + count_pages test (first + (place + 1)) n) (left place count)

list_more : (test : ℕ → Bool) (p n : ℕ) → 0 < n →
    list_pages test p n ≡ cond (test p) (p ∷ list_pages test (p + 1) (n - 1)) (list_pages test (p + 1) (n - 1))
list_more test p zero h = absurd (omega arith)
list_more test p (suc n) h =
    let less : n ≡ suc n - 1 = omega arith in
    ap (λ k. cond (test p) (p ∷ list_pages test (p + 1) k) (list_pages test (p + 1) k)) less

-- the pages that a loop from page 0 on has listed, and those to come
pub list_step : (test : ℕ → Bool) (xs : List ℕ) (p size : ℕ) → p < size →
    xs ++ list_pages test p (size - p) ≡ cond (test p) (xs ++ p ∷ []) xs ++ list_pages test (p + 1) (size - (p + 1))
list_step test xs p size h =
    let some : 0 < size - p = omega arith in
    ap (λ ys. xs ++ ys) (list_more test p (size - p) some)
    ∙ grown (test p) xs (list_pages test (p + 1) (size - p - 1)) p
    ∙ ap (λ n. cond (test p) (xs ++ p ∷ []) xs ++ list_pages test (p + 1) n) (left p size)

woken_more : (birth : Birth) (h : List Entry) (call : Call) (t n : ℕ) → 0 < n →
    woken_from birth h call t n
    ≡ cond (wakes birth h call t) (t ∷ woken_from birth h call (t + 1) (n - 1)) (woken_from birth h call (t + 1) (n - 1))
woken_more birth h call t zero some = absurd (omega arith)
woken_more birth h call t (suc n) some =
    let less : n ≡ suc n - 1 = omega arith in
    ap (λ k. cond (wakes birth h call t) (t ∷ woken_from birth h call (t + 1) k) (woken_from birth h call (t + 1) k)) less

-- the tickets that a loop has found woken, and those to come
pub woken_step : (birth : Birth) (h : List Entry) (call : Call) (xs : List ℕ) (t end : ℕ) → t < end →
    xs ++ woken_from birth h call t (end - t)
    ≡ cond (wakes birth h call t) (xs ++ t ∷ []) xs ++ woken_from birth h call (t + 1) (end - (t + 1))
woken_step birth h call xs t end below =
    let some : 0 < end - t = omega arith in
    ap (λ ys. xs ++ ys) (woken_more birth h call t (end - t) some)
    ∙ grown (wakes birth h call t) xs (woken_from birth h call (t + 1) (end - t - 1)) t
    ∙ ap (λ n. cond (wakes birth h call t) (xs ++ t ∷ []) xs ++ woken_from birth h call (t + 1) n) (left t end)
