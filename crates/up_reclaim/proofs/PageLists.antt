-- Lists of pages that pass a test: one page more, and which pages they have.
use Rattle.std.proofs.Common.{◌≡◌, ℕ, ◌+◌, ◌-◌, ◌<◌, ◌≤◌, ◌==◌, ◌&&◌, ◌||◌, Bool, true, false, cond, List, [], ◌∷◌, ◌++◌, length, map, zero, suc, refl, ap, sym, ◌∙◌, append_assoc, arith}
use Rattle.std.specs.List.{list_any}
use Rattle.std.proofs.lemmas.Bool.Decides.{nat_tests}
use Rattle.up_num.specs.Pages.{page_number}
use Rattle.up_num.specs.declared.pages.PageNo.{PageNo}
use Rattle.up_span.specs.Pages.{within, list_pages}
use Rattle.up_span.proofs.Ranges.{lists_pass}
use Rattle.up_model.specs.Deeds.{has_page}

list_more : (test : ℕ → Bool) (p n : ℕ) → 0 < n → list_pages test p n ≡ cond (test p) (p ∷ list_pages test (p + 1) (n - 1)) (list_pages test (p + 1) (n - 1))
list_more test p zero h = absurd (omega arith)
list_more test p (suc n) h =
    let less : n ≡ suc n - 1 = omega arith in
    ap (λ k. cond (test p) (p ∷ list_pages test (p + 1) k) (list_pages test (p + 1) k)) less

grown : (test : Bool) (xs : List PageNo) (p : ℕ) (ys : List ℕ) → xs ++ map page_number (cond test (p ∷ ys) ys) ≡ cond test (xs ++ page_number p ∷ []) xs ++ map page_number ys
grown true xs p ys = sym (append_assoc xs (page_number p ∷ []) (map page_number ys))
grown false xs p ys = refl

left : (p size : ℕ) → size - p - 1 ≡ size - (p + 1)
left p size = omega arith

-- the pages that a loop from page 0 on has listed, and those to come
pub number_step : (test : ℕ → Bool) (xs : List PageNo) (p size : ℕ) → p < size →
    xs ++ map page_number (list_pages test p (size - p)) ≡ cond (test p) (xs ++ page_number p ∷ []) xs ++ map page_number (list_pages test (p + 1) (size - (p + 1)))
number_step test xs p size h =
    let some : 0 < size - p = omega arith in
    ap (λ (ys : List ℕ). xs ++ map page_number ys) (list_more test p (size - p) some)
    ∙ grown (test p) xs p (list_pages test (p + 1) (size - p - 1))
    ∙ ap (λ (n : ℕ). cond (test p) (xs ++ page_number p ∷ []) xs ++ map page_number (list_pages test (p + 1) n)) (left p size)

longer : (test : Bool) (n : ℕ) (p : ℕ) (ys : List ℕ) → n + length (cond test (p ∷ ys) ys) ≡ cond test (n + 1) n + length ys
longer true n p ys = omega arith
longer false n p ys = refl

-- how many a loop from page 0 on has counted, and how many are to come
pub firm_step : (test : ℕ → Bool) (n p size : ℕ) → p < size → n + length (list_pages test p (size - p)) ≡ cond (test p) (n + 1) n + length (list_pages test (p + 1) (size - (p + 1)))
firm_step test n p size h =
    let some : 0 < size - p = omega arith in
    ap (λ (ys : List ℕ). n + length ys) (list_more test p (size - p) some)
    ∙ longer (test p) n p (list_pages test (p + 1) (size - p - 1))
    ∙ ap (λ (k : ℕ). cond (test p) (n + 1) n + length (list_pages test (p + 1) k)) (left p size)

has_numbers : (ps : List ℕ) (p : ℕ) → has_page (map page_number ps) p ≡ list_any (λ q. q == p) ps
has_numbers [] p = refl
has_numbers (q ∷ qs) p = ap (λ b. (q == p) || b) (has_numbers qs p)

-- a page is listed where it passes and is one of the n
pub listed : (test : ℕ → Bool) (n p : ℕ) → has_page (map page_number (list_pages test 0 n)) p ≡ (within 0 n p && test p)
listed test n p = has_numbers (list_pages test 0 n) p ∙ lists_pass test 0 n p

inside : (n p : ℕ) (b : Bool) → p < n → (within 0 n p && b) ≡ b
inside n p b lt = let is : within 0 n p ≡ true = grind (arith, nat_tests) in rw is refl

outside : (n p : ℕ) (b : Bool) → n ≤ p → (within 0 n p && b) ≡ false
outside n p b le = let is : within 0 n p ≡ false = grind (arith, nat_tests) in rw is refl

pub listed_inside : (test : ℕ → Bool) (n p : ℕ) → p < n → has_page (map page_number (list_pages test 0 n)) p ≡ test p
listed_inside test n p lt = listed test n p ∙ inside n p (test p) lt

pub listed_outside : (test : ℕ → Bool) (n p : ℕ) → n ≤ p → has_page (map page_number (list_pages test 0 n)) p ≡ false
listed_outside test n p le = listed test n p ∙ outside n p (test p) le
