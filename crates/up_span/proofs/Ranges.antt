-- The pages of a range: the first that passes, those that pass, how many they are, and the run that starts there.
use Rattle.std.proofs.Common.{◌≡◌, ℕ, ◌+◌, ◌<◌, ◌≤◌, ◌==◌, ◌&&◌, ◌||◌, Bool, true, false, cond, Option, Some, None, List, [], ◌∷◌, length, zero, suc, refl, sym, ap, subst, eqb, arith}
use Rattle.std.specs.Prelude.{MatchOption}
use Rattle.std.specs.List.{list_any}
use Rattle.std.proofs.lemmas.Bool.Decides.{nat_tests}
use Rattle.up_span.specs.Pages.{within, first_page, count_pages, list_pages}
use Rattle.up_span.specs.Runs.{run_of}
use Rattle.up_span.specs.Laws.{Rise}

-- a page of a range is its first one or one of the others
pub within_split : (p n q : ℕ) (P : Type 0) → within p (suc n) q ≡ true → (q ≡ p → P) → (within (p + 1) n q ≡ true → P) → P
within_split p n q P h here there = elim (eqb p q) as (λ b. eqb p q ≡ b → P) [
  | true ↦ λ same. here (grind (arith, nat_tests))
  | false ↦ λ other. there (grind (arith, nat_tests))
] refl

within_later : (p n q : ℕ) → within (p + 1) n q ≡ true → within p (suc n) q ≡ true
within_later p n q h = grind (arith, nat_tests)

within_none : (p q : ℕ) → within p 0 q ≡ false
within_none p q = grind (arith, nat_tests)

within_here : (p n : ℕ) → within p (suc n) p ≡ true
within_here p n = grind (arith, nat_tests)

no_page : (P : Type 0) (p q : ℕ) → within p 0 q ≡ true → P
no_page P p q h = absurd (grind (arith, nat_tests))

abbrev FirstIs : (ℕ → Bool) → ℕ → ℕ → Option ℕ → Type 0
FirstIs test first count found = MatchOption found
    ((page : ℕ) → within first count page ≡ true → test page ≡ false)
    (λ page. (within first count page ≡ true) × ((test page ≡ true) × ((earlier : ℕ) → first ≤ earlier → earlier < page → test earlier ≡ false)))

first_later : (test : ℕ → Bool) (p n : ℕ) (found : Option ℕ) → test p ≡ false → FirstIs test (p + 1) n found → FirstIs test p (suc n) found
first_later test p n None f later = λ page h. within_split p n page (test page ≡ false) h (λ same. subst (λ q. test q ≡ false) (sym same) f) (later page)
first_later test p n (Some found) f later = (
  within_later p n found later.0,
  (
    later.1.0,
    λ page low high.
        elim (eqb p page) as (λ b. eqb p page ≡ b → test page ≡ false) [
          | true ↦ λ same. let is : p ≡ page = grind (arith, nat_tests) in subst (λ q. test q ≡ false) is f
          | false ↦ λ other. let up : p + 1 ≤ page = grind (arith, nat_tests) in later.1.1 page up high
        ] refl,
  ),
)

pub first_is : (test : ℕ → Bool) (first count : ℕ) → FirstIs test first count (first_page test first count)
first_is test p zero = λ page h. no_page (test page ≡ false) p page h
first_is test p (suc n) = elim (test p) as (λ b. test p ≡ b → FirstIs test p (suc n) (cond b (Some p) (first_page test (p + 1) n))) [
  | true ↦ λ t. (within_here p n, (t, λ page low high. absurd (omega arith)))
  | false ↦ λ f. first_later test p n (first_page test (p + 1) n) f (first_is test (p + 1) n)
] refl

pass_more : (p n q : ℕ) (t l : Bool) → (p ≡ q → t ≡ true) → l ≡ (within (p + 1) n q && t) → (eqb p q || l) ≡ (within p (suc n) q && t)
pass_more p n q true l here is = grind (arith, nat_tests)
pass_more p n q false l here is = grind (arith, nat_tests)

fail_more : (p n q : ℕ) (t l : Bool) → (p ≡ q → t ≡ false) → l ≡ (within (p + 1) n q && t) → l ≡ (within p (suc n) q && t)
fail_more p n q true l here is = grind (arith, nat_tests)
fail_more p n q false l here is = grind (arith, nat_tests)

pub lists_pass : (test : ℕ → Bool) (first count page : ℕ) → list_any (λ listed. listed == page) (list_pages test first count) ≡ (within first count page && test page)
lists_pass test p zero page = rw (within_none p page) refl
lists_pass test p (suc n) page =
    elim (test p) as (λ b. test p ≡ b →
    list_any (λ listed. listed == page) (cond b (p ∷ list_pages test (p + 1) n) (list_pages test (p + 1) n)) ≡ (within p (suc n) page && test page)) [
      | true ↦ λ t. pass_more p n page (test page) _ (λ same. subst (λ q. test q ≡ true) same t) (lists_pass test (p + 1) n page)
      | false ↦ λ f. fail_more p n page (test page) _ (λ same. subst (λ q. test q ≡ false) same f) (lists_pass test (p + 1) n page)
    ] refl

rise_lower : (low from : ℕ) (pages : List ℕ) → low ≤ from → Rise from pages → Rise low pages
rise_lower low from [] h r = tt
rise_lower low from (p ∷ ps) h r = (let first : from ≤ p = r.0 in omega arith, r.1)

pub lists_rise : (test : ℕ → Bool) (first count : ℕ) → Rise first (list_pages test first count)
lists_rise test p zero = tt
lists_rise test p (suc n) = elim (test p) as (λ b. Rise p (cond b (p ∷ list_pages test (p + 1) n) (list_pages test (p + 1) n))) [
  | true ↦ (omega arith, lists_rise test (p + 1) n)
  | false ↦ rise_lower p (p + 1) (list_pages test (p + 1) n) (omega arith) (lists_rise test (p + 1) n)
]

pub counts_listed : (test : ℕ → Bool) (first count : ℕ) → count_pages test first count ≡ length (list_pages test first count)
counts_listed test p zero = refl
counts_listed test p (suc n) = elim (test p) as (λ b. cond b (suc (count_pages test (p + 1) n)) (count_pages test (p + 1) n)
    ≡ length (cond b (p ∷ list_pages test (p + 1) n) (list_pages test (p + 1) n))) [
      | true ↦ ap suc (counts_listed test (p + 1) n)
      | false ↦ counts_listed test (p + 1) n
    ]

abbrev RunIs : (ℕ → Bool) → ℕ → ℕ → ℕ → Type 0
RunIs test first count run = (run ≤ count) × (((page : ℕ) → within first run page ≡ true → test page ≡ true) × (run < count → test (first + run) ≡ false))

run_longer : (test : ℕ → Bool) (p n run : ℕ) → test p ≡ true → RunIs test (p + 1) n run → RunIs test p (suc n) (suc run)
run_longer test p n run t later = (
  let few : run ≤ n = later.0 in omega arith,
  (
    λ page h. within_split p run page (test page ≡ true) h (λ same. subst (λ q. test q ≡ true) (sym same) t) (later.1.0 page),
    λ h. let less : run < n = omega arith in let next : p + 1 + run ≡ p + suc run = omega arith in subst (λ q. test q ≡ false) next (later.1.1 less),
  ),
)

pub run_is : (test : ℕ → Bool) (first count : ℕ) → RunIs test first count (run_of test first count)
run_is test p zero = (omega arith, (λ page h. no_page (test page ≡ true) p page h, λ h. absurd (omega arith)))
run_is test p (suc n) = elim (test p) as (λ b. test p ≡ b → RunIs test p (suc n) (cond b (suc (run_of test (p + 1) n)) 0)) [
  | true ↦ λ t. run_longer test p n (run_of test (p + 1) n) t (run_is test (p + 1) n)
  | false ↦ λ f. (
    omega arith,
    (
      λ page h. no_page (test page ≡ true) p page h,
      λ h. let here : p ≡ p + 0 = omega arith in subst (λ q. test q ≡ false) here f,
    ),
  )
] refl
