-- Looking through pages: the least that passes, a run, and whether none is left.
use Rattle.std.proofs.Common.{◌≡◌, ℕ, ◌+◌, ◌-◌, ◌<◌, ◌≤◌, ◌==◌, ◌&&◌, ◌||◌, Bool, true, false, cond}
use Rattle.std.proofs.Common.{Option, Some, None, List, suc, zero, nat_lt, refl, sym, ap, ◌∙◌}
use Rattle.std.proofs.Common.{subst, arith}
use Rattle.std.proofs.lemmas.Bool.{false≢true}
use Rattle.std.proofs.lemmas.Bool.Decides.{nat_tests}
use Rattle.up_span.specs.Pages.{within, first_page, count_pages}
use Rattle.up_span.specs.Runs.{run_of, runs}
use Rattle.up_span.specs.Sets.{holds, Apart}
use Rattle.up_span.specs.declared.run.Run.{Run}
use Rattle.up_span.proofs.Apart.{same_runs, all_hold, all_apart}
use Rattle.up_span.proofs.Ranges.{run_is}
use Rattle.up_model.specs.Size.{size}
use Rattle.up_model.specs.Value.{there, marked, settled, begun}
use Rattle.up_model.specs.Pins.{loaned}
use Rattle.up_model.specs.States.{plain, unclean}
use Rattle.up_model.specs.Order.{loose}
use Rattle.up_model.specs.Looks.{look_by, look_of}
use Rattle.up_model.specs.Legal.{Legal}
use Rattle.up_model.specs.declared.entry.Birth.{Birth}
use Rattle.up_model.specs.declared.entry.Entry.{Entry}
use Rattle.up_model.proofs.Bools.{and_left}
use Rattle.up_model.proofs.Presence.{pages_within}
use Rattle.up_claims.specs.Sited.{is_free, goes_with, same_test, least, is_tight, is_unclean_or_loose}
use Rattle.up_site.specs.Sought.{is_zeros}

zeros_by : (here mark rest run loan : Bool) → is_zeros (look_by here mark rest run loan) ≡ (here && mark)
zeros_by false m s b l = refl
zeros_by true true s b l = refl
zeros_by true false s b l = refl

pub plain_is : (birth : Birth) (h : List Entry) (p : ℕ) → is_zeros (look_of birth h p) ≡ plain birth h p
plain_is birth h p = zeros_by (there birth h p) (marked birth h p) (settled birth h p) (begun birth h p)
    (loaned birth h p)

-- one page further
first_more : (test : ℕ → Bool) (p n : ℕ) → 0 < n → first_page test p n ≡ cond (test p) (Some p) (first_page
    test (p + 1) (n - 1))
first_more test p zero some = absurd (omega arith)
first_more test p (suc n) some = let less : suc n - 1 ≡ n = omega arith in ap (λ (k : ℕ). cond (test p)
    (Some p) (first_page test (p + 1) k)) (sym less)

pub least_step : (test : ℕ → Bool) (p n : ℕ) → p < n → first_page test p (n - p) ≡ cond (test p) (Some p)
    (first_page test (p + 1) (n - (p + 1)))
least_step test p n low =
    let left : n - p - 1 ≡ n - (p + 1) = omega arith in
    first_more test p (n - p) (omega arith) ∙ ap (λ (k : ℕ). cond (test p) (Some p) (first_page test (p +
    1) k)) left

run_more : (test : ℕ → Bool) (p n : ℕ) → 0 < n → run_of test p n ≡ cond (test p) (suc (run_of test (p + 1)
    (n - 1))) 0
run_more test p zero some = absurd (omega arith)
run_more test p (suc n) some = let less : suc n - 1 ≡ n = omega arith in ap (λ (k : ℕ). cond (test p) (suc
    (run_of test (p + 1) k)) 0) (sym less)

pub run_step : (test : ℕ → Bool) (first count n : ℕ) → count < n →
    run_of test (first + count) (n - count) ≡ cond (test (first + count)) (suc (run_of test (first + (count
    + 1)) (n - (count + 1)))) 0
run_step test first count n low =
    let left : n - count - 1 ≡ n - (count + 1) = omega arith in
    let next : first + count + 1 ≡ first + (count + 1) = omega arith in
    run_more test (first + count) (n - count) (omega arith)
    ∙ ap (λ (k : ℕ). cond (test (first + count)) (suc (run_of test (first + count + 1) k)) 0) left
    ∙ ap (λ (p : ℕ). cond (test (first + count)) (suc (run_of test p (n - (count + 1)))) 0) next

-- a page that may be written back lies within the object
pub free_low : (birth : Birth) (h : List Entry) (among : ℕ → Bool) (p : ℕ) → Legal birth h → is_free birth
    h among p ≡ true → p < size birth h
free_low birth h among p legal free =
    pages_within birth h legal p (and_left (there birth h p) _ (and_left (unclean birth h p) _ (right
    (among p) _ free)))
  where
    right : (a b : Bool) → (a && b) ≡ true → b ≡ true
    right true b both = both
    right false b both = absurd (false≢true both)

pub within_low : (free low rest : Bool) → (free ≡ true → low ≡ true) → ((free && low) && rest) ≡ (free &&
    rest)
within_low true low rest is = let l : low ≡ true = is refl in rw l refl
within_low false low rest is = refl

-- none of two kinds is left exactly where there are none of each
abbrev pub none_of : Option ℕ → Bool
none_of None = true
none_of (Some p) = false

some_not : (n : ℕ) → (suc n == 0) ≡ false
some_not n = grind (arith, nat_tests)

pub none_left : (one other : ℕ → Bool) (p n : ℕ) → none_of (first_page (λ q. one q || other q) p n) ≡
    ((count_pages one p n == 0) && (count_pages other p n == 0))
none_left one other p zero = refl
none_left one other p (suc n) =
    elim (one p) as (λ b. none_of (cond (b || other p) (Some p) (first_page (λ q. one q || other q) (p + 1)
    n))
    ≡ ((cond b (suc (count_pages one (p + 1) n)) (count_pages one (p + 1) n) == 0)
    && (cond (other p) (suc (count_pages other (p + 1) n)) (count_pages other (p + 1) n) == 0))) [
      | true ↦ sym (ap (λ x. x && (cond (other p) (suc (count_pages other (p + 1) n)) (count_pages other (p
          + 1) n) == 0)) (some_not (count_pages one (p + 1) n)))
      | false ↦ elim (other p) as (λ b. none_of (cond b (Some p) (first_page (λ q. one q || other q) (p +
          1) n))
          ≡ ((count_pages one (p + 1) n == 0) && (cond b (suc (count_pages other (p + 1) n)) (count_pages
          other (p + 1) n) == 0))) [
            | true ↦ sym (ap (λ x. (count_pages one (p + 1) n == 0) && x) (some_not (count_pages other (p +
                1) n)) ∙ never (count_pages one (p + 1) n == 0))
            | false ↦ none_left one other (p + 1) n
          ]
    ]
  where
    never : (b : Bool) → (b && false) ≡ false
    never true = refl
    never false = refl

tight_none : (birth : Birth) (h : List Entry) (found : Option ℕ) → is_tight birth h found ≡ none_of found
tight_none birth h None = refl
tight_none birth h (Some p) = refl

pub tight_is : (birth : Birth) (h : List Entry) → is_tight birth h (least birth h (is_unclean_or_loose
    birth h))
    ≡ ((count_pages (unclean birth h) 0 (size birth h) == 0) && (count_pages (loose birth h) 0 (size birth
    h) == 0))
tight_is birth h = tight_none birth h (least birth h (is_unclean_or_loose birth h)) ∙ none_left (unclean
    birth h) (loose birth h) 0 (size birth h)

-- a run of pages that may be written back: it begins with its first page, and all of it may be
same_own : (b : Bool) → same_test b b ≡ true
same_own true = refl
same_own false = refl

pub run_first : (birth : Birth) (h : List Entry) (among : ℕ → Bool) (first : ℕ) → is_free birth h among
    first ≡ true →
    1 + run_of (goes_with birth h among first) (first + 1) (8 - 1) ≡ run_of (goes_with birth h among first)
    first 8
run_first birth h among first free =
    let goes : goes_with birth h among first first ≡ true = rw (free, same_own (plain birth h first)) refl in
    let next : 1 + run_of (goes_with birth h among first) (first + 1) 7 ≡ suc (run_of (goes_with birth h
    among first) (first + 1) 7) = omega arith in
    next ∙ sym (run_more (goes_with birth h among first) first 8 (omega arith) ∙ ap (λ b. cond b (suc
    (run_of (goes_with birth h among first) (first + 1) 7)) 0) goes)

left_and : (a b : Bool) → (a && b) ≡ true → a ≡ true
left_and true b both = refl
left_and false b both = absurd (false≢true both)

pub run_free : (birth : Birth) (h : List Entry) (among : ℕ → Bool) (first count : ℕ) → count ≡ run_of
    (goes_with birth h among first) first 8 →
    (p : ℕ) → within first count p ≡ true → is_free birth h among p ≡ true
run_free birth h among first count is p inside =
    left_and (is_free birth h among p) _ ((run_is (goes_with birth h among first) first 8).1.0 p (subst (λ
    (n : ℕ). within first n p ≡ true) is inside))

-- the page behind the run doesn't go with it, or the run has eight
pub run_last : (test : ℕ → Bool) (first count : ℕ) → count ≤ 8 → (count < 8 → test (first + count) ≡ false) →
    count + run_of test (first + count) (8 - count) ≡ run_of test first 8 → count ≡ run_of test first 8
run_last test first count few stops all =
    elim (nat_lt count 8) as (λ b. nat_lt count 8 ≡ b → count ≡ run_of test first 8) [
      | true ↦ λ is.
          let low : count < 8 = grind (arith, nat_tests) in
          let none : run_of test (first + count) (8 - count) ≡ 0 = run_step test first count 8 low ∙ ap (λ
          b. cond b (suc (run_of test (first + (count + 1)) (8 - (count + 1)))) 0) (stops low) in
          let same : count ≡ count + run_of test (first + count) (8 - count) = omega (arith, none) in same
          ∙ all
      | false ↦ λ is.
          let eight : count ≡ 8 = grind (arith, nat_tests) in
          let none : run_of test (first + count) (8 - count) ≡ 0 = rw eight refl in
          let same : count ≡ count + run_of test (first + count) (8 - count) = omega (arith, none) in same
          ∙ all
    ] refl

-- the unclean pages as a list of runs
within_all : (n q : ℕ) → within 0 n q ≡ nat_lt q n
within_all n q = grind (arith, nat_tests)

pub set_is : (test : ℕ → Bool) (n : ℕ) (set : List Run) → Apart 0 set → ((q : ℕ) → holds set q ≡ (nat_lt q
    n && test q)) → set ≡ runs test 0 0 n
set_is test n set apart is = same_runs 0 set (runs test 0 0 n) apart (all_apart test 0 n)
    (λ q. is q ∙ (ap (λ b. b && test q) (sym (within_all n q)) ∙ sym (all_hold test 0 n q)))

pub run_stops : (count : ℕ) (goes : Bool) → count < 8 → (nat_lt count 8 && goes) ≡ false → goes ≡ false
run_stops count goes low is = let less : nat_lt count 8 ≡ true = grind (arith, nat_tests) in sym (ap (λ b.
    b && goes) less) ∙ is

right_and : (a b : Bool) → (a && b) ≡ true → b ≡ true
right_and true b both = both
right_and false b both = absurd (false≢true both)

pub run_on : (test : ℕ → Bool) (first count total : ℕ) → (nat_lt count 8 && test (first + count)) ≡ true →
    count + run_of test (first + count) (8 - count) ≡ total →
    (count + 1 ≤ 8) × (count + 1 + run_of test (first + (count + 1)) (8 - (count + 1)) ≡ total)
run_on test first count total both all =
    let less : nat_lt count 8 ≡ true = left_and (nat_lt count 8) _ both in
    let low : count < 8 = grind (arith, nat_tests) in
    let here : run_of test (first + count) (8 - count) ≡ suc (run_of test (first + (count + 1)) (8 - (count
    + 1))) =
    run_step test first count 8 low ∙ ap (λ b. cond b (suc (run_of test (first + (count + 1)) (8 - (count +
    1)))) 0) (right_and (nat_lt count 8) _ both) in
    let few : count + 1 ≤ 8 = omega arith in
    let sum : count + 1 + run_of test (first + (count + 1)) (8 - (count + 1)) ≡ total = omega (
      arith,
      here,
      all,
    ) in
    (few, sum)
