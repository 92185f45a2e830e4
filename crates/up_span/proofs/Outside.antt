-- The gaps of a set in a range, one run of the set after another.
use Rattle.std.proofs.Common.{◌≡◌, ℕ, ◌+◌, ◌-◌, ◌<◌, ◌≤◌, ◌&&◌, ◌||◌, ◌++◌, not, min, max, Bool, true, false, leb, ltb, Some, List, [], ◌∷◌, take, drop, length, slice_get, zero, suc, refl, sym, ap, ◌∙◌, subst, ⊎_elim, arith}
use Rattle.std.proofs.lemmas.Bool.{cases_lt}
use Rattle.std.proofs.lemmas.Bool.Decides.{nat_tests}
use Rattle.up_span.specs.Pages.{within}
use Rattle.up_span.specs.Runs.{closed, runs}
use Rattle.up_span.specs.Sets.{holds, Apart, end_of}
use Rattle.up_span.specs.declared.run.Run.{Run}
use Rattle.up_span.proofs.Apart.{apart_lower, all_apart, all_hold, same_runs, hold_closed}
use Rattle.up_span.proofs.Places.{end_append, apart_join, holds_append, split_get, end_take, apart_at, held_at, held_none, some_within}

-- how far the gaps are found: those before page `next`, where the runs before the place end
pub record GapsTo (xs : List Run) (first end place next : ℕ) (outside : List Run) : Type 0 where
  pub within_list : place ≤ length xs
  pub before : end_of 0 (take place xs) ≤ next + 1
  pub later : (run : Run) → slice_get xs place ≡ Some run → next < run.first + run.count
  pub small : (run : Run) → slice_get xs place ≡ Some run → next ≤ max first run.first
  pub start : first ≤ next
  pub apart : Apart first outside
  pub ends : end_of first outside ≤ next
  pub pages : (q : ℕ) → holds outside q ≡ (within first (min next end - first) q && not (holds xs q))

pub gaps_none : (xs : List Run) (first end place : ℕ) → place ≤ length xs → end_of 0 (take place xs) ≤ first + 1 →
    ((run : Run) → slice_get xs place ≡ Some run → first < run.first + run.count) → GapsTo xs first end place first []
gaps_none xs first end place list before later = record {
  within_list = list;
  before = before;
  later = later;
  small = λ run is. omega arith;
  start = omega arith;
  apart = tt;
  ends = omega arith;
  pages = λ q. let none : within first (min first end - first) q ≡ false = grind (arith, nat_tests) in rw none refl;
}

closed_only : (from p c : ℕ) → c ≤ p → (0 < c → from ≤ p - c) → Apart from (closed p c)
closed_only from p zero few starts = tt
closed_only from p (suc c) few starts = (starts (omega arith), (omega arith, tt))

closed_end : (from p c next : ℕ) → c ≤ p → from ≤ next → (0 < c → p + 1 ≤ next) → end_of from (closed p c) ≤ next
closed_end from p zero next few low high = low
closed_end from p (suc c) next few low high = let h : p + 1 ≤ next = high (omega arith) in omega arith

or_is : (b : Bool) → (b || false) ≡ b
or_is true = refl
or_is false = refl

gap_page : (x : Bool) (first end next a stop q : ℕ) → first ≤ next → next < stop → next ≤ end → a < stop → a < end → (next ≤ q → q < stop → x ≡ leb a q) →
    ((within first (min next end - first) q && not x) || within (a - (a - next)) (a - next) q) ≡ (within first (min stop end - first) q && not x)
gap_page x first end next a stop q low later small inside early fact = ⊎_elim
    (λ h. let one : within first (min next end - first) q ≡ within first (min stop end - first) q = grind (arith, nat_tests) in
    let two : within (a - (a - next)) (a - next) q ≡ false = grind (arith, nat_tests) in
    rw (one, two) (or_is (within first (min stop end - first) q && not x)))
    (λ g. ⊎_elim
    (λ h. let one : within first (min next end - first) q ≡ false = grind (arith, nat_tests) in
    let two : within (a - (a - next)) (a - next) q ≡ ltb q a = grind (arith, nat_tests) in
    let three : (false || ltb q a) ≡ (within first (min stop end - first) q && not (leb a q)) = grind (arith, nat_tests) in
    rw (one, two, fact g h) three)
    (λ h. let one : within first (min next end - first) q ≡ false = grind (arith, nat_tests) in
    let two : within (a - (a - next)) (a - next) q ≡ false = grind (arith, nat_tests) in
    let three : within first (min stop end - first) q ≡ false = grind (arith, nat_tests) in
    rw (one, two, three) refl)
    (cases_lt q stop))
    (cases_lt q next)

pub gaps_more : (xs : List Run) (first end place next : ℕ) (outside longer : List Run) (run : Run) → Apart 0 xs → first ≤ end → GapsTo xs first end place next outside →
    place < length xs → slice_get xs place ≡ Some run → run.first < end → longer ≡ outside ++ closed run.first (run.first - next) →
    GapsTo xs first end (place + 1) (run.first + run.count) longer
gaps_more xs first end place next outside longer run a order r below is early more =
    let whole : Apart (end_of 0 (take place xs)) (run ∷ drop (place + 1) xs) = apart_at xs place run a is in
    let some : 0 < run.count = whole.1.0 in
    let low : first ≤ next = r.start in
    let later : next < run.first + run.count = r.later run is in
    let small : next ≤ max first run.first = r.small run is in
    let ended : end_of first outside ≤ next = r.ends in
    let end_is : end_of 0 (take (place + 1) xs) ≡ run.first + run.count + 1 = end_take xs place run is in
    let follows : (other : Run) → slice_get xs (place + 1) ≡ Some other → (run.first + run.count + 1 ≤ other.first) × (0 < other.count) = λ other is_other.
    let rest : Apart (run.first + run.count + 1) (other ∷ drop (place + 1 + 1) xs) = subst (λ ys. Apart (run.first + run.count + 1) ys) (split_get xs (place + 1) other is_other) whole.1.1 in
    (rest.0, rest.1.0) in
    record {
      within_list = omega arith;
      before = omega arith;
      later = λ other is_other. let f = follows other is_other in let one : run.first + run.count + 1 ≤ other.first = f.0 in let two : 0 < other.count = f.1 in omega arith;
      small = λ other is_other. let f = follows other is_other in let one : run.first + run.count + 1 ≤ other.first = f.0 in omega arith;
      start = omega arith;
      apart = subst (λ ys. Apart first ys) (sym more) (apart_join first outside (closed run.first (run.first - next)) r.apart
          (closed_only (end_of first outside) run.first (run.first - next) (omega arith) (λ h. omega arith)));
      ends = subst (λ ys. end_of first ys ≤ run.first + run.count) (sym more) (subst (λ n. n ≤ run.first + run.count) (sym (end_append first outside (closed run.first (run.first - next))))
          (closed_end (end_of first outside) run.first (run.first - next) (run.first + run.count) (omega arith) (omega arith) (λ h. omega arith)));
      pages = λ q. ap (λ ys. holds ys q) more ∙ holds_append outside (closed run.first (run.first - next)) q
          ∙ ap (λ b. b || holds (closed run.first (run.first - next)) q) (r.pages q)
          ∙ ap (λ b. (within first (min next end - first) q && not (holds xs q)) || b) (hold_closed run.first (run.first - next) q)
          ∙ gap_page (holds xs q) first end next run.first (run.first + run.count) q low later (omega arith) (omega arith) early
          (λ g h. held_at xs place q run a (let b : end_of 0 (take place xs) ≤ next + 1 = r.before in omega arith) is h);
    }

last_page : (x : Bool) (first count next q : ℕ) → first ≤ next → (next ≤ q → q < first + count → x ≡ false) →
    ((within first (min next (first + count) - first) q && not x) || within (first + count - (first + count - next)) (first + count - next) q) ≡ (within first count q && not x)
last_page x first count next q low fact = ⊎_elim
    (λ h. let one : within first (min next (first + count) - first) q ≡ within first count q = grind (arith, nat_tests) in
    let two : within (first + count - (first + count - next)) (first + count - next) q ≡ false = grind (arith, nat_tests) in
    rw (one, two) (or_is (within first count q && not x)))
    (λ g. let one : within first (min next (first + count) - first) q ≡ false = grind (arith, nat_tests) in
    ⊎_elim
    (λ h. let two : within (first + count - (first + count - next)) (first + count - next) q ≡ true = grind (arith, nat_tests) in
    let three : within first count q ≡ true = grind (arith, nat_tests) in
    rw (one, two, three, fact g h) refl)
    (λ h. let two : within (first + count - (first + count - next)) (first + count - next) q ≡ false = grind (arith, nat_tests) in
    let three : within first count q ≡ false = grind (arith, nat_tests) in
    rw (one, two, three) refl)
    (cases_lt q (first + count)))
    (cases_lt q next)

pub gaps_all : (xs : List Run) (first count place next : ℕ) (outside all : List Run) → Apart 0 xs → GapsTo xs first (first + count) place next outside →
    ((run : Run) → slice_get xs place ≡ Some run → first + count ≤ run.first) → all ≡ outside ++ closed (first + count) (first + count - next) →
    all ≡ runs (λ p. not (holds xs p)) first 0 count
gaps_all xs first count place next outside all a r past is =
    let low : first ≤ next = r.start in
    let ended : end_of first outside ≤ next = r.ends in
    let apart : Apart first all = subst (λ ys. Apart first ys) (sym is) (apart_join first outside (closed (first + count) (first + count - next)) r.apart
    (closed_only (end_of first outside) (first + count) (first + count - next) (omega arith) (λ h. omega arith))) in
    same_runs 0 all (runs (λ p. not (holds xs p)) first 0 count) (apart_lower 0 first all (omega arith) apart)
    (apart_lower 0 first (runs (λ p. not (holds xs p)) first 0 count) (omega arith) (all_apart (λ p. not (holds xs p)) first count))
    (λ q. ap (λ ys. holds ys q) is ∙ holds_append outside (closed (first + count) (first + count - next)) q
    ∙ ap (λ b. b || holds (closed (first + count) (first + count - next)) q) (r.pages q)
    ∙ ap (λ b. (within first (min next (first + count) - first) q && not (holds xs q)) || b) (hold_closed (first + count) (first + count - next) q)
    ∙ last_page (holds xs q) first count next q low (λ g h. not_held q g h)
    ∙ sym (all_hold (λ p. not (holds xs p)) first count q))
  where
    not_held : (q : ℕ) → next ≤ q → q < first + count → holds xs q ≡ false
    not_held q g h =
        let before : end_of 0 (take place xs) ≤ next + 1 = r.before in
        ⊎_elim
        (λ below. some_within xs place (holds xs q ≡ false) below (λ run is_run.
        let later : first + count ≤ run.first = past run is_run in
        let some : Apart (end_of 0 (take place xs)) (run ∷ drop (place + 1) xs) = apart_at xs place run a is_run in
        let count' : 0 < run.count = some.1.0 in
        held_at xs place q run a (omega arith) is_run (omega arith) ∙ grind (arith, nat_tests)))
        (λ over. held_none xs place q a (omega arith) over)
        (cases_lt place (length xs))
