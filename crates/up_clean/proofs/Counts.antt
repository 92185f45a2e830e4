-- Pages of a range one by one: those that are counted, and the given frames that they use.
use Rattle.std.proofs.Common.{◌≡◌, ℕ, ◌+◌, ◌-◌, ◌<◌, ◌≤◌, Bool, true, false, cond, zero, suc, ap, sym, ◌∙◌, arith}
use Rattle.up_span.specs.Pages.{count_pages}
use Rattle.up_pages.proofs.HeldCounts.{count_last}
use Rattle.up_object.specs.Change.{Change, next_using}
use Rattle.up_object.proofs.PageSteps.{count_step}
use Rattle.up_clean.specs.Dirties.{lent, further_using}

-- no more pages are counted than there are
pub count_few : (test : ℕ → Bool) (p n : ℕ) → count_pages test p n ≤ n
count_few test p zero = omega arith
count_few test p (suc n) =
    let rest : count_pages test (p + 1) n ≤ n = count_few test (p + 1) n in
    elim (test p) as (λ b. cond b (suc (count_pages test (p + 1) n)) (count_pages test (p + 1) n) ≤ suc n) [
      | true ↦ omega arith
      | false ↦ omega arith
    ]

-- two tests that agree count the same
pub count_alike : (one other : ℕ → Bool) (p n : ℕ) → ((q : ℕ) → one q ≡ other q) → count_pages one p n ≡ count_pages other p n
count_alike one other p n same = λ i. count_pages (λ q. same q i) p n

pub none_used : (change : Change) → change ≡ further_using 0 0 change
none_used change =
    let mark : change.done.mark ≡ change.done.mark + 0 = omega arith in
    let given : change.given ≡ change.given - 0 = omega arith in
    λ i. record change { done = record change.done { mark = mark i }; given = given i }

-- one page further, with a frame used where the page passes the test
pub used_step : (old change new : Change) (test : ℕ → Bool) (first place : ℕ) → old.done.mark ≡ first → change ≡ further_using (count_pages test first place) place old →
    new ≡ next_using (test change.done.mark) change → new ≡ further_using (count_pages test first (place + 1)) (place + 1) old
used_step old change new test first place start at is =
    let used = count_pages test first place in
    let one : suc place ≡ place + 1 = omega arith in
    let more : count_pages test first (place + 1) ≡ used + cond (test (first + place)) 1 0 = ap (count_pages test first) (sym one) ∙ count_last test first place in
    let here : cond {A = ℕ} (test (old.done.mark + place)) 1 0 ≡ cond (test (first + place)) 1 0 = ap (λ (m : ℕ). cond {A = ℕ} (test (m + place)) 1 0) start in
    let mark : old.done.mark + place + 1 ≡ old.done.mark + (place + 1) = omega arith in
    let given : old.given - used - cond (test (old.done.mark + place)) 1 0 ≡ old.given - count_pages test first (place + 1) = omega arith in
    is ∙ ap (λ (x : Change). next_using (test x.done.mark) x) at ∙ (λ i. record old { done = record old.done { mark = mark i }; given = given i })

-- the frames that are left are enough for the pages that are left
pub enough_step : (test : ℕ → Bool) (first place count mark given left : ℕ) → place < count → mark ≡ first + place → count_pages test (first + place) (count - place) ≤ given →
    left ≡ given - cond (test mark) 1 0 → count_pages test (first + (place + 1)) (count - (place + 1)) ≤ left
enough_step test first place count mark given left low at enough is =
    let more : count_pages test (first + place) (count - place) ≡ cond (test (first + place)) 1 0 + count_pages test (first + (place + 1)) (count - (place + 1)) = count_step test first place count low in
    let here : cond {A = ℕ} (test mark) 1 0 ≡ cond (test (first + place)) 1 0 = ap (λ (m : ℕ). cond {A = ℕ} (test m) 1 0) at in
    omega arith

pub frame_left : (test : ℕ → Bool) (first place count mark given : ℕ) → place < count → mark ≡ first + place → count_pages test (first + place) (count - place) ≤ given →
    test mark ≡ true → 0 < given
frame_left test first place count mark given low at enough is =
    let more : count_pages test (first + place) (count - place) ≡ cond (test (first + place)) 1 0 + count_pages test (first + (place + 1)) (count - (place + 1)) = count_step test first place count low in
    let here : cond {A = ℕ} (test (first + place)) 1 0 ≡ 1 = ap (λ (b : Bool). cond {A = ℕ} b 1 0) (sym (ap test at) ∙ is) in
    omega arith

-- A call that has come to a place of its range.

pub record Underway (old change : Change) (first place count : ℕ) : Type 0 where
  pub start : old.done.mark ≡ first
  pub at : change ≡ further_using (count_pages (lent old.birth old.journal) first place) place old
  pub enough : count_pages (lent old.birth old.journal) (first + place) (count - place) ≤ change.given
  pub low : place < count

lent_at : (old change : Change) (used place : ℕ) → change ≡ further_using used place old → (p : ℕ) → lent change.birth change.journal p ≡ lent old.birth old.journal p
lent_at old change used place at p = λ i. lent (at i).birth (at i).journal p

mark_at : (old change : Change) (used place first : ℕ) → old.done.mark ≡ first → change ≡ further_using used place old → change.done.mark ≡ first + place
mark_at old change used place first start at = ap (λ (x : Change). x.done.mark) at ∙ ap (λ (m : ℕ). m + place) start

pub underway_frame : (old change : Change) (first place count : ℕ) → Underway old change first place count → lent change.birth change.journal change.done.mark ≡ true → 0 < change.given
underway_frame old change first place count u is =
    frame_left (lent old.birth old.journal) first place count change.done.mark change.given u.low (mark_at old change _ place first u.start u.at) u.enough
    (sym (lent_at old change _ place u.at change.done.mark) ∙ is)

pub underway_at : (old change new : Change) (first place count : ℕ) → Underway old change first place count → new ≡ next_using (lent change.birth change.journal change.done.mark) change →
    new ≡ further_using (count_pages (lent old.birth old.journal) first (place + 1)) (place + 1) old
underway_at old change new first place count u is =
    used_step old change new (lent old.birth old.journal) first place u.start u.at (is ∙ ap (λ b. next_using b change) (lent_at old change _ place u.at change.done.mark))

pub underway_enough : (old change new : Change) (first place count : ℕ) → Underway old change first place count → new ≡ next_using (lent change.birth change.journal change.done.mark) change →
    count_pages (lent old.birth old.journal) (first + (place + 1)) (count - (place + 1)) ≤ new.given
underway_enough old change new first place count u is =
    enough_step (lent old.birth old.journal) first place count change.done.mark change.given new.given u.low (mark_at old change _ place first u.start u.at) u.enough
    (ap (λ (x : Change). x.given) is ∙ ap (λ b. change.given - cond {A = ℕ} b 1 0) (lent_at old change _ place u.at change.done.mark))
