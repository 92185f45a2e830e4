-- One page more of the runs that a loop makes.
use Rattle.std.proofs.Common.{◌≡◌, ◌<◌, ◌≤◌, ℕ, ◌+◌, ◌-◌, Bool, true, false, cond, Option, Some, None, List, [], ◌∷◌, ◌++◌, map, length, zero, suc, refl, sym, ap, ◌∙◌, append_assoc, append-nil, length-append, arith}
use Rattle.std.proofs.lemmas.List.{map-append}
use Rattle.up_num.specs.declared.pages.DirtyRange.{DirtyRange}
use Rattle.up_span.specs.Runs.{kind_runs, closed_kind, same_kind_of_page}
use Rattle.up_pages.specs.Pages.{dirty_run}
use Rattle.up_pages.specs.Runs.{run_after, HasPages}
use Rattle.up_pages.specs.declared.runs.OpenRun.{OpenRun}

next_place : (first place : ℕ) → first + place + 1 ≡ first + (place + 1)
next_place first place = omega arith

left : (place count : ℕ) → count - place - 1 ≡ count - (place + 1)
left place count = omega arith

kinds_more : (kind : ℕ → Option Bool) (p : ℕ) (now : Option Bool) (c n : ℕ) → 0 < n →
    kind_runs kind p now c n ≡ cond (same_kind_of_page (kind p) now)
    (kind_runs kind (p + 1) now (c + 1) (n - 1)) (closed_kind p now c ++ kind_runs kind (p + 1) (kind p) 1 (n - 1))
kinds_more kind p now c zero h = absurd (omega arith)
kinds_more kind p now c (suc n) h =
    let less : n ≡ suc n - 1 = omega arith in
    ap (λ k. cond (same_kind_of_page (kind p) now) (kind_runs kind (p + 1) now (c + 1) k) (closed_kind p now c ++ kind_runs kind (p + 1) (kind p) 1 k)) less

-- the run after one page more, as two choices
abbrev pub after_kind : Bool → Option Bool → OpenRun → OpenRun
after_kind same new run = cond same (record { kind = run.kind; count = run.count + 1 }) (record { kind = new; count = 1 })

kinds_by : (kind : ℕ → Option Bool) (same : Bool) (new : Option Bool) (xs : List DirtyRange) (p : ℕ) (run : OpenRun) (n : ℕ) →
    xs ++ map dirty_run (cond same (kind_runs kind (p + 1) run.kind (run.count + 1) n) (closed_kind p run.kind run.count ++ kind_runs kind (p + 1) new 1 n))
    ≡ cond same xs (xs ++ map dirty_run (closed_kind p run.kind run.count))
    ++ map dirty_run (kind_runs kind (p + 1) (after_kind same new run).kind (after_kind same new run).count n)
kinds_by kind true new xs p run n = refl
kinds_by kind false new xs p run n =
    ap (λ ys. xs ++ ys) (map-append dirty_run (closed_kind p run.kind run.count) (kind_runs kind (p + 1) new 1 n))
    ∙ sym (append_assoc xs (map dirty_run (closed_kind p run.kind run.count)) (map dirty_run (kind_runs kind (p + 1) new 1 n)))

pub kinds_step : (kind : ℕ → Option Bool) (xs : List DirtyRange) (first place count : ℕ) (run : OpenRun) → place < count →
    xs ++ map dirty_run (kind_runs kind (first + place) run.kind run.count (count - place))
    ≡ cond (same_kind_of_page (kind (first + place)) run.kind) xs (xs ++ map dirty_run (closed_kind (first + place) run.kind run.count))
    ++ map dirty_run (kind_runs kind (first + (place + 1)) (run_after (kind (first + place)) run).kind (run_after (kind (first + place)) run).count (count - (place + 1)))
kinds_step kind xs first place count run h =
    let some : 0 < count - place = omega arith in
    ap (λ ys. xs ++ map dirty_run ys) (kinds_more kind (first + place) run.kind run.count (count - place) some)
    ∙ kinds_by kind (same_kind_of_page (kind (first + place)) run.kind) (kind (first + place)) xs (first + place) run (count - place - 1)
    ∙ ap (λ p. cond (same_kind_of_page (kind (first + place)) run.kind) xs (xs ++ map dirty_run (closed_kind (first + place) run.kind run.count))
    ++ map dirty_run (kind_runs kind p (run_after (kind (first + place)) run).kind (run_after (kind (first + place)) run).count (count - place - 1))) (next_place first place)
    ∙ ap (λ n. cond (same_kind_of_page (kind (first + place)) run.kind) xs (xs ++ map dirty_run (closed_kind (first + place) run.kind run.count))
    ++ map dirty_run (kind_runs kind (first + (place + 1)) (run_after (kind (first + place)) run).kind (run_after (kind (first + place)) run).count n)) (left place count)

-- the same for a list and a run that are known by equations
pub kinds_next : (kind : ℕ → Option Bool) (xs new : List DirtyRange) (total : List DirtyRange) (first place count : ℕ) (run next : OpenRun) (here : Option Bool) →
    place < count → here ≡ kind (first + place) → next ≡ run_after here run →
    new ≡ cond (same_kind_of_page here run.kind) xs (xs ++ map dirty_run (closed_kind (first + place) run.kind run.count)) →
    xs ++ map dirty_run (kind_runs kind (first + place) run.kind run.count (count - place)) ≡ total →
    new ++ map dirty_run (kind_runs kind (first + (place + 1)) next.kind next.count (count - (place + 1))) ≡ total
kinds_next kind xs new total first place count run next here h is_here is_next is_new whole =
    rw (is_new, is_next, is_here) (sym (kinds_step kind xs first place count run h) ∙ whole)

longer : (kind : Option Bool) (count : ℕ) → HasPages kind (count + 1)
longer None count = tt
longer (Some blank) count = omega arith

within_by : (same : Bool) (kind : Option Bool) (run : OpenRun) (place : ℕ) → run.count ≤ place → (after_kind same kind run).count ≤ place + 1
within_by true kind run place h = omega arith
within_by false kind run place h = omega arith

some_by : (same : Bool) (kind : Option Bool) (run : OpenRun) → HasPages (after_kind same kind run).kind (after_kind same kind run).count
some_by true kind run = longer run.kind run.count
some_by false kind run = longer kind 0

closed_few : (xs : List DirtyRange) (p : ℕ) (kind : Option Bool) (count place : ℕ) → HasPages kind count → length xs + count ≤ place →
    length (xs ++ map dirty_run (closed_kind p kind count)) ≤ place
closed_few xs p None count place has h = rw append-nil (omega arith)
closed_few xs p (Some blank) count place has h =
    rw (length-append xs (record { range = record { first = p - count; count = count }; zero = blank } ∷ [])) (omega arith)

few_by : (same : Bool) (kind : Option Bool) (xs : List DirtyRange) (p place : ℕ) (run : OpenRun) → HasPages run.kind run.count →
    length xs + run.count ≤ place → length (cond same xs (xs ++ map dirty_run (closed_kind p run.kind run.count))) + (after_kind same kind run).count ≤ place + 1
few_by true kind xs p place run has h = omega arith
few_by false kind xs p place run has h = let few : length (xs ++ map dirty_run (closed_kind p run.kind run.count)) ≤ place = closed_few xs p run.kind run.count place has h in omega arith

pub run_within : (kind : Option Bool) (run next : OpenRun) (place : ℕ) → next ≡ run_after kind run → run.count ≤ place → next.count ≤ place + 1
run_within kind run next place is_next h = rw is_next (within_by (same_kind_of_page kind run.kind) kind run place h)

pub run_some : (kind : Option Bool) (run next : OpenRun) → next ≡ run_after kind run → HasPages next.kind next.count
run_some kind run next is_next = rw is_next (some_by (same_kind_of_page kind run.kind) kind run)

pub run_few : (kind : Option Bool) (xs new : List DirtyRange) (p place : ℕ) (run next : OpenRun) → next ≡ run_after kind run →
    new ≡ cond (same_kind_of_page kind run.kind) xs (xs ++ map dirty_run (closed_kind p run.kind run.count)) → HasPages run.kind run.count →
    length xs + run.count ≤ place → length new + next.count ≤ place + 1
run_few kind xs new p place run next is_next is_new has h = rw (is_new, is_next) (few_by (same_kind_of_page kind run.kind) kind xs p place run has h)
