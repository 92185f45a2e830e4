-- Runs that lie apart, at a place of their list: what stands before it and what from it on.
use Rattle.std.proofs.Common.{◌≡◌, ℕ, ◌+◌, ◌^◌, ◌<◌, ◌≤◌, ◌||◌, ◌++◌, Bool, true, false, leb, get_or, Some, None, List, [], ◌∷◌, take, drop, length, slice_get, zero, suc, refl, sym, ap, ◌∙◌, subst, ⊎_elim, arith}
use Rattle.std.proofs.lemmas.Bool.{cases_lt}
use Rattle.std.proofs.lemmas.Bool.Decides.{nat_tests}
use Rattle.std.proofs.lemmas.List.{take-append-drop, take-take, take_all, take_more, drop_more}
use Rattle.std.proofs.lemmas.Option.{none-some, slice_get_within, slice_get-get_or, get_or_from_slice_get}
use Rattle.up_span.specs.Pages.{within}
use Rattle.up_span.specs.Sets.{holds, Apart, AreSpans, end_of, IsFirstRun}
use Rattle.up_span.specs.declared.run.Run.{Run}
use Rattle.up_span.proofs.Apart.{none_before}

pub end_append : (from : ℕ) (xs ys : List Run) → end_of from (xs ++ ys) ≡ end_of (end_of from xs) ys
end_append from [] ys = refl
end_append from (x ∷ xs) ys = end_append (x.first + x.count + 1) xs ys

pub apart_before : (from : ℕ) (xs ys : List Run) → Apart from (xs ++ ys) → Apart from xs
apart_before from [] ys a = tt
apart_before from (x ∷ xs) ys a = (a.0, (a.1.0, apart_before (x.first + x.count + 1) xs ys a.1.1))

pub apart_after : (from : ℕ) (xs ys : List Run) → Apart from (xs ++ ys) → Apart (end_of from xs) ys
apart_after from [] ys a = a
apart_after from (x ∷ xs) ys a = apart_after (x.first + x.count + 1) xs ys a.1.1

pub apart_join : (from : ℕ) (xs ys : List Run) → Apart from xs → Apart (end_of from xs) ys → Apart from (xs ++ ys)
apart_join from [] ys a b = b
apart_join from (x ∷ xs) ys a b = (a.0, (a.1.0, apart_join (x.first + x.count + 1) xs ys a.1.1 b))

pub end_grows : (from : ℕ) (xs : List Run) → Apart from xs → from ≤ end_of from xs
end_grows from [] a = omega arith
end_grows from (x ∷ xs) a =
    let first : from ≤ x.first = a.0 in
    let later : x.first + x.count + 1 ≤ end_of (x.first + x.count + 1) xs = end_grows (x.first + x.count + 1) xs a.1.1 in
    omega arith

or_assoc : (a b c : Bool) → ((a || b) || c) ≡ (a || (b || c))
or_assoc true b c = refl
or_assoc false b c = refl

pub holds_append : (xs ys : List Run) (q : ℕ) → holds (xs ++ ys) q ≡ (holds xs q || holds ys q)
holds_append [] ys q = refl
holds_append (x ∷ xs) ys q = ap (λ b. within x.first x.count q || b) (holds_append xs ys q) ∙ sym (or_assoc (within x.first x.count q) (holds xs q) (holds ys q))

-- no page from the end of the runs on is in one of them
pub none_after : (from : ℕ) (xs : List Run) (q : ℕ) → Apart from xs → end_of from xs ≤ q + 1 → holds xs q ≡ false
none_after from [] q a h = refl
none_after from (x ∷ xs) q a h =
    let later : x.first + x.count + 1 ≤ end_of (x.first + x.count + 1) xs = end_grows (x.first + x.count + 1) xs a.1.1 in
    let past : within x.first x.count q ≡ false = grind (arith, nat_tests) in
    let rest : holds xs q ≡ false = none_after (x.first + x.count + 1) xs q a.1.1 h in
    rw (past, rest) refl

-- a list at a place where it has a run
pub split_get : (xs : List Run) (k : ℕ) (run : Run) → slice_get xs k ≡ Some run → drop k xs ≡ run ∷ drop (k + 1) xs
split_get xs k run h = drop_more xs k run (slice_get_within xs k run h) ∙ ap (λ (r : Run). r ∷ drop (k + 1) xs) (get_or_from_slice_get xs k run run h)

pub take_get : (xs : List Run) (k : ℕ) (run : Run) → slice_get xs k ≡ Some run → take (k + 1) xs ≡ take k xs ++ run ∷ []
take_get xs k run h = take_more xs k run (slice_get_within xs k run h) ∙ ap (λ (r : Run). take k xs ++ r ∷ []) (get_or_from_slice_get xs k run run h)

pub drop_none : (xs : List Run) (k : ℕ) → slice_get xs k ≡ None → drop k xs ≡ []
drop_none [] zero h = refl
drop_none [] (suc k) h = refl
drop_none (x ∷ xs) zero h = absurd (none-some x (sym h))
drop_none (x ∷ xs) (suc k) h = drop_none xs k h

pub some_within : (xs : List Run) (k : ℕ) (P : Type 0) → k < length xs → ((run : Run) → slice_get xs k ≡ Some run → P) → P
some_within xs k P h then = then (get_or xs k (record { first = 0; count = 0 })) (slice_get-get_or xs k (record { first = 0; count = 0 }) h)

pub apart_take : (xs : List Run) (k : ℕ) → Apart 0 xs → Apart 0 (take k xs)
apart_take xs k a = apart_before 0 (take k xs) (drop k xs) (subst (λ ys. Apart 0 ys) (sym (take-append-drop k xs)) a)

pub apart_drop : (xs : List Run) (k : ℕ) → Apart 0 xs → Apart (end_of 0 (take k xs)) (drop k xs)
apart_drop xs k a = apart_after 0 (take k xs) (drop k xs) (subst (λ ys. Apart 0 ys) (sym (take-append-drop k xs)) a)

pub end_split : (xs : List Run) (k : ℕ) → end_of (end_of 0 (take k xs)) (drop k xs) ≡ end_of 0 xs
end_split xs k = sym (end_append 0 (take k xs) (drop k xs)) ∙ ap (λ ys. end_of 0 ys) (take-append-drop k xs)

pub holds_split : (xs : List Run) (k q : ℕ) → holds xs q ≡ (holds (take k xs) q || holds (drop k xs) q)
holds_split xs k q = sym (ap (λ ys. holds ys q) (take-append-drop k xs)) ∙ holds_append (take k xs) (drop k xs) q

pub end_take : (xs : List Run) (k : ℕ) (run : Run) → slice_get xs k ≡ Some run → end_of 0 (take (k + 1) xs) ≡ run.first + run.count + 1
end_take xs k run h = ap (λ ys. end_of 0 ys) (take_get xs k run h) ∙ end_append 0 (take k xs) (run ∷ [])

-- the run at a place and those behind it
pub apart_at : (xs : List Run) (k : ℕ) (run : Run) → Apart 0 xs → slice_get xs k ≡ Some run → Apart (end_of 0 (take k xs)) (run ∷ drop (k + 1) xs)
apart_at xs k run a h = subst (λ ys. Apart (end_of 0 (take k xs)) ys) (split_get xs k run h) (apart_drop xs k a)

pub run_fits : (xs : List Run) (k : ℕ) (run : Run) → AreSpans xs → slice_get xs k ≡ Some run → run.first + run.count < 2 ^ 32
run_fits xs k run s h =
    let last : end_of 0 (take (k + 1) xs) ≤ end_of (end_of 0 (take (k + 1) xs)) (drop (k + 1) xs) = end_grows _ (drop (k + 1) xs) (apart_drop xs (k + 1) s.0) in
    let all : end_of (end_of 0 (take (k + 1) xs)) (drop (k + 1) xs) ≡ end_of 0 xs = end_split xs (k + 1) in
    let here : end_of 0 (take (k + 1) xs) ≡ run.first + run.count + 1 = end_take xs k run h in
    let cap : end_of 0 xs ≤ 2 ^ 32 = s.1 in
    omega arith

-- a run that begins behind a page, and those behind it
pub later_from : (xs : List Run) (k page : ℕ) (run : Run) → Apart 0 xs → slice_get xs k ≡ Some run → page < run.first → Apart (page + 1) (drop k xs)
later_from xs k page run a h later =
    let whole : Apart (end_of 0 (take k xs)) (run ∷ drop (k + 1) xs) = apart_at xs k run a h in
    subst (λ ys. Apart (page + 1) ys) (sym (split_get xs k run h)) (omega arith, whole.1)

-- the places of the runs that end by a page and of those that begin by a later one
pub in_order : (xs : List Run) (low high first last : ℕ) → Apart 0 xs → low ≤ length xs → end_of 0 (take low xs) ≤ first + 1 → Apart (last + 1) (drop high xs) →
    first ≤ last → low ≤ high
in_order xs low high first last a within' ended later order = ⊎_elim
    (λ h. some_within xs high (low ≤ high) (omega arith) (λ run is.
    let head : Apart (last + 1) (run ∷ drop (high + 1) xs) = subst (λ ys. Apart (last + 1) ys) (split_get xs high run is) later in
    let begins : last + 1 ≤ run.first = head.0 in
    let here : end_of 0 (take (high + 1) xs) ≡ run.first + run.count + 1 = end_take xs high run is in
    let part : take (high + 1) (take low xs) ≡ take (high + 1) xs = take-take (high + 1) low xs (omega arith) in
    let grows : end_of 0 (take (high + 1) (take low xs)) ≤ end_of (end_of 0 (take (high + 1) (take low xs))) (drop (high + 1) (take low xs))
    = end_grows _ (drop (high + 1) (take low xs)) (apart_drop (take low xs) (high + 1) (apart_take xs low a)) in
    let all : end_of (end_of 0 (take (high + 1) (take low xs))) (drop (high + 1) (take low xs)) ≡ end_of 0 (take low xs) = end_split (take low xs) (high + 1) in
    let same : end_of 0 (take (high + 1) (take low xs)) ≡ end_of 0 (take (high + 1) xs) = ap (λ ys. end_of 0 ys) part in
    omega arith))
    (λ h. h)
    (cases_lt high low)

-- what a set holds, by the place of the runs that end by the page
pub held_at : (xs : List Run) (k q : ℕ) (run : Run) → Apart 0 xs → end_of 0 (take k xs) ≤ q + 1 → slice_get xs k ≡ Some run → q < run.first + run.count →
    holds xs q ≡ leb run.first q
held_at xs k q run a before h later =
    let whole : Apart (end_of 0 (take k xs)) (run ∷ drop (k + 1) xs) = apart_at xs k run a h in
    let front : holds (take k xs) q ≡ false = none_after 0 (take k xs) q (apart_take xs k a) before in
    let rest : holds (drop (k + 1) xs) q ≡ false = none_before (run.first + run.count + 1) (drop (k + 1) xs) q whole.1.1 (omega arith) in
    let here : within run.first run.count q ≡ leb run.first q = grind (arith, nat_tests) in
    holds_split xs k q ∙ ap (λ ys. holds (take k xs) q || holds ys q) (split_get xs k run h) ∙ rw (front, rest, here) (or_none (leb run.first q))
  where
    or_none : (b : Bool) → (b || false) ≡ b
    or_none true = refl
    or_none false = refl

pub held_none : (xs : List Run) (k q : ℕ) → Apart 0 xs → end_of 0 (take k xs) ≤ q + 1 → length xs ≤ k → holds xs q ≡ false
held_none xs k q a before h =
    let all : take k xs ≡ xs = take_all k xs h in
    none_after 0 xs q a (subst (λ ys. end_of 0 ys ≤ q + 1) all before)

pub first_is_least : (xs : List Run) (run : Run) → Apart 0 xs → slice_get xs 0 ≡ Some run → IsFirstRun (holds xs) run
first_is_least xs run a h =
    let whole : Apart 0 (run ∷ drop 1 xs) = apart_at xs 0 run a h in
    let list : xs ≡ run ∷ drop 1 xs = split_get xs 0 run h in
    subst (λ ys. IsFirstRun (holds ys) run) (sym list) (
      whole.1.0,
      (
        λ q early. none_before run.first (run ∷ drop 1 xs) q (omega arith, whole.1) early,
        (
          λ q inside. rw inside refl,
          (let past : within run.first run.count (run.first + run.count) ≡ false = grind (arith, nat_tests) in
              let rest : holds (drop 1 xs) (run.first + run.count) ≡ false = none_before (run.first + run.count + 1) (drop 1 xs) (run.first + run.count) whole.1.1 (omega arith) in
              rw (past, rest) refl),
        ),
      ),
    )
