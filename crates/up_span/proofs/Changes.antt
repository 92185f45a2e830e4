-- A set after the pages of a range are added or taken out.
use Rattle.std.proofs.Common.{◌≡◌, ℕ, ◌+◌, ◌-◌, ◌^◌, ◌<◌, ◌≤◌, ◌&&◌, ◌||◌, ◌++◌, not, max, Bool, true, false, leb, ltb, Option, Some, None, List, [], ◌∷◌, take, drop, length, slice_get, zero, suc, refl, sym, ap, ◌∙◌, subst, ⊎_elim, arith}
use Rattle.std.proofs.lemmas.Bool.{cases_lt}
use Rattle.std.proofs.lemmas.Bool.Decides.{nat_tests}
use Rattle.up_span.specs.Pages.{within}
use Rattle.up_span.specs.Runs.{closed}
use Rattle.up_span.specs.Sets.{holds, Apart, AreSpans, end_of}
use Rattle.up_span.specs.Parts.{start_in, stop_in, before_place}
use Rattle.up_span.specs.declared.run.Run.{Run}
use Rattle.up_span.proofs.Apart.{none_before, apart_lower, holds_closed}
use Rattle.up_span.proofs.Places.{end_append, apart_join, end_grows, holds_append, none_after, split_get, take_get, drop_none, some_within, apart_take, apart_drop, end_split, holds_split, end_take, apart_at, run_fits}

-- where a range and the runs around it lie: `low` runs end before it, and those from `high` on begin after it; the runs between
-- and the range lie between `start` and `stop`
record Around (xs : List Run) (low high first end start stop gap : ℕ) : Type 0 where
  spans : AreSpans xs
  order : first ≤ end
  below : end < 2 ^ 32
  low_within : low ≤ length xs
  high_within : high ≤ length xs
  before : end_of 0 (take low xs) ≤ first + gap
  touches : (run : Run) → slice_get xs low ≡ Some run → first ≤ run.first + run.count
  begins : (run : Run) → before_place xs high ≡ Some run → run.first ≤ end
  after : Apart (end + 1 - gap) (drop high xs)
  starts : start ≡ start_in (slice_get xs low) first
  stops : stop ≡ stop_in (before_place xs high) end
  least : gap ≤ 1

start_early : (o : Option Run) (first start : ℕ) → start ≡ start_in o first → start ≤ first
start_early None first start is = omega arith
start_early (Some run) first start is = omega arith

stop_late : (o : Option Run) (end stop : ℕ) → stop ≡ stop_in o end → end ≤ stop
stop_late None end stop is = omega arith
stop_late (Some run) end stop is = omega arith

-- before the range, the pages of the runs that touch it or follow are those from the start on
left_by : (xs : List Run) (low first start q : ℕ) (o : Option Run) → slice_get xs low ≡ o → Apart 0 xs →
    ((run : Run) → slice_get xs low ≡ Some run → first ≤ run.first + run.count) → start ≡ start_in o first → q < first → holds (drop low xs) q ≡ leb start q
left_by xs low first start q None is a touches starts early =
    ap (λ ys. holds ys q) (drop_none xs low is) ∙ grind (arith, nat_tests)
left_by xs low first start q (Some run) is a touches starts early =
    let whole : Apart (end_of 0 (take low xs)) (run ∷ drop (low + 1) xs) = apart_at xs low run a is in
    let touch : first ≤ run.first + run.count = touches run is in
    let rest : holds (drop (low + 1) xs) q ≡ false = none_before (run.first + run.count + 1) (drop (low + 1) xs) q whole.1.1 (omega arith) in
    let here : (within run.first run.count q || false) ≡ leb start q = grind (arith, nat_tests) in
    ap (λ ys. holds ys q) (split_get xs low run is) ∙ rw rest here

left_pages : (xs : List Run) (low high first end start stop gap q : ℕ) → Around xs low high first end start stop gap → q < first → holds (drop low xs) q ≡ leb start q
left_pages xs low high first end start stop gap q r early = left_by xs low first start q (slice_get xs low) refl r.spans.0 r.touches r.starts early

-- behind the range, the pages of the runs that touch it or come before are those up to the stop
right_by : (xs : List Run) (k end stop q : ℕ) (run : Run) → slice_get xs k ≡ Some run → Apart 0 xs → run.first ≤ end → stop ≡ max (run.first + run.count) end → end ≤ q →
    holds (take (k + 1) xs) q ≡ ltb q stop
right_by xs k end stop q run is a begins stops late =
    let whole : Apart (end_of 0 (take k xs)) (run ∷ drop (k + 1) xs) = apart_at xs k run a is in
    let first : end_of 0 (take k xs) ≤ run.first = whole.0 in
    let front : holds (take k xs) q ≡ false = none_after 0 (take k xs) q (apart_take xs k a) (omega arith) in
    let here : (within run.first run.count q || false) ≡ ltb q stop = grind (arith, nat_tests) in
    ap (λ ys. holds ys q) (take_get xs k run is) ∙ holds_append (take k xs) (run ∷ []) q ∙ rw front here

right_pages : (xs : List Run) (high end stop q : ℕ) → Apart 0 xs → high ≤ length xs → ((run : Run) → before_place xs high ≡ Some run → run.first ≤ end) →
    stop ≡ stop_in (before_place xs high) end → end ≤ q → holds (take high xs) q ≡ ltb q stop
right_pages xs zero end stop q a within' begins stops late = grind (arith, nat_tests)
right_pages xs (suc k) end stop q a within' begins stops late =
    some_within xs k (holds (take (suc k) xs) q ≡ ltb q stop) (omega arith) (λ run is.
    let next : suc k ≡ k + 1 = omega arith in
    let is_stop : stop ≡ max (run.first + run.count) end = stops ∙ ap (λ (o : Option Run). stop_in o end) is in
    ap (λ n. holds (take n xs) q) next ∙ right_by xs k end stop q run is a (begins run is) is_stop late)

or_false : (a b : Bool) → (a || (b || false)) ≡ ((a || b) || false)
or_false true b = refl
or_false false b = refl

or_true : (a x : Bool) → (a || true) ≡ (x || true)
or_true true true = refl
or_true true false = refl
or_true false true = refl
or_true false false = refl

or_none : (x : Bool) → x ≡ (x || false)
or_none true = refl
or_none false = refl

and_true : (a b : Bool) → (a || (b || false)) ≡ ((a || b) && true)
and_true true b = refl
and_true false true = refl
and_true false false = refl

and_none : (x : Bool) → x ≡ (x && true)
and_none true = refl
and_none false = refl

and_false : (x : Bool) → false ≡ (x && false)
and_false true = refl
and_false false = refl

-- the three parts of a set around a range
record Parted (x a c : Bool) (first end start stop q : ℕ) : Type 0 where
  order : first ≤ end
  early : start ≤ first
  late : end ≤ stop
  front : q < first → x ≡ (a || leb start q)
  back : end ≤ q → x ≡ (ltb q stop || c)
  no_front : first ≤ q → a ≡ false
  no_back : q < end → c ≡ false

parted : (xs : List Run) (low high first end start stop gap q : ℕ) → Around xs low high first end start stop gap →
    Parted (holds xs q) (holds (take low xs) q) (holds (drop high xs) q) first end start stop q
parted xs low high first end start stop gap q r = record {
  order = r.order;
  early = start_early (slice_get xs low) first start r.starts;
  late = stop_late (before_place xs high) end stop r.stops;
  front = λ h. holds_split xs low q ∙ ap (λ b. holds (take low xs) q || b) (left_pages xs low high first end start stop gap q r h);
  back = λ h. holds_split xs high q ∙ ap (λ b. b || holds (drop high xs) q) (right_pages xs high end stop q r.spans.0 r.high_within r.begins r.stops h);
  no_front = λ h. let before : end_of 0 (take low xs) ≤ first + gap = r.before in let least : gap ≤ 1 = r.least in
      none_after 0 (take low xs) q (apart_take xs low r.spans.0) (omega arith);
  no_back = λ h. let least : gap ≤ 1 = r.least in none_before (end + 1 - gap) (drop high xs) q r.after (omega arith);
}

added_by : (x a c : Bool) (first count end start stop q : ℕ) → end ≡ first + count → Parted x a c first end start stop q →
    (a || (within start (stop - start) q || c)) ≡ (x || within first count q)
added_by x a c first count end start stop q is p =
    let order : first ≤ end = p.order in let early : start ≤ first = p.early in let late : end ≤ stop = p.late in
    ⊎_elim
    (λ h. let one : within start (stop - start) q ≡ leb start q = grind (arith, nat_tests) in
    let two : within first count q ≡ false = grind (arith, nat_tests) in
    let before_end : q < end = omega arith in
    rw (p.front h, p.no_back before_end, one, two) (or_false a (leb start q)))
    (λ g. ⊎_elim
    (λ h. let one : within start (stop - start) q ≡ true = grind (arith, nat_tests) in
    let two : within first count q ≡ true = grind (arith, nat_tests) in
    rw (one, two) (or_true a x))
    (λ h. let one : within start (stop - start) q ≡ ltb q stop = grind (arith, nat_tests) in
    let two : within first count q ≡ false = grind (arith, nat_tests) in
    rw (p.back h, p.no_front g, one, two) (or_none (ltb q stop || c)))
    (cases_lt q end))
    (cases_lt q first)

removed_by : (x a c : Bool) (first count end start stop q : ℕ) → end ≡ first + count → Parted x a c first end start stop q →
    (a || (within (first - (first - start)) (first - start) q || (within (stop - (stop - end)) (stop - end) q || c))) ≡ (x && not (within first count q))
removed_by x a c first count end start stop q is p =
    let order : first ≤ end = p.order in let early : start ≤ first = p.early in let late : end ≤ stop = p.late in
    ⊎_elim
    (λ h. let left : within (first - (first - start)) (first - start) q ≡ leb start q = grind (arith, nat_tests) in
    let right : within (stop - (stop - end)) (stop - end) q ≡ false = grind (arith, nat_tests) in
    let two : within first count q ≡ false = grind (arith, nat_tests) in
    let before_end : q < end = omega arith in
    rw (p.front h, p.no_back before_end, left, right, two) (and_true a (leb start q)))
    (λ g. let left : within (first - (first - start)) (first - start) q ≡ false = grind (arith, nat_tests) in
    ⊎_elim
    (λ h. let right : within (stop - (stop - end)) (stop - end) q ≡ false = grind (arith, nat_tests) in
    let two : within first count q ≡ true = grind (arith, nat_tests) in
    rw (p.no_front g, p.no_back h, left, right, two) (and_false x))
    (λ h. let right : within (stop - (stop - end)) (stop - end) q ≡ ltb q stop = grind (arith, nat_tests) in
    let two : within first count q ≡ false = grind (arith, nat_tests) in
    rw (p.back h, p.no_front g, left, right, two) (and_none (ltb q stop || c)))
    (cases_lt q end))
    (cases_lt q first)

-- runs that lie apart, with a run of c pages that ends before p in front of them, if it has any
closed_apart : (from p c : ℕ) (rs : List Run) → c ≤ p → (0 < c → from ≤ p - c) → (0 < c → Apart (p + 1) rs) → (c ≡ 0 → Apart from rs) → Apart from (closed p c ++ rs)
closed_apart from p zero rs few starts later none = none refl
closed_apart from p (suc c) rs few starts later none =
    let end : p + 1 ≡ p - suc c + suc c + 1 = omega arith in
    (starts (omega arith), (omega arith, subst (λ (n : ℕ). Apart n rs) end (later (omega arith))))

end_cap : (from other cap : ℕ) (rs : List Run) → from ≤ cap → end_of other rs ≤ cap → end_of from rs ≤ cap
end_cap from other cap [] h g = h
end_cap from other cap (r ∷ rs) h g = g

closed_cap : (from p c cap : ℕ) (rs : List Run) → c ≤ p → p + 1 ≤ cap → from ≤ cap → ((start : ℕ) → start ≤ cap → end_of start rs ≤ cap) → end_of from (closed p c ++ rs) ≤ cap
closed_cap from p zero cap rs few fits low rest = rest from low
closed_cap from p (suc c) cap rs few fits low rest = rest (p - suc c + suc c + 1) (omega arith)

start_low : (xs : List Run) (low first start : ℕ) (o : Option Run) → slice_get xs low ≡ o → Apart 0 xs → start ≡ start_in o first → start < first → end_of 0 (take low xs) ≤ start
start_low xs low first start None is a starts h = absurd (omega arith)
start_low xs low first start (Some run) is a starts h =
    let whole : Apart (end_of 0 (take low xs)) (run ∷ drop (low + 1) xs) = apart_at xs low run a is in
    let first' : end_of 0 (take low xs) ≤ run.first = whole.0 in
    omega arith

stop_high : (xs : List Run) (high end stop : ℕ) → Apart 0 xs → high ≤ length xs → stop ≡ stop_in (before_place xs high) end → end < stop → Apart (stop + 1) (drop high xs)
stop_high xs zero end stop a within' stops h = absurd (omega arith)
stop_high xs (suc k) end stop a within' stops h =
    some_within xs k (Apart (stop + 1) (drop (suc k) xs)) (omega arith) (λ run is.
    let is_stop : stop ≡ max (run.first + run.count) end = stops ∙ ap (λ (o : Option Run). stop_in o end) is in
    let next : k + 1 ≡ suc k = omega arith in
    let last : end_of 0 (take (k + 1) xs) ≡ stop + 1 = end_take xs k run is ∙ omega arith in
    subst (λ n. Apart (stop + 1) (drop n xs)) next (subst (λ n. Apart n (drop (k + 1) xs)) last (apart_drop xs (k + 1) a)))

stop_fits : (xs : List Run) (high end stop : ℕ) → AreSpans xs → high ≤ length xs → stop ≡ stop_in (before_place xs high) end → end < 2 ^ 32 → stop < 2 ^ 32
stop_fits xs zero end stop a within' stops h = omega arith
stop_fits xs (suc k) end stop a within' stops h =
    some_within xs k (stop < 2 ^ 32) (omega arith) (λ run is.
    let is_stop : stop ≡ max (run.first + run.count) end = stops ∙ ap (λ (o : Option Run). stop_in o end) is in
    let fits : run.first + run.count < 2 ^ 32 = run_fits xs k run a is in
    omega arith)

rest_cap : (xs : List Run) (high start : ℕ) → AreSpans xs → start ≤ 2 ^ 32 → end_of start (drop high xs) ≤ 2 ^ 32
rest_cap xs high start a h =
    let all : end_of (end_of 0 (take high xs)) (drop high xs) ≡ end_of 0 xs = end_split xs high in
    let cap : end_of 0 xs ≤ 2 ^ 32 = a.1 in
    end_cap start (end_of 0 (take high xs)) (2 ^ 32) (drop high xs) h (omega arith)

-- the list with the pages put in: between the runs before it and those after it
abbrev pub put_in : List Run → ℕ → ℕ → ℕ → ℕ → ℕ → ℕ → List Run
put_in xs low high from to from' to' = take low xs ++ (closed to (to - from) ++ (closed to' (to' - from') ++ drop high xs))

put_holds : (xs : List Run) (low high from to from' to' q : ℕ) →
    holds (put_in xs low high from to from' to') q ≡ (holds (take low xs) q || (within (to - (to - from)) (to - from) q
    || (within (to' - (to' - from')) (to' - from') q || holds (drop high xs) q)))
put_holds xs low high from to from' to' q =
    holds_append (take low xs) (closed to (to - from) ++ (closed to' (to' - from') ++ drop high xs)) q
    ∙ ap (λ b. holds (take low xs) q || b) (holds_closed to (to - from) (closed to' (to' - from') ++ drop high xs) q
    ∙ ap (λ b. within (to - (to - from)) (to - from) q || b) (holds_closed to' (to' - from') (drop high xs) q))

put_ends : (xs : List Run) (low high from to from' to' : ℕ) → AreSpans xs → low ≤ length xs → to < 2 ^ 32 → to' < 2 ^ 32 → end_of 0 (put_in xs low high from to from' to') ≤ 2 ^ 32
put_ends xs low high from to from' to' s within' fits fits' =
    let split : end_of (end_of 0 (take low xs)) (drop low xs) ≡ end_of 0 xs = end_split xs low in
    let grows : end_of 0 (take low xs) ≤ end_of (end_of 0 (take low xs)) (drop low xs) = end_grows _ (drop low xs) (apart_drop xs low s.0) in
    let cap : end_of 0 xs ≤ 2 ^ 32 = s.1 in
    let front : end_of 0 (take low xs) ≤ 2 ^ 32 = omega arith in
    let all : end_of 0 (put_in xs low high from to from' to') ≡ end_of (end_of 0 (take low xs)) (closed to (to - from) ++ (closed to' (to' - from') ++ drop high xs))
    = end_append 0 (take low xs) _ in
    let rest : end_of (end_of 0 (take low xs)) (closed to (to - from) ++ (closed to' (to' - from') ++ drop high xs)) ≤ 2 ^ 32
    = closed_cap (end_of 0 (take low xs)) to (to - from) (2 ^ 32) (closed to' (to' - from') ++ drop high xs) (omega arith) (omega arith) front
    (λ n h. closed_cap n to' (to' - from') (2 ^ 32) (drop high xs) (omega arith) (omega arith) h (λ m g. rest_cap xs high m s g)) in
    omega arith

-- the set with a range added
added : (xs : List Run) (low high first count end start stop : ℕ) → end ≡ first + count → 0 < count → Around xs low high first end start stop 0 → (ys : List Run) →
    ys ≡ put_in xs low high start stop end end → AreSpans ys × ((q : ℕ) → holds ys q ≡ (holds xs q || within first count q))
added xs low high first count end start stop is some r ys same =
    let early : start ≤ first = start_early (slice_get xs low) first start r.starts in
    let late : end ≤ stop = stop_late (before_place xs high) end stop r.stops in
    let order : first ≤ end = r.order in
    let before : end_of 0 (take low xs) ≤ first + 0 = r.before in
    let fits : stop < 2 ^ 32 = stop_fits xs high end stop r.spans r.high_within r.stops r.below in
    let none : end - end ≡ 0 = omega arith in
    let width : stop - (stop - start) ≡ start = omega arith in
    let least : end_of 0 (take low xs) ≤ start = ⊎_elim
    (λ h. start_low xs low first start (slice_get xs low) refl r.spans.0 r.starts h) (λ h. omega arith) (cases_lt start first) in
    let rest : Apart (stop + 1) (drop high xs) = ⊎_elim
    (λ h. stop_high xs high end stop r.spans.0 r.high_within r.stops h)
    (λ h. apart_lower (stop + 1) (end + 1 - 0) (drop high xs) (omega arith) r.after) (cases_lt end stop) in
    let list : put_in xs low high start stop end end ≡ take low xs ++ (closed stop (stop - start) ++ drop high xs)
    = ap (λ n. take low xs ++ (closed stop (stop - start) ++ (closed end n ++ drop high xs))) none in
    let apart : Apart 0 (take low xs ++ (closed stop (stop - start) ++ drop high xs)) = apart_join 0 (take low xs) (closed stop (stop - start) ++ drop high xs)
    (apart_take xs low r.spans.0) (closed_apart (end_of 0 (take low xs)) stop (stop - start) (drop high xs) (omega arith) (λ h. omega arith) (λ h. rest) (λ h. absurd (omega arith))) in
    subst (λ zs. AreSpans zs × ((q : ℕ) → holds zs q ≡ (holds xs q || within first count q))) (sym same) (
      (subst (λ zs. Apart 0 zs) (sym list) apart, put_ends xs low high start stop end end r.spans r.low_within fits r.below),
      λ q. let nothing : within (end - (end - end)) (end - end) q ≡ false = grind (arith, nat_tests) in
          put_holds xs low high start stop end end q
          ∙ rw (nothing, width) (added_by (holds xs q) (holds (take low xs) q) (holds (drop high xs) q) first count end start stop q is (parted xs low high first end start stop 0 q r)),
    )

-- the set with a range taken out
removed : (xs : List Run) (low high first count end start stop : ℕ) → end ≡ first + count → 0 < count → Around xs low high first end start stop 1 → (ys : List Run) →
    ys ≡ put_in xs low high start first end stop → AreSpans ys × ((q : ℕ) → holds ys q ≡ (holds xs q && not (within first count q)))
removed xs low high first count end start stop is some r ys same =
    let early : start ≤ first = start_early (slice_get xs low) first start r.starts in
    let late : end ≤ stop = stop_late (before_place xs high) end stop r.stops in
    let before : end_of 0 (take low xs) ≤ first + 1 = r.before in
    let below : end < 2 ^ 32 = r.below in
    let fits : stop < 2 ^ 32 = stop_fits xs high end stop r.spans r.high_within r.stops r.below in
    let right : (from : ℕ) → from ≤ end → Apart from (closed stop (stop - end) ++ drop high xs) = λ from h.
    closed_apart from stop (stop - end) (drop high xs) (omega arith) (λ g. omega arith)
    (λ g. stop_high xs high end stop r.spans.0 r.high_within r.stops (omega arith))
    (λ g. apart_lower from (end + 1 - 1) (drop high xs) (omega arith) r.after) in
    let apart : Apart 0 (put_in xs low high start first end stop) = apart_join 0 (take low xs) (closed first (first - start) ++ (closed stop (stop - end) ++ drop high xs))
    (apart_take xs low r.spans.0) (closed_apart (end_of 0 (take low xs)) first (first - start) (closed stop (stop - end) ++ drop high xs) (omega arith)
    (λ g. let least : end_of 0 (take low xs) ≤ start = start_low xs low first start (slice_get xs low) refl r.spans.0 r.starts (omega arith) in omega arith)
    (λ g. right (first + 1) (omega arith)) (λ g. right (end_of 0 (take low xs)) (omega arith))) in
    subst (λ zs. AreSpans zs × ((q : ℕ) → holds zs q ≡ (holds xs q && not (within first count q)))) (sym same) (
      (apart, put_ends xs low high start first end stop r.spans r.low_within (omega arith) fits),
      λ q. put_holds xs low high start first end stop q
          ∙ removed_by (holds xs q) (holds (take low xs) q) (holds (drop high xs) q) first count end start stop q is (parted xs low high first end start stop 1 q r),
    )

-- the same, from what the searches say
pub add_list : (xs ys : List Run) (low high first count start stop : ℕ) → AreSpans xs → 0 < count → first + count < 2 ^ 32 →
    low ≤ length xs → end_of 0 (take low xs) ≤ first → ((run : Run) → slice_get xs low ≡ Some run → first ≤ run.first + run.count) →
    high ≤ length xs → ((run : Run) → before_place xs high ≡ Some run → run.first ≤ first + count) → Apart (first + count + 1) (drop high xs) →
    start ≡ start_in (slice_get xs low) first → stop ≡ stop_in (before_place xs high) (first + count) →
    ys ≡ put_in xs low high start stop (first + count) (first + count) → AreSpans ys × ((q : ℕ) → holds ys q ≡ (holds xs q || within first count q))
add_list xs ys low high first count start stop spans some below low_within before touches high_within begins after starts stops same =
    added xs low high first count (first + count) start stop refl some (record {
      spans = spans;
      order = omega arith;
      below = below;
      low_within = low_within;
      high_within = high_within;
      before = omega arith;
      touches = touches;
      begins = begins;
      after = apart_lower (first + count + 1 - 0) (first + count + 1) (drop high xs) (omega arith) after;
      starts = starts;
      stops = stops;
      least = omega arith;
    }) ys same

pub remove_list : (xs ys : List Run) (low high first count start stop : ℕ) → AreSpans xs → 0 < count → first + count < 2 ^ 32 →
    low ≤ length xs → end_of 0 (take low xs) ≤ first + 1 → ((run : Run) → slice_get xs low ≡ Some run → first < run.first + run.count) →
    high ≤ length xs → ((run : Run) → before_place xs high ≡ Some run → run.first ≤ first + count - 1) → Apart (first + count - 1 + 1) (drop high xs) →
    start ≡ start_in (slice_get xs low) first → stop ≡ stop_in (before_place xs high) (first + count) →
    ys ≡ put_in xs low high start first (first + count) stop → AreSpans ys × ((q : ℕ) → holds ys q ≡ (holds xs q && not (within first count q)))
remove_list xs ys low high first count start stop spans some below low_within before touches high_within begins after starts stops same =
    removed xs low high first count (first + count) start stop refl some (record {
      spans = spans;
      order = omega arith;
      below = below;
      low_within = low_within;
      high_within = high_within;
      before = before;
      touches = λ run is. let h : first < run.first + run.count = touches run is in omega arith;
      begins = λ run is. let h : run.first ≤ first + count - 1 = begins run is in omega arith;
      after = apart_lower (first + count + 1 - 1) (first + count - 1 + 1) (drop high xs) (omega arith) after;
      starts = starts;
      stops = stops;
      least = omega arith;
    }) ys same

-- where a run ends behind a range, some run meets the range
pub some_met : (xs : List Run) (low high first end stop : ℕ) → low ≤ high → high ≤ length xs → end_of 0 (take low xs) ≤ first + 1 → first ≤ end →
    stop ≡ stop_in (before_place xs high) end → end < stop → low < high
some_met xs low zero first end stop order within' before range stops h = absurd (omega arith)
some_met xs low (suc k) first end stop order within' before range stops h = ⊎_elim
    (λ less. less)
    (λ over. some_within xs k (low < suc k) (omega arith) (λ run is.
    let is_stop : stop ≡ max (run.first + run.count) end = stops ∙ ap (λ (o : Option Run). stop_in o end) is in
    let same : k + 1 ≡ low = omega arith in
    let last : end_of 0 (take (k + 1) xs) ≡ run.first + run.count + 1 = end_take xs k run is in
    let ended : end_of 0 (take (k + 1) xs) ≤ first + 1 = subst (λ n. end_of 0 (take n xs) ≤ first + 1) (sym same) before in
    absurd (omega arith)))
    (cases_lt low (suc k))
