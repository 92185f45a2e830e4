-- The order of reclaiming: it is strict and total, and the order of a journal is the only list that rises in it and has these pages.
use Rattle.std.proofs.Common.{◌≡◌, ℕ, ◌<◌, ◌+◌, ◌==◌, ◌&&◌, ◌||◌, not, Bool, true, false, cond, Option, Some, None, is_some, List, [], ◌∷◌, zero, suc, nat_le, nat_lt, refl, ap, sym, ◌∙◌, subst, arith, inl, inr}
use Rattle.std.specs.List.{filter}
use Rattle.std.proofs.lemmas.Bool.{or_cases, or_parts}
use Rattle.std.proofs.lemmas.Bool.Decides.{nat_tests}
use Rattle.up_model.specs.Size.{size}
use Rattle.up_model.specs.Pages.{list_pages}
use Rattle.up_model.specs.Use.{last_use, cold_since, is_cold, age_class}
use Rattle.up_model.specs.Order.{loose, reclaimable, place, below_or, goes_before, put_in, put_in_order, order}
use Rattle.up_model.specs.Ordering.{lists, times, Rising, IsOrder}
use Rattle.up_model.specs.Legal.{Legal}
use Rattle.up_model.proofs.Bools.{and_left, and_right, and_false, nat_eq_true, nat_eq-same, and_implied}
use Rattle.up_model.proofs.Presence.{pages_within}
use Rattle.up_model.specs.declared.entry.Birth.{Birth}
use Rattle.up_model.specs.declared.entry.Entry.{Entry}

-- one number decides, and where it is equal what comes next
below_never : (m : ℕ) (next : Bool) → next ≡ false → below_or m m next ≡ false
below_never m true fails = absurd cc
below_never m false fails = grind (arith, nat_tests)

below_through : (l m n : ℕ) (a b c : Bool) → (a ≡ true → b ≡ true → c ≡ true) → below_or l m a ≡ true → below_or m n b ≡ true → below_or l n c ≡ true
below_through l m n true true true goes one other = grind (arith, nat_tests)
below_through l m n true true false goes one other = let wrong = goes refl refl in absurd cc
below_through l m n true false true goes one other = grind (arith, nat_tests)
below_through l m n true false false goes one other = grind (arith, nat_tests)
below_through l m n false true true goes one other = grind (arith, nat_tests)
below_through l m n false true false goes one other = grind (arith, nat_tests)
below_through l m n false false true goes one other = grind (arith, nat_tests)
below_through l m n false false false goes one other = grind (arith, nat_tests)

below_other : (m n : ℕ) (a b : Bool) → (a ≡ false → b ≡ true) → below_or m n a ≡ false → below_or n m b ≡ true
below_other m n true true turns fails = grind (arith, nat_tests)
below_other m n true false turns fails = grind (arith, nat_tests)
below_other m n false true turns fails = grind (arith, nat_tests)
below_other m n false false turns fails = let wrong = turns refl in absurd cc

pub by_number : IsOrder nat_lt
by_number = record {
  never = λ p. grind (arith, nat_tests);
  through = λ p q r one two. grind (arith, nat_tests);
  other = λ p q apart fails. grind (arith, nat_tests);
}

abbrev first_by : (ℕ → ℕ) → (ℕ → ℕ → Bool) → ℕ → ℕ → Bool
first_by key next p q = below_or (key p) (key q) (next p q)

first_by_order : (key : ℕ → ℕ) (next : ℕ → ℕ → Bool) → IsOrder next → IsOrder (first_by key next)
first_by_order key next is = record {
  never = λ p. below_never (key p) (next p p) (is.never p);
  through = λ p q r one two. below_through (key p) (key q) (key r) (next p q) (next q r) (next p r) (is.through p q r) one two;
  other = λ p q apart fails. below_other (key p) (key q) (next p q) (next q p) (is.other p q apart) fails;
}

-- cold pages first, then by cold place, last use and number
abbrev warmth : Option ℕ → ℕ
warmth (Some position) = 0
warmth None = 1

abbrev keys_order : Birth → List Entry → ℕ → ℕ → Bool
keys_order birth h =
    first_by (λ p. warmth (cold_since birth h p)) (first_by (λ p. place (cold_since birth h p)) (first_by (λ p. place (last_use birth h p)) nat_lt))

none_below : (next : Bool) → below_or 1 1 (below_or 0 0 next) ≡ next
none_below true = refl
none_below false = refl

goes_keys : (c d u v : Option ℕ) (p q : ℕ) →
    cond (is_some c) (not (is_some d) || below_or (place c) (place d) (below_or (place u) (place v) (nat_lt p q))) (not (is_some d) && below_or (place u) (place v) (nat_lt p q))
    ≡ below_or (warmth c) (warmth d) (below_or (place c) (place d) (below_or (place u) (place v) (nat_lt p q)))
goes_keys (Some m) (Some n) u v p q = refl
goes_keys (Some m) None u v p q = refl
goes_keys None (Some n) u v p q = refl
goes_keys None None u v p q = sym (none_below _)

goes_is : (birth : Birth) (h : List Entry) (p q : ℕ) → goes_before birth h p q ≡ keys_order birth h p q
goes_is birth h p q = goes_keys (cold_since birth h p) (cold_since birth h q) (last_use birth h p) (last_use birth h q) p q

keys_are_order : (birth : Birth) (h : List Entry) → IsOrder (keys_order birth h)
keys_are_order birth h =
    first_by_order (λ p. warmth (cold_since birth h p)) _
    (first_by_order (λ p. place (cold_since birth h p)) _ (first_by_order (λ p. place (last_use birth h p)) nat_lt by_number))

pub goes_order : (birth : Birth) (h : List Entry) → IsOrder (goes_before birth h)
goes_order birth h =
    let is = keys_are_order birth h in record {
      never = λ p. goes_is birth h p p ∙ is.never p;
      through = λ p q r one two. goes_is birth h p r ∙ is.through p q r (sym (goes_is birth h p q) ∙ one) (sym (goes_is birth h q r) ∙ two);
      other = λ p q apart fails. goes_is birth h q p ∙ is.other p q apart (sym (goes_is birth h p q) ∙ fails);
    }

-- a number put into a list
or_swap : (a b c : Bool) → (b || (a || c)) ≡ (a || (b || c))
or_swap true true c = refl
or_swap true false c = refl
or_swap false b c = refl

pub put_in_lists : (before : ℕ → ℕ → Bool) (p : ℕ) (qs : List ℕ) (r : ℕ) → lists (put_in before p qs) r ≡ ((p == r) || lists qs r)
put_in_lists before p [] r = refl
put_in_lists before p (q ∷ qs) r =
    elim (before p q) as (λ b. lists (cond b (p ∷ q ∷ qs) (q ∷ put_in before p qs)) r ≡ ((p == r) || ((q == r) || lists qs r))) [
      | true ↦ refl
      | false ↦ ap (λ (b : Bool). (q == r) || b) (put_in_lists before p qs r) ∙ or_swap (p == r) (q == r) (lists qs r)
    ]

pub put_in_order_lists : (before : ℕ → ℕ → Bool) (ps : List ℕ) (r : ℕ) → lists (put_in_order before ps) r ≡ lists ps r
put_in_order_lists before [] r = refl
put_in_order_lists before (p ∷ ps) r = put_in_lists before p (put_in_order before ps) r ∙ ap (λ (b : Bool). (p == r) || b) (put_in_order_lists before ps r)

differs : (p q : ℕ) (b : Bool) → ((q == p) || b) ≡ false → ((p == q) ≡ false) × (b ≡ false)
differs p q b is =
    let parts = or_parts (q == p) b is in
    let apart : (q == p) ≡ false = parts.0 in
    (grind (arith, nat_tests), parts.1)

-- before a list that rises, what goes before its first goes before all
before_all : (before : ℕ → ℕ → Bool) → IsOrder before → (p q : ℕ) (qs : List ℕ) → before p q ≡ true → ((r : ℕ) → lists qs r ≡ true → before q r ≡ true) →
    (r : ℕ) → ((q == r) || lists qs r) ≡ true → before p r ≡ true
before_all before is p q qs first rest r in_it = elim (or_cases (q == r) (lists qs r) in_it) [
  | inl same ↦ subst (λ (s : ℕ). before p s ≡ true) (nat_eq_true q r same) first
  | inr later ↦ is.through p q r first (rest r later)
]

pub put_in_rises : (before : ℕ → ℕ → Bool) → IsOrder before → (p : ℕ) (qs : List ℕ) → lists qs p ≡ false → Rising before qs → Rising before (put_in before p qs)
put_in_rises before is p [] new rising = ((λ r in_it. absurd cc), tt)
put_in_rises before is p (q ∷ qs) new rising =
    let apart = differs p q (lists qs p) new in
    elim (before p q) as (λ b. before p q ≡ b → Rising before (cond b (p ∷ q ∷ qs) (q ∷ put_in before p qs))) [
      | true ↦ λ goes. ((λ r in_it. before_all before is p q qs goes rising.0 r in_it), rising)
      | false ↦ λ fails. (
        (λ r in_it. elim (or_cases (p == r) (lists qs r) (sym (put_in_lists before p qs r) ∙ in_it)) [
          | inl same ↦ subst (λ (s : ℕ). before q s ≡ true) (nat_eq_true p r same) (is.other p q apart.0 fails)
          | inr later ↦ rising.0 r later
        ]),
        put_in_rises before is p qs apart.1 rising.1,
      )
    ] refl

-- a list whose numbers are all different
abbrev pub Distinct : List ℕ → Type 0
Distinct [] = Unit {0}
Distinct (p ∷ ps) = (lists ps p ≡ false) × Distinct ps

pub put_in_order_rises : (before : ℕ → ℕ → Bool) → IsOrder before → (ps : List ℕ) → Distinct ps → Rising before (put_in_order before ps)
put_in_order_rises before is [] apart = tt
put_in_order_rises before is (p ∷ ps) apart =
    put_in_rises before is p (put_in_order before ps) (put_in_order_lists before ps p ∙ apart.0) (put_in_order_rises before is ps apart.1)

-- the pages of a range that pass a test
listed_here : (p r n : ℕ) → (test : ℕ → Bool) → test p ≡ true → ((p == r) || ((nat_le (p + 1) r && nat_lt r (p + 1 + n)) && test r)) ≡ ((nat_le p r && nat_lt r (p + suc n)) && test r)
listed_here p r n test passing =
    elim (p == r) as (λ b. (p == r) ≡ b → (b || ((nat_le (p + 1) r && nat_lt r (p + 1 + n)) && test r)) ≡ ((nat_le p r && nat_lt r (p + suc n)) && test r)) [
      | true ↦ λ q. let same : p ≡ r = nat_eq_true p r q in
          let here : test r ≡ true = subst (λ (s : ℕ). test s ≡ true) same passing in
          let and_implied : (nat_le p r && nat_lt r (p + suc n)) ≡ true = grind (arith, nat_tests) in
          rw (here, and_implied) refl
      | false ↦ λ q. let same : (nat_le (p + 1) r && nat_lt r (p + 1 + n)) ≡ (nat_le p r && nat_lt r (p + suc n)) = grind (arith, nat_tests) in rw same refl
    ] refl

listed_not : (p r n : ℕ) → (test : ℕ → Bool) → test p ≡ false → ((nat_le (p + 1) r && nat_lt r (p + 1 + n)) && test r) ≡ ((nat_le p r && nat_lt r (p + suc n)) && test r)
listed_not p r n test failing =
    elim (p == r) as (λ b. (p == r) ≡ b → ((nat_le (p + 1) r && nat_lt r (p + 1 + n)) && test r) ≡ ((nat_le p r && nat_lt r (p + suc n)) && test r)) [
      | true ↦ λ q. let same : p ≡ r = nat_eq_true p r q in
          let here : test r ≡ false = subst (λ (s : ℕ). test s ≡ false) same failing in
          rw here (and_false (nat_le (p + 1) r && nat_lt r (p + 1 + n)) ∙ sym (and_false (nat_le p r && nat_lt r (p + suc n))))
      | false ↦ λ q. let same : (nat_le (p + 1) r && nat_lt r (p + 1 + n)) ≡ (nat_le p r && nat_lt r (p + suc n)) = grind (arith, nat_tests) in rw same refl
    ] refl

pub listed : (test : ℕ → Bool) (p n r : ℕ) → lists (list_pages test p n) r ≡ ((nat_le p r && nat_lt r (p + n)) && test r)
listed test p zero r =
    let none : (nat_le p r && nat_lt r (p + 0)) ≡ false = grind (arith, nat_tests) in rw none refl
listed test p (suc n) r =
    elim (test p) as (λ b. test p ≡ b → lists (cond b (p ∷ list_pages test (p + 1) n) (list_pages test (p + 1) n)) r ≡ ((nat_le p r && nat_lt r (p + suc n)) && test r)) [
      | true ↦ λ q. ap (λ (b : Bool). (p == r) || b) (listed test (p + 1) n r) ∙ listed_here p r n test q
      | false ↦ λ q. listed test (p + 1) n r ∙ listed_not p r n test q
    ] refl

pub listed_distinct : (test : ℕ → Bool) (p n : ℕ) → Distinct (list_pages test p n)
listed_distinct test p zero = tt
listed_distinct test p (suc n) =
    elim (test p) as (λ b. Distinct (cond b (p ∷ list_pages test (p + 1) n) (list_pages test (p + 1) n))) [
      | true ↦ (
        (let never : (nat_le (p + 1) p && nat_lt p (p + 1 + n)) ≡ false = grind (arith, nat_tests) in listed test (p + 1) n p ∙ rw never refl),
        listed_distinct test (p + 1) n,
      )
      | false ↦ listed_distinct test (p + 1) n
    ]

pub listed_rises : (test : ℕ → Bool) (p n : ℕ) → Rising nat_lt (list_pages test p n)
listed_rises test p zero = tt
listed_rises test p (suc n) =
    elim (test p) as (λ b. Rising nat_lt (cond b (p ∷ list_pages test (p + 1) n) (list_pages test (p + 1) n))) [
      | true ↦ (
        (λ r in_it. let within : (nat_le (p + 1) r && nat_lt r (p + 1 + n)) ≡ true = and_left _ _ (sym (listed test (p + 1) n r) ∙ in_it) in grind (arith, nat_tests)),
        listed_rises test (p + 1) n,
      )
      | false ↦ listed_rises test (p + 1) n
    ]

-- two lists that rise and have the same numbers are one
not_later : (before : ℕ → ℕ → Bool) → IsOrder before → (p : ℕ) (ps : List ℕ) → ((q : ℕ) → lists ps q ≡ true → before p q ≡ true) → lists ps p ≡ false
not_later before is p ps first =
    elim (lists ps p) as (λ b. lists ps p ≡ b → b ≡ false) [
      | true ↦ λ q. let wrong : true ≡ false = sym (first p q) ∙ is.never p in absurd cc
      | false ↦ λ q. refl
    ] refl

rest_same : (a b c : Bool) → (a ≡ true → (b ≡ false) × (c ≡ false)) → (a || b) ≡ (a || c) → b ≡ c
rest_same true b c own same = let both = own refl in both.0 ∙ sym both.1
rest_same false b c own same = same

heads_same : (before : ℕ → ℕ → Bool) → IsOrder before → (p q : ℕ) (ps qs : List ℕ) →
    ((r : ℕ) → lists ps r ≡ true → before p r ≡ true) → ((r : ℕ) → lists qs r ≡ true → before q r ≡ true) →
    ((r : ℕ) → ((p == r) || lists ps r) ≡ ((q == r) || lists qs r)) → p ≡ q
heads_same before is p q ps qs first other same =
    elim (p == q) as (λ b. (p == q) ≡ b → p ≡ q) [
      | true ↦ λ e. nat_eq_true p q e
      | false ↦ λ e.
          let turned : (q == p) ≡ false = grind (arith, nat_tests) in
          let p_later : lists qs p ≡ true = sym (sym (rw (nat_eq-same p) refl) ∙ same p ∙ rw turned refl) in
          let q_later : lists ps q ≡ true = sym (rw e refl) ∙ same q ∙ rw (nat_eq-same q) refl in
          let wrong : true ≡ false = sym (is.through p q p (first q q_later) (other p p_later)) ∙ is.never p in absurd cc
    ] refl

pub unique : (before : ℕ → ℕ → Bool) → IsOrder before → (ps qs : List ℕ) → Rising before ps → Rising before qs → ((r : ℕ) → lists ps r ≡ lists qs r) → ps ≡ qs
unique before is [] [] rp rq same = refl
unique before is [] (q ∷ qs) rp rq same = let wrong : false ≡ true = same q ∙ rw (nat_eq-same q) refl in absurd cc
unique before is (p ∷ ps) [] rp rq same = let wrong : true ≡ false = sym (rw (nat_eq-same p) refl) ∙ same p in absurd cc
unique before is (p ∷ ps) (q ∷ qs) rp rq same =
    let heads : p ≡ q = heads_same before is p q ps qs rp.0 rq.0 same in
    let own_p : lists ps p ≡ false = not_later before is p ps rp.0 in
    let own_q : lists qs p ≡ false = subst (λ (s : ℕ). lists qs s ≡ false) (sym heads) (not_later before is q qs rq.0) in
    let rests : (r : ℕ) → lists ps r ≡ lists qs r = λ r.
    let as_one : ((p == r) || lists ps r) ≡ ((p == r) || lists qs r) = subst (λ (s : ℕ). ((p == r) || lists ps r) ≡ ((s == r) || lists qs r)) (sym heads) (same r) in
    rest_same (p == r) (lists ps r) (lists qs r)
    (λ at. let here : p ≡ r = nat_eq_true p r at in
    (subst (λ (s : ℕ). lists ps s ≡ false) here own_p, subst (λ (s : ℕ). lists qs s ≡ false) here own_q)) as_one in
    let tails : ps ≡ qs = unique before is ps qs rp.1 rq.1 rests in
    rw (heads, tails) refl

-- a list without those that fail a test
kept_in : (p r : ℕ) (rest : Bool) (test : ℕ → Bool) → test p ≡ true → ((p == r) || (test r && rest)) ≡ (test r && ((p == r) || rest))
kept_in p r rest test q = elim (p == r) as (λ b. (p == r) ≡ b → (b || (test r && rest)) ≡ (test r && (b || rest))) [
  | true ↦ λ at. let here : test r ≡ true = subst (λ (s : ℕ). test s ≡ true) (nat_eq_true p r at) q in rw here refl
  | false ↦ λ at. refl
] refl

left_out : (p r : ℕ) (rest : Bool) (test : ℕ → Bool) → test p ≡ false → (test r && rest) ≡ (test r && ((p == r) || rest))
left_out p r rest test q = elim (p == r) as (λ b. (p == r) ≡ b → (test r && rest) ≡ (test r && (b || rest))) [
  | true ↦ λ at. let here : test r ≡ false = subst (λ (s : ℕ). test s ≡ false) (nat_eq_true p r at) q in rw here refl
  | false ↦ λ at. refl
] refl

pub filter_lists : (test : ℕ → Bool) (ps : List ℕ) (r : ℕ) → lists (filter test ps) r ≡ (test r && lists ps r)
filter_lists test [] r = sym (and_false (test r))
filter_lists test (p ∷ ps) r =
    elim (test p) as (λ b. test p ≡ b → lists (cond b (p ∷ filter test ps) (filter test ps)) r ≡ (test r && ((p == r) || lists ps r))) [
      | true ↦ λ q. ap (λ (b : Bool). (p == r) || b) (filter_lists test ps r) ∙ kept_in p r (lists ps r) test q
      | false ↦ λ q. filter_lists test ps r ∙ left_out p r (lists ps r) test q
    ] refl

pub filter_rises : (before : ℕ → ℕ → Bool) (test : ℕ → Bool) (ps : List ℕ) → Rising before ps → Rising before (filter test ps)
filter_rises before test [] rising = tt
filter_rises before test (p ∷ ps) rising =
    elim (test p) as (λ b. Rising before (cond b (p ∷ filter test ps) (filter test ps))) [
      | true ↦ (
        (λ r in_it. rising.0 r (and_right (test r) _ (sym (filter_lists test ps r) ∙ in_it))),
        filter_rises before test ps rising.1,
      )
      | false ↦ filter_rises before test ps rising.1
    ]

-- the order of a journal
pub order_rises : (birth : Birth) (h : List Entry) (newest limit : ℕ) → Rising (goes_before birth h) (order birth h newest limit)
order_rises birth h newest limit =
    put_in_order_rises (goes_before birth h) (goes_order birth h) (list_pages (reclaimable birth h newest limit) 0 (size birth h))
    (listed_distinct (reclaimable birth h newest limit) 0 (size birth h))

pub order_lists : (birth : Birth) (h : List Entry) (newest limit p : ℕ) →
    lists (order birth h newest limit) p ≡ (nat_lt p (size birth h) && reclaimable birth h newest limit p)
order_lists birth h newest limit p =
    let from_first : (nat_le 0 p && nat_lt p (0 + size birth h)) ≡ nat_lt p (size birth h) = grind (arith, nat_tests) in
    put_in_order_lists (goes_before birth h) (list_pages (reclaimable birth h newest limit) 0 (size birth h)) p
    ∙ listed (reclaimable birth h newest limit) 0 (size birth h) p ∙ ap (λ (b : Bool). b && reclaimable birth h newest limit p) from_first

-- the only list that rises and has these pages
pub is_order : (birth : Birth) (h : List Entry) (newest limit : ℕ) (ps : List ℕ) → Rising (goes_before birth h) ps →
    ((p : ℕ) → lists ps p ≡ (nat_lt p (size birth h) && reclaimable birth h newest limit p)) → ps ≡ order birth h newest limit
is_order birth h newest limit ps rising has =
    unique (goes_before birth h) (goes_order birth h) ps (order birth h newest limit) rising (order_rises birth h newest limit)
    (λ p. has p ∙ sym (order_lists birth h newest limit p))

limit_none : (here cold old none : Bool) → none ≡ true → (here && (cold || none)) ≡ here
limit_none true true old none is = refl
limit_none true false old none is = is
limit_none false cold old none is = refl

pub whole_loose : (birth : Birth) (h : List Entry) (newest p : ℕ) → reclaimable birth h newest 0 p ≡ loose birth h p
whole_loose birth h newest p = limit_none (loose birth h p) (is_cold birth h p) true (nat_le 0 (age_class birth h newest p)) (grind (arith, nat_tests))

part_of : (here cold old and_implied : Bool) → ((here && (cold || old)) && (and_implied && here)) ≡ (and_implied && (here && (cold || old)))
part_of true true old true = refl
part_of true true old false = refl
part_of true false true true = refl
part_of true false true false = refl
part_of true false false true = refl
part_of true false false false = refl
part_of false cold old true = refl
part_of false cold old false = refl

pub order_part : (birth : Birth) (h : List Entry) (newest limit : ℕ) → order birth h newest limit ≡ filter (reclaimable birth h newest limit) (order birth h newest 0)
order_part birth h newest limit =
    sym (is_order birth h newest limit (filter (reclaimable birth h newest limit) (order birth h newest 0))
    (filter_rises (goes_before birth h) (reclaimable birth h newest limit) (order birth h newest 0) (order_rises birth h newest 0))
    (λ p. filter_lists (reclaimable birth h newest limit) (order birth h newest 0) p
    ∙ ap (λ (b : Bool). reclaimable birth h newest limit p && b) (order_lists birth h newest 0 p ∙ ap (λ (b : Bool). nat_lt p (size birth h) && b) (whole_loose birth h newest p))
    ∙ part_of (loose birth h p) (is_cold birth h p) (nat_le limit (age_class birth h newest p)) (nat_lt p (size birth h))))

-- how often
pub rising_once : (before : ℕ → ℕ → Bool) → IsOrder before → (ps : List ℕ) → Rising before ps → (p : ℕ) → times ps p ≡ cond (lists ps p) 1 0
rising_once before is [] rising p = refl
rising_once before is (q ∷ qs) rising p =
    elim (q == p) as (λ b. (q == p) ≡ b → cond b (suc (times qs p)) (times qs p) ≡ cond (b || lists qs p) 1 0) [
      | true ↦ λ at. let here : q ≡ p = nat_eq_true q p at in
          let gone : lists qs p ≡ false = subst (λ (s : ℕ). lists qs s ≡ false) here (not_later before is q qs rising.0) in
          ap suc (rising_once before is qs rising.1 p ∙ rw gone refl)
      | false ↦ λ at. rising_once before is qs rising.1 p
    ] refl

pub order_once : (birth : Birth) (h : List Entry) → Legal birth h → (newest limit p : ℕ) →
    times (order birth h newest limit) p ≡ cond (reclaimable birth h newest limit p) 1 0
order_once birth h legal newest limit p =
    let has : lists (order birth h newest limit) p ≡ reclaimable birth h newest limit p =
    order_lists birth h newest limit p ∙ and_implied (nat_lt p (size birth h)) (reclaimable birth h newest limit p)
    (λ may. let low : p < size birth h = pages_within birth h legal p (and_left _ _ (and_left (loose birth h p) _ may)) in grind (arith, nat_tests)) in
    rising_once (goes_before birth h) (goes_order birth h) (order birth h newest limit) (order_rises birth h newest limit) p ∙ ap (λ (b : Bool). cond b 1 0) has
