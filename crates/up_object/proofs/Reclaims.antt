-- The queue as it is kept is the order of reclaiming.
use Rattle.std.proofs.Common.{◌≡◌, ℕ, ◌<◌, ◌==◌, ◌&&◌, ◌||◌, not, Bool, true, false, cond, Option, Some, None, is_some, List, [], ◌∷◌, zero, suc, length, map, take, filter, refl, ap, sym, ◌∙◌, subst, arith, nat_lt}
use Rattle.std.specs.Prelude.{IsTrue}
use Rattle.std.proofs.lemmas.Bool.Decides.{nat_tests}
use Rattle.std.proofs.lemmas.List.{length-map}
use Rattle.up_span.specs.Pages.{count_pages, list_pages}
use Rattle.up_span.proofs.Ranges.{counts_listed}
use Rattle.up_num.specs.Pages.{page_number}
use Rattle.up_num.specs.declared.pages.PageNo.{PageNo}
use Rattle.up_queues.specs.declared.queued.Queued.{Queued}
use Rattle.up_queues.specs.Queue.{find_page, colder, precedes, Each, InOrder, is_due, below_or as queue_below}
use Rattle.up_queues.proofs.OrderedItems.{precedes_on, same}
use Rattle.up_model.specs.Size.{size}
use Rattle.up_model.specs.Use.{last_use, cold_since, newest_epoch}
use Rattle.up_model.specs.Order.{loose, reclaimable, place, below_or, goes_before, put_in, put_in_order, order}
use Rattle.up_model.specs.Ordering.{lists, Rising}
use Rattle.up_model.specs.Legal.{Legal}
use Rattle.up_model.specs.declared.entry.Birth.{Birth}
use Rattle.up_model.specs.declared.entry.Entry.{Entry}
use Rattle.up_model.proofs.Bools.{nat_eq_true, nat_eq-same}
use Rattle.up_model.proofs.Ordered.{goes_order, order_rises, order_lists, order_part, whole_loose}
use Rattle.up_model.proofs.Presence.{pages_within}
use Rattle.up_model.proofs.Reclaiming.{loose_page}
use Rattle.up_object.specs.Stands.{position_of, queued}
use Rattle.up_object.specs.Ordering.{QueueKept, QueueIsOrder, QueueOfObject}
use Rattle.up_object.proofs.UsedPages.{loose_used}

-- Of two pages that were used, the one whose item goes first goes before the other.

place_same : (m n : ℕ) (next : Bool) → queue_below m n next ≡ below_or (suc m) (suc n) next
place_same m n true = grind (arith, nat_tests)
place_same m n false = grind (arith, nat_tests)

goes_by : (c d u v : Option ℕ) (p q : ℕ) → is_some u ≡ true → is_some v ≡ true →
    colder c d (queue_below (position_of u) (position_of v) (nat_lt p q))
    ≡ cond (is_some c) (not (is_some d) || below_or (place c) (place d) (below_or (place u) (place v) (nat_lt p q))) (not (is_some d) && below_or (place u) (place v) (nat_lt p q))
goes_by c d None v p q one other = absurd cc
goes_by c d (Some m) None p q one other = absurd cc
goes_by (Some k) (Some l) (Some m) (Some n) p q one other = ap (queue_below k l) (place_same m n (nat_lt p q)) ∙ place_same k l (below_or (suc m) (suc n) (nat_lt p q))
goes_by (Some k) None (Some m) (Some n) p q one other = refl
goes_by None (Some l) (Some m) (Some n) p q one other = refl
goes_by None None (Some m) (Some n) p q one other = place_same m n (nat_lt p q)

apart : (birth : Birth) (h : List Entry) (p q : ℕ) → goes_before birth h p q ≡ true → (p == q) ≡ false
apart birth h p q goes = elim (p == q) as (λ b. (p == q) ≡ b → b ≡ false) [
  | true ↦ λ is. let wrong : true ≡ false = sym goes ∙ subst (λ (r : ℕ). goes_before birth h p r ≡ false) (nat_eq_true p q is) ((goes_order birth h).never p) in absurd cc
  | false ↦ λ is. refl
] refl

precedes_at : (birth : Birth) (h : List Entry) (p q : ℕ) → is_some (last_use birth h p) ≡ true → is_some (last_use birth h q) ≡ true → goes_before birth h p q ≡ true →
    precedes (queued birth h p) (queued birth h q) ≡ true
precedes_at birth h p q one other goes =
    precedes_on (queued birth h p) (queued birth h q) (goes_by (cold_since birth h p) (cold_since birth h q) (last_use birth h p) (last_use birth h q) p q one other ∙ goes) (apart birth h p q goes)

-- Lists of items that are made of pages.

or_true : (a b : Bool) → b ≡ true → (a || b) ≡ true
or_true true b is = refl
or_true false b is = is

heads : (p : ℕ) (ps : List ℕ) → lists (p ∷ ps) p ≡ true
heads p ps = rw (nat_eq-same p) refl

each_mapped : (P : Queued → Type 0) (f : ℕ → Queued) (ps : List ℕ) → ((q : ℕ) → lists ps q ≡ true → P (f q)) → Each P (map f ps)
each_mapped P f [] all = tt
each_mapped P f (p ∷ ps) all = (all p (heads p ps), each_mapped P f ps (λ q later. all q (or_true (p == q) (lists ps q) later)))

mapped_in_order : (birth : Birth) (h : List Entry) (ps : List ℕ) → Rising (goes_before birth h) ps → ((q : ℕ) → lists ps q ≡ true → is_some (last_use birth h q) ≡ true) → InOrder (map (queued birth h) ps)
mapped_in_order birth h [] rising used = tt
mapped_in_order birth h (p ∷ ps) rising used = (
  each_mapped (λ later. IsTrue (precedes (queued birth h p) later)) (queued birth h) ps
      (λ q later. precedes_at birth h p q (used p (heads p ps)) (used q (or_true (p == q) (lists ps q) later)) (rising.0 q later)),
  mapped_in_order birth h ps rising.1 (λ q later. used q (or_true (p == q) (lists ps q) later)),
)

find_mapped : (birth : Birth) (h : List Entry) (ps : List ℕ) (p : ℕ) → find_page (map (queued birth h) ps) p ≡ cond (lists ps p) (Some (queued birth h p)) None
find_mapped birth h [] p = refl
find_mapped birth h (q ∷ ps) p =
    elim (q == p) as (λ b. (q == p) ≡ b → cond b (Some (queued birth h q)) (find_page (map (queued birth h) ps) p) ≡ cond (b || lists ps p) (Some (queued birth h p)) None) [
      | true ↦ λ is. ap (λ (n : ℕ). Some (queued birth h n)) (nat_eq_true q p is)
      | false ↦ λ is. find_mapped birth h ps p
    ] refl

-- The order of the whole journal has the loose pages.

within_size : (in_size may : Bool) → (may ≡ true → in_size ≡ true) → (in_size && may) ≡ may
within_size true may is = refl
within_size false true is = is refl
within_size false false is = refl

pub order_has : (birth : Birth) (h : List Entry) → Legal birth h → (newest p : ℕ) → lists (order birth h newest 0) p ≡ loose birth h p
order_has birth h legal newest p =
    order_lists birth h newest 0 p ∙ ap (λ b. nat_lt p (size birth h) && b) (whole_loose birth h newest p)
    ∙ within_size (nat_lt p (size birth h)) (loose birth h p) (λ may. let low : p < size birth h = pages_within birth h legal p (loose_page birth h p may).here in grind (arith, nat_tests))

order_kept : (birth : Birth) (h : List Entry) → Legal birth h → (newest : ℕ) → QueueKept (map (queued birth h) (order birth h newest 0)) birth h
order_kept birth h legal newest = record {
  ordered = mapped_in_order birth h (order birth h newest 0) (order_rises birth h newest 0) (λ q in_it. loose_used birth h q (sym (order_has birth h legal newest q) ∙ in_it));
  pages = λ p. find_mapped birth h (order birth h newest 0) p ∙ ap (λ b. cond b (Some (queued birth h p)) None) (order_has birth h legal newest p);
}

kept_is : (birth : Birth) (h : List Entry) → Legal birth h → (newest : ℕ) (items : List Queued) → QueueKept items birth h → items ≡ map (queued birth h) (order birth h newest 0)
kept_is birth h legal newest items kept =
    let whole = order_kept birth h legal newest in same items (map (queued birth h) (order birth h newest 0)) kept.ordered whole.ordered (λ p. kept.pages p ∙ sym (whole.pages p))

pub queue_is_order : QueueIsOrder
queue_is_order birth h legal items = (
  (λ kept. kept_is birth h legal (newest_epoch h) items kept),
  (λ is. subst (λ (xs : List Queued). QueueKept xs birth h) (sym is) (order_kept birth h legal (newest_epoch h))),
)

pub object_is_order : QueueOfObject
object_is_order o s ordered = (queue_is_order o.birth o.log.entries s.legal o.queues.items).0 (record { ordered = ordered; pages = s.queued })

-- The pages that are due are those of the order at a limit.

filter_mapped : (test : Queued → Bool) (other : ℕ → Bool) (f : ℕ → Queued) (ps : List ℕ) → ((q : ℕ) → lists ps q ≡ true → test (f q) ≡ other q) → filter test (map f ps) ≡ map f (filter other ps)
filter_mapped test other f [] agree = refl
filter_mapped test other f (p ∷ ps) agree =
    let rest = filter_mapped test other f ps (λ q later. agree q (or_true (p == q) (lists ps q) later)) in
    elim (other p) as (λ b. test (f p) ≡ b → cond (test (f p)) (f p ∷ filter test (map f ps)) (filter test (map f ps)) ≡ map f (cond b (p ∷ filter other ps) (filter other ps))) [
      | true ↦ λ is. rw is (ap (λ (xs : List Queued). f p ∷ xs) rest)
      | false ↦ λ is. rw is rest
    ] (agree p (heads p ps))

take_mapped : (birth : Birth) (h : List Entry) (n : ℕ) (ps : List ℕ) → map (λ (item : Queued). item.page) (take n (map (queued birth h) ps)) ≡ map page_number (take n ps)
take_mapped birth h zero ps = refl
take_mapped birth h (suc n) [] = refl
take_mapped birth h (suc n) (p ∷ ps) = ap (λ (xs : List PageNo). page_number p ∷ xs) (take_mapped birth h n ps)

may_now : (may other : Bool) → may ≡ true → other ≡ (may && other)
may_now true other is = refl
may_now false other is = absurd cc

pub due_is_order : (birth : Birth) (h : List Entry) → Legal birth h → (newest limit most : ℕ) (items : List Queued) → QueueKept items birth h →
    map (λ (item : Queued). item.page) (take most (filter (is_due newest limit) items)) ≡ map page_number (take most (order birth h newest limit))
due_is_order birth h legal newest limit most items kept =
    let whole = kept_is birth h legal newest items kept in
    let part : filter (is_due newest limit) items ≡ map (queued birth h) (order birth h newest limit) =
    ap (filter (is_due newest limit)) whole
    ∙ filter_mapped (is_due newest limit) (reclaimable birth h newest limit) (queued birth h) (order birth h newest 0)
    (λ q in_it. may_now (loose birth h q) (is_due newest limit (queued birth h q)) (sym (order_has birth h legal newest q) ∙ in_it))
    ∙ ap (map (queued birth h)) (sym (order_part birth h newest limit)) in
    ap (λ (xs : List Queued). map (λ (item : Queued). item.page) (take most xs)) part ∙ take_mapped birth h most (order birth h newest limit)

-- How many they are.

put_in_long : (before : ℕ → ℕ → Bool) (p : ℕ) (qs : List ℕ) → length (put_in before p qs) ≡ suc (length qs)
put_in_long before p [] = refl
put_in_long before p (q ∷ qs) = elim (before p q) as (λ b. length (cond b (p ∷ q ∷ qs) (q ∷ put_in before p qs)) ≡ suc (suc (length qs))) [
  | true ↦ refl
  | false ↦ ap suc (put_in_long before p qs)
]

put_in_order_long : (before : ℕ → ℕ → Bool) (ps : List ℕ) → length (put_in_order before ps) ≡ length ps
put_in_order_long before [] = refl
put_in_order_long before (p ∷ ps) = put_in_long before p (put_in_order before ps) ∙ ap suc (put_in_order_long before ps)

pub queue_long : (birth : Birth) (h : List Entry) → Legal birth h → (items : List Queued) → QueueKept items birth h → length items ≡ count_pages (loose birth h) 0 (size birth h)
queue_long birth h legal items kept =
    ap length (kept_is birth h legal (newest_epoch h) items kept) ∙ length-map (order birth h (newest_epoch h) 0) (queued birth h)
    ∙ put_in_order_long (goes_before birth h) (list_pages (reclaimable birth h (newest_epoch h) 0) 0 (size birth h))
    ∙ sym (counts_listed (reclaimable birth h (newest_epoch h) 0) 0 (size birth h))
    ∙ (λ i. count_pages (λ p. whole_loose birth h (newest_epoch h) p i) 0 (size birth h))
