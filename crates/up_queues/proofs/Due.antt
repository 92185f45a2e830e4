-- The pages that are due, appended one by one along a list's links.
use Rattle.std.proofs.Common.{◌≡◌, ℕ, zero, suc, ◌+◌, ◌-◌, ◌<◌, ◌≤◌, true, false, Option, Some, None, List, [], ◌∷◌, ◌++◌, length, map, take, filter, refl, sym, ◌∙◌, ap, arith, append_assoc}
use Rattle.std.proofs.lemmas.List.{length-append, append-nil}
use Rattle.std.proofs.lemmas.List.Elements.{filter-append}
use Rattle.up_num.specs.declared.pages.PageNo.{PageNo}
use Rattle.up_queues.specs.declared.queued.Queued.{Queued}
use Rattle.up_queues.specs.declared.lists.QueueEntry.{QueueEntry}
use Rattle.up_queues.specs.Queue.{is_due}
use Rattle.up_queues.specs.Lists.{walk}
use Rattle.up_queues.proofs.ListWalks.{walk_none, walk_on}

-- the first so many pages that are due
abbrev pub due : ℕ → ℕ → ℕ → List Queued → List PageNo
due newest limit most items = map (λ item. item.page) (take most (filter (is_due newest limit) items))

pub due_none : (newest limit most : ℕ) (items : List Queued) → items ≡ [] → due newest limit most items ≡ []
due_none newest limit zero items e = refl
due_none newest limit (suc most) items e = rw e refl

pub due_ended : (newest limit most left : ℕ) (g : ℕ → Option QueueEntry) (at : Option ℕ) (old all : List PageNo) → at ≡ None → old ++ due newest limit left (walk g most at) ≡ all → old ≡ all
due_ended newest limit most left g at old all e so =
    sym (append-nil old) ∙ (ap (λ l. old ++ l) (sym (due_none newest limit left (walk g most at) (ap (walk g most) e ∙ walk_none g most))) ∙ so)

walk_lost : (g : ℕ → Option QueueEntry) (most key : ℕ) → g key ≡ None → walk g most (Some key) ≡ []
walk_lost g zero key e = refl
walk_lost g (suc most) key e = rw e (walk_none g most)

pub due_lost : (newest limit most left key : ℕ) (g : ℕ → Option QueueEntry) (at : Option ℕ) (old all : List PageNo) → at ≡ Some key → g key ≡ None
    → old ++ due newest limit left (walk g most at) ≡ all → old ≡ all
due_lost newest limit most left key g at old all e f so =
    sym (append-nil old) ∙ (ap (λ l. old ++ l) (sym (due_none newest limit left (walk g most at) (ap (walk g most) e ∙ walk_lost g most key f))) ∙ so)

walk_step : (g : ℕ → Option QueueEntry) (most step key : ℕ) (at : Option ℕ) (entry : QueueEntry) → step < most → at ≡ Some key → g key ≡ Some entry
    → walk g (most - step) at ≡ entry.item ∷ walk g (most - (step + 1)) entry.after
walk_step g most step key at entry short e f =
    let more : most - step ≡ suc (most - (step + 1)) = omega arith in
    ap (λ n. walk g n at) more ∙ (ap (walk g (suc (most - (step + 1)))) e ∙ walk_on g (most - (step + 1)) key entry f)

-- after an entry that isn't due, and after one that is
pub due_skips : (newest limit max most step key : ℕ) (g : ℕ → Option QueueEntry) (at : Option ℕ) (entry : QueueEntry) (old all : List PageNo) → step < most → at ≡ Some key → g key ≡ Some entry
    → is_due newest limit entry.item ≡ false → old ++ due newest limit (max - length old) (walk g (most - step) at) ≡ all
    → old ++ due newest limit (max - length old) (walk g (most - (step + 1)) entry.after) ≡ all
due_skips newest limit max most step key g at entry old all short e f not so =
    let rest : List Queued = walk g (most - (step + 1)) entry.after in
    let same : filter (is_due newest limit) (entry.item ∷ rest) ≡ filter (is_due newest limit) rest = rw not refl in
    ap (λ l. old ++ map (λ item. item.page) (take (max - length old) l)) (sym same)
    ∙ (ap (λ l. old ++ due newest limit (max - length old) l) (sym (walk_step g most step key at entry short e f)) ∙ so)

pub due_adds : (newest limit max most step key : ℕ) (g : ℕ → Option QueueEntry) (at : Option ℕ) (entry : QueueEntry) (old new all : List PageNo) → step < most → at ≡ Some key → g key ≡ Some entry
    → is_due newest limit entry.item ≡ true → length old < max → new ≡ old ++ entry.item.page ∷ [] → old ++ due newest limit (max - length old) (walk g (most - step) at) ≡ all
    → (length new ≤ max) × (new ++ due newest limit (max - length new) (walk g (most - (step + 1)) entry.after) ≡ all)
due_adds newest limit max most step key g at entry old new all short e f is_so room is so =
    let rest : List Queued = walk g (most - (step + 1)) entry.after in
    let one : length new ≡ length old + 1 = ap length is ∙ length-append old (entry.item.page ∷ []) in
    let left : max - length old ≡ suc (max - length new) = omega arith in
    let more : due newest limit (max - length old) (entry.item ∷ rest) ≡ entry.item.page ∷ due newest limit (max - length new) rest = rw (left, is_so) refl in (
      omega arith,
      ap (λ l. l ++ due newest limit (max - length new) rest) is
          ∙ (append_assoc old (entry.item.page ∷ []) (due newest limit (max - length new) rest)
          ∙ (ap (λ l. old ++ l) (sym more) ∙ (ap (λ l. old ++ due newest limit (max - length old) l) (sym (walk_step g most step key at entry short e f)) ∙ so))),
    )

-- both lists

take_two : (max left : ℕ) (a b : List Queued) → left + length (take max a) ≡ max → map (λ item. item.page) (take max a) ++ map (λ item. item.page) (take left b) ≡ map (λ item. item.page) (take max (a ++ b))
take_two zero left a b e = let none : left ≡ 0 = omega (arith, e) in rw none refl
take_two (suc max) left [] b e = let all : left ≡ suc max = omega (arith, e) in rw all refl
take_two (suc max) left (x ∷ a) b e = ap (λ l. x.page ∷ l) (take_two max left a b (omega (arith, e)))

length_taken : (max : ℕ) (a : List Queued) → length (take max a) ≤ max
length_taken zero a = omega arith
length_taken (suc max) [] = omega arith
length_taken (suc max) (x ∷ a) = let rest : length (take max a) ≤ max = length_taken max a in omega (arith, rest)

length_pages : (items : List Queued) → length (map (λ item. item.page) items) ≡ length items
length_pages [] = refl
length_pages (x ∷ items) = ap suc (length_pages items)

pub due_both : (newest limit max : ℕ) (a b : List Queued) (none first both : List PageNo) → none ≡ [] → first ≡ none ++ due newest limit (max - length none) a
    → both ≡ first ++ due newest limit (max - length first) b → both ≡ due newest limit max (a ++ b)
due_both newest limit max a b none first both is one two =
    let whole : max - length none ≡ max = (let empty : length none ≡ 0 = ap length is in omega (arith, empty)) in
    let first_is : first ≡ due newest limit max a = one ∙ (ap (λ l. l ++ due newest limit (max - length none) a) is ∙ ap (λ n. due newest limit n a) whole) in
    let long : length first ≡ length (take max (filter (is_due newest limit) a)) = ap length first_is ∙ length_pages (take max (filter (is_due newest limit) a)) in
    let most : length (take max (filter (is_due newest limit) a)) ≤ max = length_taken max (filter (is_due newest limit) a) in
    let sum : (max - length first) + length (take max (filter (is_due newest limit) a)) ≡ max = omega (arith, long, most) in
    two ∙ (ap (λ l. l ++ due newest limit (max - length first) b) first_is
    ∙ (take_two max (max - length first) (filter (is_due newest limit) a) (filter (is_due newest limit) b) sum
    ∙ ap (λ l. map (λ item. item.page) (take max l)) (sym (filter-append (is_due newest limit) a b))))
