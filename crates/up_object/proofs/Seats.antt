-- Which pages the queues have, how many these can be, and what a page's place is.
use Rattle.std.proofs.Common.{◌≡◌, ℕ, ◌+◌, ◌-◌, ◌<◌, ◌≤◌, ◌==◌, ◌&&◌, not, Bool, true, false, cond, Option, Some, None, List, [], ◌∷◌, ◌++◌, length, zero, suc, refl, ap, sym, ◌∙◌, subst, arith, inl, inr}
use Rattle.std.proofs.lemmas.Bool.{cases_eq}
use Rattle.std.proofs.lemmas.Bool.Decides.{nat_tests}
use Rattle.std.proofs.lemmas.List.{length-append}
use Rattle.up_num.specs.Pages.{page_number}
use Rattle.up_num.specs.declared.answers.AskKind.TheVariants.{Dirty as DirtyAsk}
use Rattle.up_pages.specs.declared.page.Page.{Page}
use Rattle.up_pages.specs.Pages.{look_of as look_at}
use Rattle.up_queues.specs.declared.queued.Queued.{Queued}
use Rattle.up_queues.specs.Queue.{find_page, InOrder}
use Rattle.up_queues.proofs.OrderedItems.{taken_between, find_taken}
use Rattle.up_model.specs.Size.{size}
use Rattle.up_model.specs.Value.{there, marked, settled, begun}
use Rattle.up_model.specs.Pins.{pins, always, loaned}
use Rattle.up_model.specs.Asks.{asked}
use Rattle.up_model.specs.Use.{generation}
use Rattle.up_model.specs.Order.{loose}
use Rattle.up_model.specs.Legal.{Legal}
use Rattle.up_model.specs.Looks.{PageLook, Missing, Zeros, Framed, look_by, look_of, is_spare, has_frame}
use Rattle.up_model.specs.Changes.{SamePage}
use Rattle.up_model.specs.declared.entry.Birth.{Birth}
use Rattle.up_model.specs.declared.entry.Entry.{Entry}
use Rattle.up_model.proofs.Reclaiming.{loose_page}
use Rattle.up_model.proofs.Presence.{pages_within}
use Rattle.up_object.specs.declared.marks.Mark.{Mark}
use Rattle.up_object.specs.declared.marks.Key.{Key}
use Rattle.up_object.specs.Parts.{BankPair, PageStands, KeyStands, shown}
use Rattle.up_object.specs.Stands.{position_of, queued, seat, may_go, keyed_item}

-- How many pages the queues can have.

pub record Splits (items : List Queued) (q : ℕ) : Type 0 where
  pub front : List Queued
  pub item : Queued
  pub later : List Queued
  pub is : items ≡ front ++ item ∷ later
  pub own : item.page.0 ≡ q

number_of : (m n : ℕ) → (m == n) ≡ true → m ≡ n
number_of m n is = grind (arith, nat_tests)

find_splits : (items : List Queued) (q : ℕ) (y : Queued) → find_page items q ≡ Some y → Splits items q
find_splits [] q y found = absurd cc
find_splits (x ∷ xs) q y found =
    elim (x.page.0 == q) as (λ b. (x.page.0 == q) ≡ b → cond b (Some x) (find_page xs q) ≡ Some y → Splits (x ∷ xs) q) [
      | true ↦ λ same here. record { front = []; item = x; later = xs; is = refl; own = number_of x.page.0 q same }
      | false ↦ λ other there. let rest = find_splits xs q y there in
          record { front = x ∷ rest.front; item = rest.item; later = rest.later; is = ap (λ (ys : List Queued). x ∷ ys) rest.is; own = rest.own }
    ] refl found

head_found : (x : Queued) (xs : List Queued) → find_page (x ∷ xs) x.page.0 ≡ Some x
head_found x xs = let same : (x.page.0 == x.page.0) ≡ true = grind (arith, nat_tests) in rw same refl

more : (a b : ℕ) → a + suc b ≡ a + b + 1
more a b = omega arith

-- without the item of a page there is one less
pub record OneLess (items : List Queued) (q : ℕ) : Type 0 where
  pub others : List Queued
  pub ordered : InOrder others
  pub long : length items ≡ length others + 1
  pub finds : (p : ℕ) → find_page others p ≡ cond (q == p) None (find_page items p)

one_less : (items : List Queued) (q : ℕ) (y : Queued) → InOrder items → find_page items q ≡ Some y → OneLess items q
one_less items q y ordered found =
    let s = find_splits items q y found in
    let whole : InOrder (s.front ++ s.item ∷ s.later) = subst InOrder s.is ordered in record {
      others = s.front ++ s.later;
      ordered = taken_between s.front s.item s.later whole;
      long = ap length s.is ∙ length-append s.front (s.item ∷ s.later) ∙ more (length s.front) (length s.later) ∙ ap (λ (n : ℕ). n + 1) (sym (length-append s.front s.later));
      finds = λ p. find_taken s.front s.item s.later whole p ∙ ap (λ (n : ℕ). cond (n == p) None (find_page (s.front ++ s.item ∷ s.later) p)) s.own
          ∙ ap (λ (xs : List Queued). cond (q == p) None (find_page xs p)) (sym s.is);
    }

below : (items : List Queued) (n p : ℕ) → ((r : ℕ) → suc n ≤ r → find_page items r ≡ None) → find_page items n ≡ None → n ≤ p → find_page items p ≡ None
below items n p none here low = elim (cases_eq n p) [
  | inl same ↦ subst (λ (m : ℕ). find_page items m ≡ None) same here
  | inr other ↦ none p (omega arith)
]

none_either : {X : Type 0} (b : Bool) (o : Option X) → o ≡ None → cond b None o ≡ None
none_either true o gone = refl
none_either false o gone = gone

gone_at : (items : List Queued) (n p : ℕ) → ((r : ℕ) → suc n ≤ r → find_page items r ≡ None) → n ≤ p → cond (n == p) None (find_page items p) ≡ None
gone_at items n p none low = elim (cases_eq n p) [
  | inl same ↦ let is : (n == p) ≡ true = grind (arith, nat_tests) in rw is refl
  | inr other ↦ none_either (n == p) (find_page items p) (none p (omega arith))
]

-- pages in order, all below n, are no more than n
pub few_items : (n : ℕ) (items : List Queued) → InOrder items → ((p : ℕ) → n ≤ p → find_page items p ≡ None) → length items ≤ n
few_items n [] ordered none = omega arith
few_items zero (x ∷ xs) ordered none = let found = head_found x xs in let gone = none x.page.0 (omega arith) in absurd cc
few_items (suc n) (x ∷ xs) ordered none =
    elim (find_page (x ∷ xs) n) as (λ o. find_page (x ∷ xs) n ≡ o → length (x ∷ xs) ≤ suc n) [
      | None ↦ λ q. let rest = few_items n (x ∷ xs) ordered (λ p low. below (x ∷ xs) n p none q low) in omega arith
      | Some y ↦ λ q. let less = one_less (x ∷ xs) n y ordered q in
          let rest = few_items n less.others less.ordered (λ p low. less.finds p ∙ gone_at (x ∷ xs) n p none low) in
          let long = less.long in omega arith
    ] refl

-- where a page below n is missing, they are fewer
pub fewer_items : (n q : ℕ) (items : List Queued) → InOrder items → ((p : ℕ) → n ≤ p → find_page items p ≡ None) → q < n → find_page items q ≡ None → length items < n
fewer_items zero q items ordered none low gone = absurd (omega arith)
fewer_items (suc n) q items ordered none low gone = elim (cases_eq q n) [
  | inl same ↦ let rest = few_items n items ordered (λ p from. below items n p none (subst (λ (m : ℕ). find_page items m ≡ None) same gone) from) in omega arith
  | inr other ↦ elim (find_page items n) as (λ o. find_page items n ≡ o → length items < suc n) [
    | None ↦ λ w. let rest = fewer_items n q items ordered (λ p from. below items n p none w from) (omega arith) gone in omega arith
    | Some y ↦ λ w. let less = one_less items n y ordered w in
        let rest = fewer_items n q less.others less.ordered (λ p from. less.finds p ∙ gone_at items n p none from) (omega arith) (less.finds q ∙ none_either (n == q) _ gone) in
        let long = less.long in omega arith
  ] refl
]

-- What a page's place is.

loose_by : (here mark rest run loan x : Bool) → (here && (not (here && mark) && (rest && x))) ≡ (is_spare (look_by here mark rest run loan) && x)
loose_by false m s b l x = refl
loose_by true true s b l x = refl
loose_by true false true b l x = refl
loose_by true false false true l x = refl
loose_by true false false false l x = refl

pub loose_is : (birth : Birth) (h : List Entry) (p : ℕ) → loose birth h p ≡ (is_spare (look_of birth h p) && ((pins h p == 0) && (not (always birth h p) && not (asked birth h DirtyAsk p))))
loose_is birth h p = loose_by (there birth h p) (marked birth h p) (settled birth h p) (begun birth h p) (loaned birth h p) _

first_of : (a x : Bool) → (a && x) ≡ true → a ≡ true
first_of true x is = refl
first_of false x is = is

spare_has : (look : PageLook) → is_spare look ≡ true → has_frame look ≡ true
spare_has Missing is = absurd cc
spare_has (Zeros state) is = absurd cc
spare_has (Framed state loan) is = refl

spare_framed : (look : PageLook) (x : Bool) → (is_spare look && x) ≡ true → has_frame look ≡ true
spare_framed look x is = spare_has look (first_of (is_spare look) x is)

seat_by : (goes is_loose : Bool) (item item' : Queued) → is_loose ≡ goes → (goes ≡ true → item ≡ item') → cond goes (Some item) None ≡ cond is_loose (Some item') None
seat_by true is_loose item item' test same = rw test (ap (λ (x : Queued). Some x) (same refl))
seat_by false is_loose item item' test same = rw test refl

item_is : (birth : Birth) (h : List Entry) (p : ℕ) (key : Key) → KeyStands key birth h p → keyed_item p key ≡ queued birth h p
item_is birth h p key k = λ i. record { page = page_number p; generation = sym k.aged i; place = position_of (sym k.place i); cold = sym k.chilled i }

-- the seat of a page that stands for the journal is what is kept of it
pub seat_is : (banks : BankPair) (page : Page) (mark : Mark) (asks : Bool) (birth : Birth) (h : List Entry) (p : ℕ) → PageStands banks page mark birth h p → asks ≡ asked birth h DirtyAsk p →
    cond (may_go (shown (look_at page)) mark asks) (Some (keyed_item p mark.key)) None ≡ seat birth h p
seat_is banks page mark asks birth h p s same =
    let test : loose birth h p ≡ may_go (shown (look_at page)) mark asks = loose_is birth h p
    ∙ (λ i. is_spare (s.looks i) && ((s.pinned i == 0) && (not (s.protected i) && not (sym same i)))) in
    seat_by (may_go (shown (look_at page)) mark asks) (loose birth h p) (keyed_item p mark.key) (queued birth h p) test
    (λ goes. item_is birth h p mark.key (s.keyed (spare_framed (shown (look_at page)) _ goes)))

-- a page that stays as it is keeps its seat
pub seat_stays : (birth : Birth) (e : Entry) (h : List Entry) (p : ℕ) → SamePage birth e h p → asked birth (e ∷ h) DirtyAsk p ≡ asked birth h DirtyAsk p → seat birth (e ∷ h) p ≡ seat birth h p
seat_stays birth e h p s same =
    let test : loose birth (e ∷ h) p ≡ loose birth h p = loose_is birth (e ∷ h) p
    ∙ (λ i. is_spare (s.looks i) && ((s.marks.pinned i == 0) && (not (s.marks.protected i) && not (same i)))) ∙ sym (loose_is birth h p) in
    λ i. cond (test i) (Some (record { page = page_number p; generation = s.usage.aged i; place = position_of (s.usage.used i); cold = s.usage.chilled i })) None

-- past the object's end no page has a seat
pub seat_beyond : (birth : Birth) (h : List Entry) → Legal birth h → (p : ℕ) → size birth h ≤ p → seat birth h p ≡ None
seat_beyond birth h legal p past = elim (loose birth h p) as (λ b. loose birth h p ≡ b → cond b (Some (queued birth h p)) None ≡ None) [
  | true ↦ λ q. let low = pages_within birth h legal p (loose_page birth h p q).here in absurd (omega arith)
  | false ↦ λ q. refl
] refl
