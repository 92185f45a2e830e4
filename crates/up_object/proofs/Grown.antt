-- Pages that are cut off, and an object that grows.
use Rattle.std.proofs.Common.{◌≡◌, ℕ, ◌+◌, ◌-◌, ◌<◌, ◌≤◌, ◌&&◌, true, false, List, [], ◌∷◌, ◌++◌, length, zero, suc, refl, ap, sym, ◌∙◌, subst, arith, nat_le, nat_lt, inl, inr}
use Rattle.std.proofs.lemmas.Bool.{cases_lt}
use Rattle.std.proofs.lemmas.Bool.Decides.{nat_tests}
use Rattle.up_num.specs.declared.answers.AskKind.TheVariants.{Dirty as DirtyAsk}
use Rattle.up_bank.specs.Standing.{Held as Frame}
use Rattle.up_bank.specs.declared.kind.FrameKind.{FrameKind}
use Rattle.up_bank.specs.declared.kind.FrameKind.TheVariants.{Ordinary}
use Rattle.up_pages.specs.Frames.{Stock}
use Rattle.up_pages.specs.declared.page.Page.{Page}
use Rattle.up_pages.specs.declared.page.Page.TheVariants.{Absent, Zero, Held as HeldPage}
use Rattle.up_pages.specs.Pages.{PageMap, page_at, size_of, look_of as look_at}
use Rattle.up_pages.proofs.Places.{absent_past}
use Rattle.up_queues.specs.declared.queued.Queued.{Queued}
use Rattle.up_queues.specs.Queue.{Queue, find_page}
use Rattle.up_model.specs.Size.{size}
use Rattle.up_model.specs.Asks.{asked}
use Rattle.up_model.specs.Looks.{Missing}
use Rattle.up_model.specs.Changes.{Vanishes}
use Rattle.up_model.specs.Concerns.{concerns}
use Rattle.up_model.specs.declared.entry.Birth.{Birth}
use Rattle.up_model.specs.declared.entry.Entry.{Entry}
use Rattle.up_asks.specs.Asking.{Asking}
use Rattle.up_object.specs.Asks.{AskRoom}
use Rattle.up_object.specs.declared.marks.Mark.{Mark}
use Rattle.up_object.specs.declared.numbers.Begin.{Begin}
use Rattle.up_object.specs.Numbers.{Numbered, BeginsStand, begin_in, bared}
use Rattle.up_model.specs.Numbers.{next_number}
use Rattle.up_object.proofs.PageNumbers.{numbers_next}
use Rattle.std.specs.Prelude.{option_to_list}
use Rattle.up_object.specs.Parts.{BankPair, PageStands, shown, no_mark, mark_at}
use Rattle.up_object.specs.Stands.{Tally, leaves_after, StandsFor}
use Rattle.up_object.specs.Change.{CallProgress, is_done, PagesStand, AllOwn, Rests, Counts, grown, ChangeStandsFor}
use Rattle.up_object.specs.Whole.{Whole}
use Rattle.up_object.proofs.Tallies.{empty_are}

-- one mark more, that is none
pub none_more : (xs : List Mark) (p : ℕ) → mark_at (xs ++ no_mark ∷ []) p ≡ mark_at xs p
none_more [] zero = refl
none_more [] (suc p) = refl
none_more (x ∷ xs) zero = refl
none_more (x ∷ xs) (suc p) = none_more xs p

-- a page that is cut off is absent, and has no mark but its numbers
pub vanishes_page : (banks : BankPair) (page : Page) (mark new : Mark) (birth : Birth) (e : Entry) (h : List Entry) (p : ℕ) → PageStands banks page mark birth h p → Vanishes birth e h p →
    new ≡ record no_mark { dirtied = mark.dirtied; unzeroed = (bared (shown (look_at page)) (next_number h) mark).unzeroed } → PageStands banks Absent new birth (e ∷ h) p
vanishes_page banks page mark new birth e h p s t is = record {
  looks = t.looks;
  bytes = t.bytes;
  owned = tt;
  pinned = rw is t.unpinned;
  protected = rw is t.unprotected;
  keyed = λ framed. absurd cc;
  numbered = numbers_next mark new birth e h p (shown (look_at page)) false s.numbered s.looks t.undirtied (rw is refl) (λ bare. rw is refl);
}

absent_shown : (page : Page) → shown (look_at page) ≡ Missing → page ≡ Absent
absent_shown Absent is = refl
absent_shown (Zero state) is = absurd cc
absent_shown (HeldPage frame state) is = absurd cc

-- all pages from the first that is cut off are absent
pub absent_from : (banks : BankPair) (pages : PageMap) (marks : List Mark) (birth : Birth) (e : Entry) (h : List Entry) (first limit p : ℕ) → ((q : ℕ) → PageStands banks (page_at pages q) (mark_at marks q) birth (e ∷ h) q) →
    limit ≡ size_of pages → ((q : ℕ) → first ≤ q → q < limit → Vanishes birth e h q) → first ≤ p → page_at pages p ≡ Absent
absent_from banks pages marks birth e h first limit p stand whole gone low = elim (cases_lt p limit) [
  | inl within ↦ absent_shown (page_at pages p) (sym (stand p).looks ∙ (gone p low within).looks)
  | inr past ↦ absent_past pages.pages p (omega arith)
]

-- a page outside the range rests
pub rests_outside : (birth : Birth) (e : Entry) (h : List Entry) (done : CallProgress) → done.mark ≡ done.limit →
    ((p : ℕ) → (nat_le done.first p && nat_lt p done.limit) ≡ false → asked birth (e ∷ h) DirtyAsk p ≡ asked birth h DirtyAsk p) →
    (p : ℕ) → (nat_le done.first p && nat_lt p done.limit) ≡ false → Rests birth e h done p
rests_outside birth e h done ended same p out = record {
  undone = ap (λ (n : ℕ). nat_le done.first p && nat_lt p n) ended ∙ out;
  unasked = same p out;
}

-- what isn't done is outside the range
pub keeps_outside : (banks : BankPair) (pages : PageMap) (marks : List Mark) (birth : Birth) (e : Entry) (h : List Entry) (done : CallProgress) → PagesStand banks pages marks birth e h done → done.mark ≡ done.limit →
    ((p : ℕ) → (nat_le done.first p && nat_lt p done.limit) ≡ false → concerns birth h e p ≡ false) → (p : ℕ) → is_done done p ≡ false → concerns birth h e p ≡ false
keeps_outside banks pages marks birth e h done part ended keeps p out = keeps p (ap (λ (n : ℕ). nat_le done.first p && nat_lt p n) (sym ended) ∙ out)

undone : (first p : ℕ) → (nat_le first p && nat_lt p first) ≡ false
undone first p = grind (arith, nat_tests)

-- an object whose pages were brought, at the beginning of the call that brings them
pub grows : (banks : BankPair) (pages pages' : PageMap) (marks marks' : List Mark) (queue queue' : Queue) (asking : Asking) (tally : Tally) (numbers numbers' : Numbered) (newest leaves spare spare' : ℕ) (birth : Birth) (h h' : List Entry) (e : Entry) (brings : FrameKind) (given back : Stock) (first limit : ℕ) →
    StandsFor banks pages marks queue asking tally numbers newest leaves spare birth h → h' ≡ h → numbers'.begins ≡ numbers.begins → first ≡ size_of pages → size birth (e ∷ h) ≡ limit → size birth h ≤ limit →
    ((p : ℕ) → page_at pages' p ≡ page_at pages p) → size_of pages' ≡ limit → limit - size_of pages ≤ pages'.spare → ((p : ℕ) → mark_at marks' p ≡ mark_at marks p) → limit ≤ length marks' →
    queue'.items ≡ queue.items → limit ≤ queue'.room → given.items ≡ [] → back.items ≡ [] → length back.items + (limit - size_of pages) ≤ back.room → leaves_after e.call leaves < spare' → length (option_to_list (begin_in e)) ≤ numbers'.spare →
    ChangeStandsFor banks pages' marks' brings given back (record { queue = queue'; asks = asking; tally = tally; numbers = numbers'; newest = newest; leaves = leaves; spare = spare' }) birth e h'
    (record { first = first; mark = first; limit = limit; asks = false; spent = false; tally = false; size = true })
grows banks pages pages' marks marks' queue queue' asking tally numbers numbers' newest leaves spare spare' birth h h' e brings given back first limit s same kept from sized more puts count ready sets places items wide none none_too room enough place =
    let was = s.sized in
    let less : size_of pages ≤ limit = subst (λ (n : ℕ). n ≤ limit) (sym was) more in
    let empty : length given.items ≡ 0 = ap (λ (xs : List Frame). length xs) none in
    rw same (record {
      legal = s.legal;
      kinds = s.kinds;
      sized = count ∙ sym sized;
      grown = subst (λ (n : ℕ). size birth h ≤ n) (sym count) more;
      part = record {
        each = λ p. rw (undone first p, puts p, sets p) (s.each p);
        marked = subst (λ (n : ℕ). n ≤ length marks') (sym count) places;
        order = omega arith;
        ends = omega arith;
        fits = omega arith;
        ready = omega arith;
      };
      stock = record {
        given_own = empty_are _ given.items none;
        back_own = subst (λ (xs : List Frame). AllOwn banks xs) (sym none_too) tt;
        room = omega arith;
      };
      others = record {
        queued = λ p. ap (λ (xs : List Queued). find_page xs p) items ∙ s.queued p;
        wide = subst (λ (n : ℕ). n ≤ queue'.room) (sym count) wide;
        asks = s.asks;
        tallied = s.tallied;
        numbered = subst (λ (xs : List Begin). BeginsStand xs h) (sym kept) s.numbered;
        epoch = s.epoch;
        leaving = s.leaving;
        few = s.few;
        room = enough;
        place = place;
      };
    })

-- after want of memory the object stands as before, with more room
pub still_stands : (banks : BankPair) (pages pages' : PageMap) (marks marks' : List Mark) (queue queue' : Queue) (asking : Asking) (tally : Tally) (numbers numbers' : Numbered) (newest leaves spare spare' : ℕ) (birth : Birth) (h h' : List Entry) →
    StandsFor banks pages marks queue asking tally numbers newest leaves spare birth h → h' ≡ h → numbers'.begins ≡ numbers.begins → ((p : ℕ) → page_at pages' p ≡ page_at pages p) → size_of pages' ≡ size_of pages →
    ((p : ℕ) → mark_at marks' p ≡ mark_at marks p) → length marks ≤ length marks' → queue'.items ≡ queue.items → queue.room ≤ queue'.room → spare ≤ spare' →
    StandsFor banks pages' marks' queue' asking tally numbers' newest leaves spare' birth h'
still_stands banks pages pages' marks marks' queue queue' asking tally numbers numbers' newest leaves spare spare' birth h h' s same kept puts count sets longer items wider more =
    let marked = s.marked in
    let wide = s.wide in
    let room = s.room in
    rw same (record {
      legal = s.legal;
      kinds = s.kinds;
      sized = count ∙ s.sized;
      each = λ p. rw (puts p, sets p) (s.each p);
      marked = omega arith;
      queued = λ p. ap (λ (xs : List Queued). find_page xs p) items ∙ s.queued p;
      wide = omega arith;
      asks = s.asks;
      tallied = s.tallied;
      numbered = subst (λ (xs : List Begin). BeginsStand xs h) (sym kept) s.numbered;
      epoch = s.epoch;
      leaving = s.leaving;
      few = s.few;
      room = omega arith;
    })

-- what contracts see of a call that brings pages
pub seen_grown : (banks : BankPair) (birth : Birth) (h h' : List Entry) (e : Entry) (given : List Frame) (first limit pages : ℕ) (counts : Counts) (room : AskRoom) (whole : Whole) →
    record { birth = birth; journal = h; banks = banks } ≡ whole → h' ≡ h → given ≡ [] → first ≡ size birth h → pages ≡ limit →
    record { birth = birth; journal = h'; entry = e; banks = banks; brings = Ordinary; done = record { first = first; mark = first; limit = limit; asks = false; spent = false; tally = false; size = true }; pages = pages; given = length given; frames = counts; room = room }
    ≡ grown whole e limit counts room
seen_grown banks birth h h' e given first limit pages counts room whole is same none from count =
    subst (λ (v : Whole). record { birth = birth; journal = h'; entry = e; banks = banks; brings = Ordinary; done = record { first = first; mark = first; limit = limit; asks = false; spent = false; tally = false; size = true }; pages = pages; given = length given; frames = counts; room = room }
    ≡ grown v e limit counts room) is (rw (same, none, from, count) refl)
