-- The end of a call: all parts stand for the journal with its entry. And the beginning of one.
use Rattle.std.proofs.Common.{◌≡◌, ℕ, ◌+◌, ◌-◌, ◌*◌, ◌<◌, ◌≤◌, ◌&&◌, Bool, true, false, cond, None, List, [], ◌∷◌, ◌++◌, length, zero, suc, refl, ap, sym, ◌∙◌, subst, arith, nat_le, nat_lt}
use Rattle.std.specs.Prelude.{max, option_to_list}
use Rattle.std.proofs.lemmas.Bool.{and_parts}
use Rattle.std.proofs.lemmas.Bool.Decides.{nat_tests}
use Rattle.up_num.specs.declared.answers.AskKind.TheVariants.{Dirty as DirtyAsk}
use Rattle.up_span.specs.Pages.{count_pages}
use Rattle.up_bank.specs.Standing.{Held as Frame}
use Rattle.up_bank.specs.declared.kind.FrameKind.{FrameKind}
use Rattle.up_bank.specs.declared.kind.FrameKind.TheVariants.{Ordinary, Loaned}
use Rattle.up_pages.specs.Frames.{Stock, count_kind, same_kind}
use Rattle.up_pages.specs.declared.page.Page.{Page}
use Rattle.up_pages.specs.declared.page.Page.TheVariants.{Absent, Zero, Held as HeldPage}
use Rattle.up_pages.specs.Pages.{PageMap, page_at, size_of, held_by, is_held_by, look_of as look_at}
use Rattle.up_queues.specs.Queue.{Queue, find_page}
use Rattle.up_model.specs.Size.{size}
use Rattle.up_model.specs.Looks.{look_of}
use Rattle.up_model.specs.Concerns.{concerns, keeps_asks, keeps_spent, keeps_roles, keeps_modified, keeps_size}
use Rattle.up_model.specs.Changes.{IsDue}
use Rattle.up_model.specs.declared.entry.Birth.{Birth}
use Rattle.up_model.specs.declared.entry.Call.{Call}
use Rattle.up_model.specs.declared.entry.Entry.{Entry}
use Rattle.up_model.proofs.UnconcernedPages.{untouched}
use Rattle.up_model.proofs.Kept.{kept_roles, kept_modified, kept_size}
use Rattle.up_object.specs.declared.marks.Mark.{Mark}
use Rattle.up_object.specs.Parts.{BankPair, bank_of, is_loan, PageStands, shown, no_mark, mark_at}
use Rattle.up_asks.specs.Asking.{Asking, SameAsks}
use Rattle.up_queues.specs.declared.queued.Queued.{Queued}
use Rattle.up_model.proofs.Equations.{value_none}
use Rattle.up_object.specs.Stands.{Tally, TallyStands, seat, item_of, leaves_after, is_leave, leave_calls, StandsFor}
use Rattle.up_object.specs.Asks.{AsksStand}
use Rattle.up_object.specs.declared.numbers.Begin.{Begin}
use Rattle.up_object.specs.Numbers.{Numbered, BeginsStand, begin_in}
use Rattle.up_object.proofs.BeginLists.{begins_next}
use Rattle.up_object.specs.Change.{CallProgress, Rest, Counts, of_kind, counts_of, frames_in_all, is_done, up_to, PagesStand, AllAre, AllOwn, Rests, ChangeStandsFor}
use Rattle.up_object.specs.Whole.{Whole, held, is_framed_by, same_loan}
use Rattle.up_object.proofs.PageAtMark.{keeps_page, kind_given}
use Rattle.up_object.proofs.Waits.{asks_end, roomy_asks}
use Rattle.up_object.proofs.Seats.{seat_is, seat_stays}

-- What wasn't changed is as before.

pub tally_end : (tally : Tally) (birth : Birth) (e : Entry) (h : List Entry) (done : Bool) → TallyStands tally birth (up_to done e h) → (done ≡ false → (keeps_roles e && keeps_modified e) ≡ true) → TallyStands tally birth (e ∷ h)
tally_end tally birth e h true s keeps = s
tally_end tally birth e h false s keeps =
    let both = and_parts (keeps_roles e) _ (keeps refl) in
    let roles = kept_roles birth e h both.0 in record {
      acting = s.acting ∙ sym roles.acting;
      paging = s.paging ∙ sym roles.paging;
      cut_off = s.cut_off ∙ sym roles.cut_off;
      changed = s.changed ∙ sym (kept_modified birth e h both.1);
    }

-- the number of pages, where it was set or stays
pub size_end : (n : ℕ) (birth : Birth) (e : Entry) (h : List Entry) (done : Bool) → n ≡ size birth (up_to done e h) → (done ≡ false → keeps_size e ≡ true) → n ≡ size birth (e ∷ h)
size_end n birth e h true s keeps = s
size_end n birth e h false s keeps = s ∙ sym (kept_size birth e h (keeps refl))

page_end : (banks : BankPair) (page : Page) (mark : Mark) (birth : Birth) (e : Entry) (h : List Entry) (p : ℕ) (done : Bool) → PageStands banks page mark birth (up_to done e h) p →
    (done ≡ false → concerns birth h e p ≡ false) → PageStands banks page mark birth (e ∷ h) p
page_end banks page mark birth e h p true s keeps = s
page_end banks page mark birth e h p false s keeps = keeps_page banks page mark birth e h p s (untouched birth e h p (keeps refl))

pub pages_end : (banks : BankPair) (pages : PageMap) (marks : List Mark) (birth : Birth) (e : Entry) (h : List Entry) (done : CallProgress) → PagesStand banks pages marks birth e h done →
    ((p : ℕ) → is_done done p ≡ false → concerns birth h e p ≡ false) → (p : ℕ) → PageStands banks (page_at pages p) (mark_at marks p) birth (e ∷ h) p
pages_end banks pages marks birth e h done s keeps p = page_end banks (page_at pages p) (mark_at marks p) birth e h p (is_done done p) (s.each p) (keeps p)

pub leaves_end : (call : Call) (a n : ℕ) → leaves_after call (a - n) ≡ a - cond (is_leave call) (suc n) n
leaves_end call a n = elim (is_leave call) as (λ b. cond b (a - n - 1) (a - n) ≡ a - cond b (suc n) n) [
  | true ↦ omega arith
  | false ↦ refl
]

seat_end : (banks : BankPair) (pages : PageMap) (marks : List Mark) (rest : Rest) (birth : Birth) (e : Entry) (h : List Entry) (done : CallProgress) (p : ℕ) (within : Bool) →
    ((q : ℕ) → PageStands banks (page_at pages q) (mark_at marks q) birth (e ∷ h) q) → AsksStand rest.asks birth (e ∷ h) → find_page rest.queue.items p ≡ seat birth h p →
    ((q : ℕ) → is_done done q ≡ false → concerns birth h e q ≡ false) → (within ≡ false → Rests birth e h done p) →
    cond within (item_of pages marks rest.asks p) (find_page rest.queue.items p) ≡ seat birth (e ∷ h) p
seat_end banks pages marks rest birth e h done p true stand asks was keeps places =
    seat_is banks (page_at pages p) (mark_at marks p) _ birth (e ∷ h) p (stand p) (asks.pages DirtyAsk p)
seat_end banks pages marks rest birth e h done p false stand asks was keeps places =
    let rests = places refl in was ∙ sym (seat_stays birth e h p (untouched birth e h p (keeps p rests.undone)) rests.unasked)

fewer : (b : Bool) (n : ℕ) → n ≤ 128 → cond b (n - 1) n ≤ 128
fewer true n few = omega arith
fewer false n few = few

pub less_few : (call : Call) (left had : ℕ) → left ≡ leaves_after call had → had ≤ 128 → left ≤ 128
less_few call left had is few = subst (λ (n : ℕ). n ≤ 128) (sym is) (fewer (is_leave call) had few)

-- an object at the end of a call, after absent pages past its size were taken off
pub closed : (banks : BankPair) (pages pages' : PageMap) (marks : List Mark) (brings : FrameKind) (given back : Stock) (rest : Rest) (birth : Birth) (e : Entry) (h h' : List Entry) (done : CallProgress) (from to : ℕ)
    (queue' : Queue) (numbers' : Numbered) (newest' leaves' spare' : ℕ) → ChangeStandsFor banks pages marks brings given back rest birth e h done →
    ((p : ℕ) → page_at pages' p ≡ page_at pages p) → size_of pages' ≡ size birth (e ∷ h) → size_of pages' ≤ size_of pages →
    ((p : ℕ) → is_done done p ≡ false → concerns birth h e p ≡ false) → ((p : ℕ) → (nat_le from p && nat_lt p to) ≡ false → Rests birth e h done p) →
    (done.asks ≡ false → keeps_asks e ≡ true) → (done.spent ≡ false → keeps_spent e ≡ true) → (done.tally ≡ false → (keeps_roles e && keeps_modified e) ≡ true) → IsDue birth e h →
    ((p : ℕ) → find_page queue'.items p ≡ cond (nat_le from p && nat_lt p to) (item_of pages marks rest.asks p) (find_page rest.queue.items p)) → queue'.room ≡ rest.queue.room →
    numbers'.begins ≡ rest.numbers.begins ++ option_to_list (begin_in e) → newest' ≡ max e.epoch rest.newest → leaves' ≡ leaves_after e.call rest.leaves → spare' ≡ rest.spare - 1 → h' ≡ e ∷ h →
    StandsFor banks pages' marks queue' rest.asks rest.tally numbers' newest' leaves' spare' birth h'
closed banks pages pages' marks brings given back rest birth e h h' done from to queue' numbers' newest' leaves' spare' s puts sized less keeps places asks spends tally due finds room adds newest leaves spare is =
    let stand = pages_end banks pages marks birth e h done s.part keeps in
    let asking = asks_end rest.asks birth e h done.asks done.spent s.others.asks asks spends in
    let enough = s.others.room in
    let few = s.others.few in
    let wide = s.others.wide in
    let marked = s.part.marked in
    rw is (record {
      legal = (s.legal, due.properly, due.answer);
      kinds = s.kinds;
      sized = sized;
      each = λ p. subst (λ (page : Page). PageStands banks page (mark_at marks p) birth (e ∷ h) p) (sym (puts p)) (stand p);
      marked = omega arith;
      queued = λ p. finds p ∙ seat_end banks pages marks rest birth e h done p (nat_le from p && nat_lt p to) stand asking (s.others.queued p) keeps (places p);
      wide = subst (λ (n : ℕ). size_of pages' ≤ n) (sym room) (omega arith);
      asks = asking;
      tallied = tally_end rest.tally birth e h done.tally s.others.tallied tally;
      numbered = begins_next rest.numbers.begins numbers'.begins birth e h (s.legal, due.properly, due.answer) s.others.numbered adds;
      epoch = ap (max e.epoch) s.others.epoch ∙ sym newest;
      leaving = leaves ∙ ap (leaves_after e.call) s.others.leaving ∙ leaves_end e.call (birth.users + birth.pagers) (leave_calls h);
      few = less_few e.call leaves' rest.leaves leaves few;
      room = subst (λ (n : ℕ). n ≤ spare') (sym leaves) (subst (λ (n : ℕ). leaves_after e.call rest.leaves ≤ n) (sym spare) (omega arith));
    })

-- Frames.

count_same : (f g : ℕ → Bool) (p n : ℕ) → ((q : ℕ) → f q ≡ g q) → count_pages f p n ≡ count_pages g p n
count_same f g p zero same = refl
count_same f g p (suc n) same = λ i. cond (same p i) (suc (count_same f g (p + 1) n same i)) (count_same f g (p + 1) n same i)

kinds : (one other : FrameKind) → same_kind one other ≡ same_loan (is_loan one) (is_loan other)
kinds Ordinary Ordinary = refl
kinds Ordinary Loaned = refl
kinds Loaned Ordinary = refl
kinds Loaned Loaned = refl

same_look : (kind : FrameKind) (page : Page) → is_held_by kind page ≡ is_framed_by kind (shown (look_at page))
same_look kind Absent = refl
same_look kind (Zero state) = refl
same_look kind (HeldPage frame state) = kinds kind frame.bank.kind

pub held_is : (banks : BankPair) (pages : PageMap) (marks : List Mark) (birth : Birth) (h : List Entry) (kind : FrameKind) → ((p : ℕ) → PageStands banks (page_at pages p) (mark_at marks p) birth h p) → size_of pages ≡ size birth h →
    held_by kind pages ≡ held birth h kind
held_is banks pages marks birth h kind stand sized =
    count_same (λ p. is_held_by kind (page_at pages p)) (λ p. is_framed_by kind (look_of birth h p)) 0 (size_of pages) (λ p. same_look kind (page_at pages p) ∙ ap (is_framed_by kind) (sym (stand p).looks))
    ∙ ap (count_pages (λ p. is_framed_by kind (look_of birth h p)) 0) sized

pub of_counts : (kind : FrameKind) (given back : List Frame) (pages : PageMap) → of_kind kind (counts_of given back pages) ≡ frames_in_all kind given back pages
of_counts Ordinary given back pages = refl
of_counts Loaned given back pages = refl

pub are_own : (banks : BankPair) (brings : FrameKind) (frames : List Frame) → (banks.ordinary.kind ≡ Ordinary) × (banks.loaned.kind ≡ Loaned) → AllAre (bank_of banks brings) frames → AllOwn banks frames
are_own banks brings [] kinds all = tt
are_own banks brings (frame ∷ frames) kinds all = (all.0 ∙ ap (bank_of banks) (sym (kind_given banks brings frame.bank kinds all.0)), are_own banks brings frames kinds all.1)

pub frames_end : (kind : FrameKind) (given back back' : List Frame) (pages : PageMap) (held_now : ℕ) (all : Counts) → counts_of given back pages ≡ all → count_kind kind back' ≡ count_kind kind given + count_kind kind back →
    held_by kind pages ≡ held_now → count_kind kind back' + held_now ≡ of_kind kind all
frames_end kind given back back' pages held_now all same over is =
    let whole : of_kind kind all ≡ count_kind kind given + (count_kind kind back + held_by kind pages) = ap (of_kind kind) (sym same) ∙ of_counts kind given back pages in
    omega arith

parts_own : (banks : BankPair) (xs : List Frame) (frame : Frame) → AllOwn banks (xs ++ frame ∷ []) → AllOwn banks xs × (frame.bank ≡ bank_of banks frame.bank.kind)
parts_own banks [] frame all = (tt, all.0)
parts_own banks (x ∷ xs) frame all = let rest = parts_own banks xs frame all.1 in ((all.0, rest.0), rest.1)

join_own : (banks : BankPair) (xs : List Frame) (frame : Frame) → AllOwn banks xs → frame.bank ≡ bank_of banks frame.bank.kind → AllOwn banks (xs ++ frame ∷ [])
join_own banks [] frame all is = (is, tt)
join_own banks (x ∷ xs) frame all is = (all.0, join_own banks xs frame all.1 is)

pub own_move : (banks : BankPair) (given given' back back' : List Frame) (frame : Frame) → given ≡ given' ++ frame ∷ [] → back' ≡ back ++ frame ∷ [] → AllOwn banks given → AllOwn banks back → AllOwn banks given' × AllOwn banks back'
own_move banks given given' back back' frame taken put all had =
    let parts = parts_own banks given' frame (subst (λ (xs : List Frame). AllOwn banks xs) taken all) in
    (parts.0, subst (λ (xs : List Frame). AllOwn banks xs) (sym put) (join_own banks back frame had parts.1))

pub empty_list : (xs : List Frame) (n m : ℕ) → length xs + n ≡ m → m ≤ n → xs ≡ []
empty_list [] n m is low = refl
empty_list (x ∷ xs) n m is low = absurd (omega arith)

-- The beginning of a call.

undone : (first p : ℕ) → (nat_le first p && nat_lt p first) ≡ false
undone first p = grind (arith, nat_tests)

pub begins : (banks : BankPair) (pages pages' : PageMap) (marks : List Mark) (queue : Queue) (asking asking' : Asking) (tally : Tally) (numbers numbers' : Numbered) (newest leaves spare spare' : ℕ) (birth : Birth) (h h' : List Entry) (e : Entry) (brings : FrameKind) (given back : Stock) (first limit : ℕ) →
    StandsFor banks pages marks queue asking tally numbers newest leaves spare birth h → h' ≡ h → ((p : ℕ) → page_at pages' p ≡ page_at pages p) → size_of pages' ≡ size_of pages → SameAsks asking asking' → numbers'.begins ≡ numbers.begins → first ≤ limit → limit ≤ size birth h →
    AllAre (bank_of banks brings) given.items → back.items ≡ [] → length back.items + (length given.items + (limit - first)) ≤ back.room → limit - first ≤ pages'.spare → leaves_after e.call leaves < spare' →
    length (option_to_list (begin_in e)) ≤ numbers'.spare →
    ChangeStandsFor banks pages' marks brings given back (record { queue = queue; asks = asking'; tally = tally; numbers = numbers'; newest = newest; leaves = leaves; spare = spare' }) birth e h'
    (record { first = first; mark = first; limit = limit; asks = false; spent = false; tally = false; size = false })
begins banks pages pages' marks queue asking asking' tally numbers numbers' newest leaves spare spare' birth h h' e brings given back first limit s same puts sized roomy kept order fits own none room ready enough place = rw same (record {
  legal = s.legal;
  kinds = s.kinds;
  sized = sized ∙ s.sized;
  grown = subst (λ (n : ℕ). n ≤ size_of pages') (sized ∙ s.sized) (omega arith);
  part = record {
    each = λ p. rw (undone first p, puts p) (s.each p);
    marked = let marked = s.marked in omega arith;
    order = omega arith;
    ends = order;
    fits = subst (λ (n : ℕ). limit ≤ n) (sym (sized ∙ s.sized)) fits;
    ready = omega arith;
  };
  stock = record {
    given_own = own;
    back_own = subst (λ (xs : List Frame). AllOwn banks xs) (sym none) tt;
    room = omega arith;
  };
  others = record {
    queued = s.queued;
    wide = subst (λ (n : ℕ). n ≤ queue.room) (sym sized) s.wide;
    asks = roomy_asks asking asking' birth h h s.asks roomy;
    tallied = s.tallied;
    numbered = subst (λ (xs : List Begin). BeginsStand xs h) (sym kept) s.numbered;
    epoch = s.epoch;
    leaving = s.leaving;
    few = s.few;
    room = enough;
    place = place;
  };
})

add_none : (g b n m : ℕ) → b ≡ 0 → n ≡ m → g + (b + n) ≡ g + m
add_none g b n m none same = omega arith

pub none_left : (g b s : ℕ) → g ≡ 0 → g + b ≡ s → b ≡ s
none_left g b s none is = omega arith

pub frames_begin : (kind : FrameKind) (banks : BankPair) (pages pages' : PageMap) (marks : List Mark) (given back : List Frame) (birth : Birth) (h : List Entry) → back ≡ [] →
    ((p : ℕ) → PageStands banks (page_at pages p) (mark_at marks p) birth h p) → size_of pages ≡ size birth h → ((p : ℕ) → page_at pages' p ≡ page_at pages p) → size_of pages' ≡ size_of pages →
    of_kind kind (counts_of given back pages') ≡ count_kind kind given + held birth h kind
frames_begin kind banks pages pages' marks given back birth h none stand sized puts same =
    let now = held_is banks pages' marks birth h kind (λ p. rw (puts p) (stand p)) (same ∙ sized) in
    of_counts kind given back pages' ∙ add_none (count_kind kind given) (count_kind kind back) (held_by kind pages') (held birth h kind) (ap (λ (xs : List Frame). count_kind kind xs) none) now

-- an object for whose call there was no room
pub unopened : (banks : BankPair) (pages pages' : PageMap) (marks : List Mark) (queue : Queue) (asking asking' : Asking) (tally : Tally) (numbers numbers' : Numbered) (newest leaves spare spare' : ℕ) (birth : Birth) (h h' : List Entry) →
    StandsFor banks pages marks queue asking tally numbers newest leaves spare birth h → h' ≡ h → ((p : ℕ) → page_at pages' p ≡ page_at pages p) → size_of pages' ≡ size_of pages → SameAsks asking asking' → numbers'.begins ≡ numbers.begins → spare ≤ spare' →
    StandsFor banks pages' marks queue asking' tally numbers' newest leaves spare' birth h'
unopened banks pages pages' marks queue asking asking' tally numbers numbers' newest leaves spare spare' birth h h' s same puts sized roomy kept more = rw same (record {
  legal = s.legal;
  kinds = s.kinds;
  sized = sized ∙ s.sized;
  each = λ p. rw (puts p) (s.each p);
  marked = subst (λ (n : ℕ). n ≤ length marks) (sym sized) s.marked;
  queued = s.queued;
  wide = subst (λ (n : ℕ). n ≤ queue.room) (sym sized) s.wide;
  asks = roomy_asks asking asking' birth h h s.asks roomy;
  tallied = s.tallied;
  numbered = subst (λ (xs : List Begin). BeginsStand xs h) (sym kept) s.numbered;
  epoch = s.epoch;
  leaving = s.leaving;
  few = s.few;
  room = let room = s.room in omega arith;
})

-- A new object.

first_page : (banks : BankPair) (page : Page) (mark : Mark) (birth : Birth) (p : ℕ) → page ≡ Absent → mark ≡ no_mark → PageStands banks page mark birth [] p
first_page banks page mark birth p gone bare = rw (gone, bare) (record {
  looks = rw (value_none birth (4096 * p)) refl;
  bytes = λ i lt. value_none birth (4096 * p + i);
  owned = tt;
  pinned = refl;
  protected = refl;
  keyed = λ framed. absurd cc;
  numbered = record { dirtied = refl; unzeroed = λ bare. refl };
})

first_seat : (birth : Birth) (p : ℕ) → seat birth [] p ≡ None
first_seat birth p = rw (value_none birth (4096 * p)) refl

no_leaves : (n : ℕ) → n ≡ n - 0
no_leaves n = omega arith

pub first_stands : (banks : BankPair) (pages : PageMap) (marks : List Mark) (queue : Queue) (asking : Asking) (tally : Tally) (numbers : Numbered) (leaves spare : ℕ) (birth : Birth) (h : List Entry) →
    (banks.ordinary.kind ≡ Ordinary) × (banks.loaned.kind ≡ Loaned) → h ≡ [] → size_of pages ≡ birth.pages → ((p : ℕ) → page_at pages p ≡ Absent) → length marks ≡ birth.pages → ((p : ℕ) → mark_at marks p ≡ no_mark) →
    queue.items ≡ [] → birth.pages ≤ queue.room → AsksStand asking birth [] → tally ≡ record { users = birth.users; pagers = birth.pagers; detached = false; modified = false } → numbers.begins ≡ [] → leaves ≡ birth.users + birth.pagers → leaves ≤ 128 → leaves ≤ spare →
    StandsFor banks pages marks queue asking tally numbers 0 leaves spare birth h
first_stands banks pages marks queue asking tally numbers leaves spare birth h kinds none sized gone marked bare empty wide unasked counted unbegun reserve few room = rw (none, counted) (record {
  legal = tt;
  kinds = kinds;
  sized = sized;
  each = λ p. first_page banks (page_at pages p) (mark_at marks p) birth p (gone p) (bare p);
  marked = omega arith;
  queued = λ p. ap (λ (xs : List Queued). find_page xs p) empty ∙ sym (first_seat birth p);
  wide = subst (λ (n : ℕ). n ≤ queue.room) (sym sized) wide;
  asks = unasked;
  tallied = record { acting = refl; paging = refl; cut_off = refl; changed = refl };
  numbered = rw unbegun (record { count = refl; named = λ n. refl });
  epoch = refl;
  leaving = reserve ∙ no_leaves (birth.users + birth.pagers);
  few = few;
  room = room;
})

two_none : (g b n m : ℕ) → g ≡ 0 → b ≡ 0 → n ≡ m → g + (b + n) ≡ m
two_none g b n m none none_too same = omega arith

-- no frames are given, and none come back yet; the pages have the same frames
pub frames_none : (kind : FrameKind) (banks : BankPair) (pages pages' : PageMap) (marks : List Mark) (given back : List Frame) (birth : Birth) (h : List Entry) (whole : Whole) →
    record { birth = birth; journal = h; banks = banks } ≡ whole → given ≡ [] → back ≡ [] → ((p : ℕ) → PageStands banks (page_at pages p) (mark_at marks p) birth h p) → size_of pages ≡ size birth h →
    held_by kind pages' ≡ held_by kind pages → of_kind kind (counts_of given back pages') ≡ held whole.birth whole.journal kind
frames_none kind banks pages pages' marks given back birth h whole is none none_too stand sized same =
    of_counts kind given back pages'
    ∙ two_none (count_kind kind given) (count_kind kind back) (held_by kind pages') (held birth h kind) (ap (λ (xs : List Frame). count_kind kind xs) none) (ap (λ (xs : List Frame). count_kind kind xs) none_too)
    (same ∙ held_is banks pages marks birth h kind stand sized)
    ∙ ap (λ (v : Whole). held v.birth v.journal kind) is
