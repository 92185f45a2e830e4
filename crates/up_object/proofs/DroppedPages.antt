-- Pages of a list go: what is left of an object stands for the journal with the entry that took them away.
use Rattle.std.proofs.Common.{◌≡◌, ℕ, ◌+◌, ◌-◌, ◌<◌, ◌≤◌, ◌==◌, ◌&&◌, ◌||◌, Bool, true, false, cond, Option, Some, None, List, [], ◌∷◌, ◌++◌, length, suc, drop, refl, ap, sym, ◌∙◌, arith}
use Rattle.std.specs.Prelude.{max, option_to_list, slice_index_or}
use Rattle.std.proofs.Math.Seq.{drop-cons}
use Rattle.std.proofs.lemmas.List.{length-append}
use Rattle.up_num.specs.declared.pages.PageNo.{PageNo}
use Rattle.up_num.specs.declared.answers.AskKind.TheVariants.{Dirty as DirtyAsk}
use Rattle.up_bank.specs.Standing.{Held as Frame}
use Rattle.up_bank.specs.declared.kind.FrameKind.{FrameKind}
use Rattle.up_pages.specs.Frames.{count_kind}
use Rattle.up_pages.specs.declared.page.Page.{Page}
use Rattle.up_pages.specs.declared.page.Page.TheVariants.{Absent}
use Rattle.up_pages.specs.Pages.{PageMap, page_at, size_of, frame_of, held_by, look_of as look_at}
use Rattle.up_queues.specs.declared.queued.Queued.{Queued}
use Rattle.up_queues.specs.Queue.{Queue, find_page}
use Rattle.up_model.specs.Deeds.{has_page}
use Rattle.up_model.specs.Size.{size}
use Rattle.up_model.specs.States.{plain}
use Rattle.up_model.specs.Asks.{asked}
use Rattle.up_model.specs.Order.{loose}
use Rattle.up_model.specs.Concerns.{concerns, keeps_asks, keeps_spent, keeps_roles, keeps_modified, keeps_size}
use Rattle.up_model.specs.Changes.{Goes, IsDue}
use Rattle.up_model.specs.declared.entry.Birth.{Birth}
use Rattle.up_model.specs.declared.entry.Entry.{Entry}
use Rattle.up_model.proofs.UnconcernedPages.{untouched}
use Rattle.up_model.proofs.Kept.{kept_asks, kept_size}
use Rattle.up_asks.specs.Asking.{Asking}
use Rattle.up_object.specs.declared.marks.Mark.{Mark}
use Rattle.up_object.specs.Numbers.{Numbered, begin_in}
use Rattle.up_object.proofs.PageNumbers.{zeros_is}
use Rattle.up_object.proofs.BeginLists.{begins_next}
use Rattle.up_object.specs.Parts.{BankPair, PageStands, HasOwn, mark_at, shown}
use Rattle.up_object.specs.Stands.{Tally, seat, queued, leaves_after, leave_calls, StandsFor}
use Rattle.up_object.specs.Change.{AllOwn}
use Rattle.up_object.specs.Whole.{held}
use Rattle.up_object.proofs.PageAtMark.{drops_page, keeps_page, own_append, own_page, one_at_most}
use Rattle.up_object.proofs.Seats.{loose_is, seat_stays}
use Rattle.up_object.proofs.Waits.{asks_end}
use Rattle.up_object.proofs.CallEnds.{tally_end, leaves_end, less_few, held_is}

-- a page that goes isn't loose
seat_gone : (birth : Birth) (e : Entry) (h : List Entry) (p : ℕ) → Goes birth e h p → seat birth (e ∷ h) p ≡ None
seat_gone birth e h p t =
    let firm : loose birth (e ∷ h) p ≡ false = loose_is birth (e ∷ h) p ∙ rw t.looks refl in
    ap (λ b. cond b (Some (queued birth (e ∷ h) p)) None) firm

-- what becomes of one page, by whether the list has it
page_left : (banks : BankPair) (page : Page) (mark : Mark) (birth : Birth) (e : Entry) (h : List Entry) (p : ℕ) (listed : Bool) → PageStands banks page mark birth h p →
    (listed ≡ true → Goes birth e h p) → (listed ≡ true → plain birth h p ≡ false) → (listed ≡ false → concerns birth h e p ≡ false) → PageStands banks (cond listed Absent page) mark birth (e ∷ h) p
page_left banks page mark birth e h p true s goes bare rests =
    drops_page banks page mark mark birth e h p s (goes refl) (rw (zeros_is birth h p (shown (look_at page)) s.looks ∙ bare refl) refl)
page_left banks page mark birth e h p false s goes bare rests = keeps_page banks page mark birth e h p s (untouched birth e h p (rests refl))

seat_left : (birth : Birth) (e : Entry) (h : List Entry) (p : ℕ) (listed : Bool) (found : Option Queued) → found ≡ seat birth h p → asked birth (e ∷ h) DirtyAsk p ≡ asked birth h DirtyAsk p →
    (listed ≡ true → Goes birth e h p) → (listed ≡ false → concerns birth h e p ≡ false) → cond listed None found ≡ seat birth (e ∷ h) p
seat_left birth e h p true found was unasked goes rests = sym (seat_gone birth e h p (goes refl))
seat_left birth e h p false found was unasked goes rests = was ∙ sym (seat_stays birth e h p (untouched birth e h p (rests refl)) unasked)

-- what an entry says of the pages of a list, and of the rest
pub record Takes (birth : Birth) (e : Entry) (h : List Entry) (list : List PageNo) : Type 0 where
  pub goes : (p : ℕ) → has_page list p ≡ true → Goes birth e h p
  pub bare : (p : ℕ) → has_page list p ≡ true → plain birth h p ≡ false
  pub rests : (p : ℕ) → has_page list p ≡ false → concerns birth h e p ≡ false
  pub asks : keeps_asks e ≡ true
  pub spent : keeps_spent e ≡ true
  pub tally : (keeps_roles e && keeps_modified e) ≡ true
  pub size : keeps_size e ≡ true
  pub due : IsDue birth e h

-- the pages of the list are taken out of the page list and of the queue
pub record Taken (pages pages' : PageMap) (queue queue' : Queue) (list : List PageNo) : Type 0 where
  pub puts : (p : ℕ) → page_at pages' p ≡ cond (has_page list p) Absent (page_at pages p)
  pub sized : size_of pages' ≡ size_of pages
  pub finds : (p : ℕ) → find_page queue'.items p ≡ cond (has_page list p) None (find_page queue.items p)
  pub room : queue'.room ≡ queue.room

pages_left : (banks : BankPair) (pages pages' : PageMap) (marks : List Mark) (queue queue' : Queue) (birth : Birth) (e : Entry) (h : List Entry) (list : List PageNo) →
    ((p : ℕ) → PageStands banks (page_at pages p) (mark_at marks p) birth h p) → Takes birth e h list → Taken pages pages' queue queue' list →
    (p : ℕ) → PageStands banks (page_at pages' p) (mark_at marks p) birth (e ∷ h) p
pages_left banks pages pages' marks queue queue' birth e h list stand takes taken p =
    rw (taken.puts p) (page_left banks (page_at pages p) (mark_at marks p) birth e h p (has_page list p) (stand p) (takes.goes p) (takes.bare p) (takes.rests p))

pub evicted : (banks : BankPair) (pages pages' : PageMap) (marks : List Mark) (queue queue' : Queue) (asking : Asking) (tally : Tally) (numbers numbers' : Numbered) (newest newest' leaves leaves' spare spare' room : ℕ) (birth : Birth) (e : Entry) (h h' : List Entry) (list : List PageNo) →
    StandsFor banks pages marks queue asking tally numbers newest leaves spare birth h → Takes birth e h list → Taken pages pages' queue queue' list →
    numbers'.begins ≡ numbers.begins ++ option_to_list (begin_in e) → newest' ≡ max e.epoch newest → leaves' ≡ leaves_after e.call leaves → leaves' < room → spare' ≡ room - 1 → h' ≡ e ∷ h →
    StandsFor banks pages' marks queue' asking tally numbers' newest' leaves' spare' birth h'
evicted banks pages pages' marks queue queue' asking tally numbers numbers' newest newest' leaves leaves' spare spare' room birth e h h' list s takes taken adds newer left enough less is =
    let same = kept_asks birth e h takes.asks in
    rw is (record {
      legal = (s.legal, takes.due.properly, takes.due.answer);
      kinds = s.kinds;
      sized = taken.sized ∙ s.sized ∙ sym (kept_size birth e h takes.size);
      each = pages_left banks pages pages' marks queue queue' birth e h list s.each takes taken;
      marked = let marked = s.marked in let sized = taken.sized in omega arith;
      queued = λ p. taken.finds p ∙ seat_left birth e h p (has_page list p) (find_page queue.items p) (s.queued p) (same.pages DirtyAsk p) (takes.goes p) (takes.rests p);
      wide = let wide = s.wide in let sized = taken.sized in let room = taken.room in omega arith;
      asks = asks_end asking birth e h false false s.asks (λ q. takes.asks) (λ q. takes.spent);
      tallied = tally_end tally birth e h false s.tallied (λ q. takes.tally);
      numbered = begins_next numbers.begins numbers'.begins birth e h (s.legal, takes.due.properly, takes.due.answer) s.numbered adds;
      epoch = ap (max e.epoch) s.epoch ∙ sym newer;
      leaving = left ∙ ap (leaves_after e.call) s.leaving ∙ leaves_end e.call (birth.users + birth.pagers) (leave_calls h);
      few = less_few e.call leaves' leaves left s.few;
      room = omega arith;
    })

-- Frames.

pub evicted_frames : (kind : FrameKind) (banks : BankPair) (pages middle pages' : PageMap) (marks : List Mark) (queue queue' : Queue) (back back' : List Frame) (birth : Birth) (e : Entry) (h : List Entry) (list : List PageNo) →
    ((p : ℕ) → PageStands banks (page_at pages p) (mark_at marks p) birth h p) → size_of pages ≡ size birth h → ((p : ℕ) → page_at middle p ≡ page_at pages p) → size_of middle ≡ size_of pages →
    Takes birth e h list → Taken pages pages' queue queue' list → back ≡ [] → count_kind kind back' + held_by kind pages' ≡ count_kind kind back + held_by kind middle →
    count_kind kind back' + held birth (e ∷ h) kind ≡ held birth h kind
evicted_frames kind banks pages middle pages' marks queue queue' back back' birth e h list stand sized puts same takes taken none over =
    let before : held_by kind middle ≡ held birth h kind = held_is banks middle marks birth h kind (λ p. rw (puts p) (stand p)) (same ∙ sized) in
    let now : held_by kind pages' ≡ held birth (e ∷ h) kind =
    held_is banks pages' marks birth (e ∷ h) kind (pages_left banks pages pages' marks queue queue' birth e h list stand takes taken) (taken.sized ∙ sized ∙ sym (kept_size birth e h takes.size)) in
    let empty : count_kind kind back ≡ 0 = ap (λ (xs : List Frame). count_kind kind xs) none in
    omega arith

-- One page of the list after the other.

-- what is to come, after the next page
next_listed : {T : Type 0} (first rest : Bool) (gone old new : T) → new ≡ cond first gone old → cond rest gone new ≡ cond (first || rest) gone old
next_listed true true gone old new is = refl
next_listed true false gone old new is = is
next_listed false true gone old new is = refl
next_listed false false gone old new is = is

pub puts_next : {T : Type 0} (list : List PageNo) (place : ℕ) (d : PageNo) (p : ℕ) (gone old new whole : T) → place < length list → new ≡ cond ((slice_index_or list place d).0 == p) gone old →
    cond (has_page (drop place list) p) gone old ≡ whole → cond (has_page (drop (place + 1) list) p) gone new ≡ whole
puts_next list place d p gone old new whole short is was =
    let step : place + 1 ≡ suc place = omega arith in
    ap (λ n. cond (has_page (drop n list) p) gone new) step
    ∙ next_listed ((slice_index_or list place d).0 == p) (has_page (drop (suc place) list) p) gone old new is
    ∙ ap (λ xs. cond (has_page xs p) gone old) (sym (drop-cons list place d short)) ∙ was

own_left : (banks : BankPair) (page : Page) (gone : Bool) → HasOwn banks page → HasOwn banks (cond gone Absent page)
own_left banks page true own = tt
own_left banks page false own = own

pub owns_left : (banks : BankPair) (pages pages' : PageMap) (q : ℕ) → ((p : ℕ) → page_at pages' p ≡ cond (q == p) Absent (page_at pages p)) → ((p : ℕ) → HasOwn banks (page_at pages p)) → (p : ℕ) → HasOwn banks (page_at pages' p)
owns_left banks pages pages' q puts own p = rw (puts p) (own_left banks (page_at pages p) (q == p) (own p))

pub owns_back : (banks : BankPair) (page : Page) (back back' : List Frame) → HasOwn banks page → AllOwn banks back → back' ≡ back ++ option_to_list (frame_of page) → AllOwn banks back'
owns_back banks page back back' own had is = rw is (own_append banks back (option_to_list (frame_of page)) had (own_page banks page own))

pub room_next : (back back' : List Frame) (page : Page) (room room' left : ℕ) → back' ≡ back ++ option_to_list (frame_of page) → room' ≡ room → length back + suc left ≤ room → length back' + left ≤ room'
room_next back back' page room room' left is same enough =
    let few = one_at_most (frame_of page) in
    let long : length back' ≡ length back + length (option_to_list (frame_of page)) = ap length is ∙ length-append back (option_to_list (frame_of page)) in
    omega arith
