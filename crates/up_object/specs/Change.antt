-- An object in the middle of a call. The call's pages go one by one, at a mark, from the journal before the call's entry to
-- the journal with it. Frames that were given wait to be used, and those that come back wait to be handed over.
use Rattle.std.specs.Prelude.{◌≡◌, ℕ, ◌+◌, ◌-◌, ◌<◌, ◌≤◌, ◌&&◌, Bool, true, false, cond, List, [], ◌∷◌, length, option_to_list, nat_le, nat_lt}
use Rattle.up_bank.specs.Standing.{BankId, Held as Frame}
use Rattle.up_bank.specs.declared.kind.FrameKind.{FrameKind}
use Rattle.up_bank.specs.declared.kind.FrameKind.TheVariants.{Ordinary, Loaned}
use Rattle.up_asks.specs.Asking.{Asking}
use Rattle.up_pages.specs.Frames.{Stock, count_kind}
use Rattle.up_pages.specs.Pages.{PageMap, page_at, size_of, held_by}
use Rattle.up_queues.specs.Queue.{Queue, find_page}
use Rattle.up_model.specs.Size.{size}
use Rattle.up_model.specs.Use.{newest_epoch}
use Rattle.up_num.specs.declared.answers.AskKind.TheVariants.{Dirty as DirtyAsk}
use Rattle.up_model.specs.Asks.{asked}
use Rattle.up_model.specs.Legal.{Legal}
use Rattle.up_model.specs.declared.entry.Birth.{Birth}
use Rattle.up_model.specs.declared.entry.Entry.{Entry}
use Rattle.up_object.specs.declared.marks.Mark.{Mark}
use Rattle.up_object.specs.Parts.{BankPair, bank_of, PageStands, mark_at}
use Rattle.up_object.specs.Whole.{Whole}
use Rattle.up_object.specs.Numbers.{Numbered, BeginsStand, begin_in}
use Rattle.up_object.specs.Asks.{AskRoom, AsksStandFor}
use Rattle.up_object.specs.Stands.{Tally, TallyStands, seat, reserved, leaves_after}

-- how far a call has come: its pages are those from `first` up to `limit`, and those below `mark` are done; then what else is done
pub record CallProgress : Type 0 where
  pub first : ℕ
  pub mark : ℕ
  pub limit : ℕ
  pub asks : Bool
  pub spent : Bool
  pub tally : Bool
  pub size : Bool

-- how many frames there are of each kind
pub record Counts : Type 0 where
  pub ordinary : ℕ
  pub loaned : ℕ

abbrev pub of_kind : FrameKind → Counts → ℕ
of_kind Ordinary counts = counts.ordinary
of_kind Loaned counts = counts.loaned

-- the frames of a kind that were given and wait, that come back, and that pages hold
abbrev pub frames_in_all : FrameKind → List Frame → List Frame → PageMap → ℕ
frames_in_all kind given back pages = count_kind kind given + (count_kind kind back + held_by kind pages)

abbrev pub counts_of : List Frame → List Frame → PageMap → Counts
counts_of given back pages = record { ordinary = frames_in_all Ordinary given back pages; loaned = frames_in_all Loaned given back pages }

-- what contracts see of it. No call changes the number of frames of a kind.
pub record Change : Type 0 where
  pub birth : Birth
  pub journal : List Entry
  pub entry : Entry
  pub banks : BankPair
  pub brings : FrameKind
  pub done : CallProgress
  pub pages : ℕ
  pub given : ℕ
  pub frames : Counts
  pub room : AskRoom

-- the page is one of those that are done
abbrev pub is_done : CallProgress → ℕ → Bool
is_done done p = nat_le done.first p && nat_lt p done.mark

-- the journal that a part stands for
abbrev pub up_to : Bool → Entry → List Entry → List Entry
up_to done e h = cond done (e ∷ h) h

-- one page further
abbrev pub next_done : CallProgress → CallProgress
next_done done = record done { mark = done.mark + 1 }

abbrev pub next : Change → Change
next change = record change { done = next_done change.done }

-- one page further, with a given frame used where this is so
abbrev pub next_using : Bool → Change → Change
next_using uses change = record change { done = next_done change.done; given = change.given - cond uses 1 0 }

-- each page stands for the journal before the entry, or with it where it is done
pub record PagesStand (banks : BankPair) (pages : PageMap) (marks : List Mark) (birth : Birth) (e : Entry) (h : List Entry) (done : CallProgress) : Type 0 where
  pub each : (p : ℕ) → PageStands banks (page_at pages p) (mark_at marks p) birth (up_to (is_done done p) e h) p
  pub marked : size_of pages ≤ length marks
  pub order : done.first ≤ done.mark
  pub ends : done.mark ≤ done.limit
  pub fits : done.limit ≤ size_of pages
  pub ready : done.limit ≤ done.mark + pages.spare

-- each frame is of this bank
abbrev pub AllAre : BankId → List Frame → Type 0
AllAre bank [] = Unit {0}
AllAre bank (frame ∷ frames) = (frame.bank ≡ bank) × AllAre bank frames

-- each frame is of one of the two banks, by its kind
abbrev pub AllOwn : BankPair → List Frame → Type 0
AllOwn banks [] = Unit {0}
AllOwn banks (frame ∷ frames) = (frame.bank ≡ bank_of banks frame.bank.kind) × AllOwn banks frames

-- the frames that were given are of the bank of their kind, those that come back are of one of the two, and there is room for the one
-- frame that each page that is left may bring, and for all that were given
pub record FramesStand (banks : BankPair) (brings : FrameKind) (given back : Stock) (done : CallProgress) : Type 0 where
  pub given_own : AllAre (bank_of banks brings) given.items
  pub back_own : AllOwn banks back.items
  pub room : length back.items + length given.items + done.limit ≤ back.room + done.mark

-- a page keeps its place in the queues: it wasn't changed, and it is asked for with DIRTY as before
pub record Rests (birth : Birth) (e : Entry) (h : List Entry) (done : CallProgress) (p : ℕ) : Type 0 where
  pub undone : is_done done p ≡ false
  pub unasked : asked birth (e ∷ h) DirtyAsk p ≡ asked birth h DirtyAsk p

-- what an object keeps beside its pages and their marks
pub record Rest : Type 0 where
  pub queue : Queue
  pub asks : Asking
  pub tally : Tally
  pub numbers : Numbered
  pub newest : ℕ
  pub leaves : ℕ
  pub spare : ℕ

-- it stands for the journal before the entry, or with it where it is done; the queues and the begins wait for the end of the call, and
-- there is room for the entry, and for the begin that it gives a number
pub record RestStands (rest : Rest) (pages : ℕ) (birth : Birth) (e : Entry) (h : List Entry) (done : CallProgress) : Type 0 where
  pub queued : (p : ℕ) → find_page rest.queue.items p ≡ seat birth h p
  pub wide : pages ≤ rest.queue.room
  pub asks : AsksStandFor rest.asks birth (up_to done.asks e h) (up_to done.spent e h)
  pub tallied : TallyStands rest.tally birth (up_to done.tally e h)
  pub numbered : BeginsStand rest.numbers.begins h
  pub epoch : newest_epoch h ≡ rest.newest
  pub leaving : rest.leaves ≡ reserved birth h
  pub few : rest.leaves ≤ 128
  pub room : leaves_after e.call rest.leaves < rest.spare
  pub place : length (option_to_list (begin_in e)) ≤ rest.numbers.spare

pub record ChangeStandsFor (banks : BankPair) (pages : PageMap) (marks : List Mark) (brings : FrameKind) (given back : Stock) (rest : Rest)
    (birth : Birth) (e : Entry) (h : List Entry) (done : CallProgress) : Type 0 where
  pub legal : Legal birth h
  pub kinds : (banks.ordinary.kind ≡ Ordinary) × (banks.loaned.kind ≡ Loaned)
  pub sized : size_of pages ≡ size birth (up_to done.size e h)
  pub grown : size birth h ≤ size_of pages
  pub part : PagesStand banks pages marks birth e h done
  pub stock : FramesStand banks brings given back done
  pub others : RestStands rest (size_of pages) birth e h done

-- an object at the beginning of a call, with no page done
abbrev pub opened : Whole → Entry → FrameKind → Stock → ℕ → ℕ → Counts → AskRoom → Change
opened whole e brings given first limit frames room = record {
  birth = whole.birth;
  journal = whole.journal;
  entry = e;
  banks = whole.banks;
  brings = brings;
  done = record { first = first; mark = first; limit = limit; asks = false; spent = false; tally = false; size = false };
  pages = size whole.birth whole.journal;
  given = length given.items;
  frames = frames;
  room = room;
}

-- all pages below this one are done
abbrev pub at_mark : ℕ → Change → Change
at_mark mark change = record change { done = record change.done { mark = mark } }

-- the tally stands for the journal with the entry
abbrev pub tally_set : Change → Change
tally_set change = record change { done = record change.done { tally = true } }

-- a call that is given no frames
abbrev pub no_frames : Stock
no_frames = record { items = []; room = 0 }

-- an object at the beginning of a call that brings pages, which are absent still
abbrev pub grown : Whole → Entry → ℕ → Counts → AskRoom → Change
grown whole e pages frames room =
    let change = opened whole e Ordinary no_frames (size whole.birth whole.journal) pages frames room in
    record change { pages = pages; done = record change.done { size = true } }
