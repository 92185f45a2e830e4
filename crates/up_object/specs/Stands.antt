-- When the parts of an object stand for its journal: asked pages, what is counted, and which pages the queues have.
use Rattle.std.specs.Prelude.{◌≡◌, ℕ, ◌+◌, ◌-◌, ◌≤◌, ◌==◌, ◌&&◌, not, Bool, true, false, cond, Option, Some, None, List, [], ◌∷◌, length, suc}
use Rattle.up_num.specs.Pages.{page_number}
use Rattle.up_num.specs.declared.answers.AskKind.TheVariants.{Dirty as DirtyAsk}
use Rattle.up_bank.specs.declared.kind.FrameKind.TheVariants.{Ordinary, Loaned}
use Rattle.up_asks.specs.Asking.{Asking, asked_in}
use Rattle.up_pages.specs.Pages.{PageMap, page_at, size_of, look_of as look_at}
use Rattle.up_queues.specs.declared.queued.Queued.{Queued}
use Rattle.up_queues.specs.Queue.{Queue, find_page}
use Rattle.up_model.specs.Size.{size}
use Rattle.up_model.specs.Roles.{users, pagers, was_detached}
use Rattle.up_model.specs.Use.{last_use, cold_since, generation, newest_epoch}
use Rattle.up_model.specs.Order.{loose}
use Rattle.up_model.specs.Modified.{modified}
use Rattle.up_model.specs.Legal.{Legal}
use Rattle.up_model.specs.Looks.{PageLook, is_spare}
use Rattle.up_model.specs.declared.entry.Birth.{Birth}
use Rattle.up_model.specs.declared.entry.Call.{Call}
use Rattle.up_model.specs.declared.entry.Call.TheVariants.{Leave}
use Rattle.up_model.specs.declared.entry.Entry.{Entry}
use Rattle.up_object.specs.declared.marks.Mark.{Mark}
use Rattle.up_object.specs.declared.marks.Key.{Key}
use Rattle.up_object.specs.declared.tally.Tally.{Tally as TallyValue}
use Rattle.up_object.specs.Asks.{AsksStand}
use Rattle.up_object.specs.Numbers.{Numbered, BeginsStand}
use Rattle.up_object.specs.Parts.{BankPair, PageStands, mark_at, shown}

abbrev pub Tally : Type 0
Tally = TallyValue

-- who acts, whether a detach was accepted, and whether the object was changed
pub record TallyStands (tally : Tally) (birth : Birth) (h : List Entry) : Type 0 where
  pub acting : tally.users ≡ users birth h
  pub paging : tally.pagers ≡ pagers birth h
  pub cut_off : tally.detached ≡ was_detached h
  pub changed : tally.modified ≡ modified birth h

abbrev pub is_leave : Call → Bool
is_leave (Leave role) = true
is_leave _ = false

-- how many leaves there were, refused ones included
abbrev pub leave_calls : List Entry → ℕ
leave_calls [] = 0
leave_calls (e ∷ before) = cond (is_leave e.call) (suc (leave_calls before)) (leave_calls before)

-- how many entries are reserved for leaves: one for each user and pager of the birth, less the leaves
abbrev pub reserved : Birth → List Entry → ℕ
reserved birth h = birth.users + birth.pagers - leave_calls h

abbrev pub leaves_after : Call → ℕ → ℕ
leaves_after call leaves = cond (is_leave call) (leaves - 1) leaves

abbrev pub position_of : Option ℕ → ℕ
position_of None = 0
position_of (Some place) = place

-- what the queues have of a page that may be evicted
abbrev pub queued : Birth → List Entry → ℕ → Queued
queued birth h p = record { page = page_number p; generation = generation birth h p; place = position_of (last_use birth h p); cold = cold_since birth h p }

abbrev pub seat : Birth → List Entry → ℕ → Option Queued
seat birth h p = cond (loose birth h p) (Some (queued birth h p)) None

-- a page with this mark, that is asked for with DIRTY or not, may be evicted
abbrev pub may_go : PageLook → Mark → Bool → Bool
may_go look mark asks = is_spare look && ((mark.pins == 0) && (not mark.always && not asks))

abbrev pub keyed_item : ℕ → Key → Queued
keyed_item p key = record { page = page_number p; generation = key.generation; place = key.used; cold = key.cold }

-- what the queues are to have of a page
abbrev pub item_of : PageMap → List Mark → Asking → ℕ → Option Queued
item_of pages marks asks p =
    cond (may_go (shown (look_at (page_at pages p))) (mark_at marks p) (asked_in asks DirtyAsk p)) (Some (keyed_item p (mark_at marks p).key)) None

-- the parts of an object stand for its journal, which is legal
pub record StandsFor (banks : BankPair) (pages : PageMap) (marks : List Mark) (queue : Queue) (asking : Asking) (tally : Tally) (numbers : Numbered) (newest leaves spare : ℕ) (birth : Birth) (h : List Entry) : Type 0 where
  pub legal : Legal birth h
  pub kinds : (banks.ordinary.kind ≡ Ordinary) × (banks.loaned.kind ≡ Loaned)
  pub sized : size_of pages ≡ size birth h
  pub each : (p : ℕ) → PageStands banks (page_at pages p) (mark_at marks p) birth h p
  pub marked : size_of pages ≤ length marks
  pub queued : (p : ℕ) → find_page queue.items p ≡ seat birth h p
  pub wide : size_of pages ≤ queue.room
  pub asks : AsksStand asking birth h
  pub tallied : TallyStands tally birth h
  pub numbered : BeginsStand numbers.begins h
  pub epoch : newest_epoch h ≡ newest
  pub leaving : leaves ≡ reserved birth h
  pub few : leaves ≤ 128
  pub room : leaves ≤ spare
