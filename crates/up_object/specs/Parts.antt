-- What an object keeps, as plain values, and when a page of it stands for a journal.
use Rattle.std.specs.Prelude.{◌≡◌, ℕ, ◌+◌, ◌*◌, ◌<◌, Bool, true, false, Option, Some, None, List, length, slice_index_or, get_or}
use Rattle.up_num.specs.declared.answers.PageState.{PageState}
use Rattle.up_num.specs.declared.answers.PageState.TheVariants.{Clean}
use Rattle.up_bank.specs.Standing.{BankId, Held as Frame}
use Rattle.up_bank.specs.declared.kind.FrameKind.{FrameKind}
use Rattle.up_bank.specs.declared.kind.FrameKind.TheVariants.{Ordinary, Loaned}
use Rattle.up_pages.specs.declared.page.Page.{Page}
use Rattle.up_pages.specs.declared.page.Page.TheVariants.{Absent, Zero, Held as HeldPage}
use Rattle.up_pages.specs.declared.page.Look.{Look}
use Rattle.up_pages.specs.declared.page.Look.TheVariants as look
use Rattle.up_pages.specs.Pages.{look_of as look_at}
use Rattle.up_model.specs.Value.{value}
use Rattle.up_model.specs.Pins.{pins, always}
use Rattle.up_model.specs.Use.{last_use, cold_since, generation}
use Rattle.up_model.specs.Looks.{PageLook, Missing, Zeros, Framed, look_of, has_frame}
use Rattle.up_model.specs.declared.entry.Birth.{Birth}
use Rattle.up_model.specs.declared.entry.Entry.{Entry}
use Rattle.up_object.specs.declared.marks.Mark.{Mark}
use Rattle.up_object.specs.declared.marks.Key.{Key}
use Rattle.up_object.specs.Numbers.{NumbersStand}

-- the banks that an object was born with
pub record BankPair : Type 0 where
  pub ordinary : BankId
  pub loaned : BankId

abbrev pub is_loan : FrameKind → Bool
is_loan Ordinary = false
is_loan Loaned = true

-- the bank of this kind
abbrev pub bank_of : BankPair → FrameKind → BankId
bank_of banks Ordinary = banks.ordinary
bank_of banks Loaned = banks.loaned

-- what a look at a page says that it is
abbrev pub shown : Look → PageLook
shown look.Absent = Missing
shown (look.Zero state) = Zeros state
shown (look.Held state kind) = Framed state (is_loan kind)

-- the state of a page that is there
abbrev pub state_shown : PageLook → PageState
state_shown Missing = Clean
state_shown (Zeros state) = state
state_shown (Framed state loan) = state

-- the byte at place i of a page
abbrev pub content : Page → ℕ → Option ℕ
content Absent i = None
content (Zero state) i = Some 0
content (HeldPage frame state) i = Some (get_or frame.bytes i 0)

-- a frame is of one of the two banks by its kind, and has a page's bytes
pub record IsOwn (banks : BankPair) (frame : Frame) : Type 0 where
  pub bank : frame.bank ≡ bank_of banks frame.bank.kind
  pub whole : length frame.bytes ≡ 4096

abbrev pub HasOwn : BankPair → Page → Type 0
HasOwn banks Absent = Unit {0}
HasOwn banks (Zero state) = Unit {0}
HasOwn banks (HeldPage frame state) = IsOwn banks frame

-- the mark of a page that has none
abbrev pub no_mark : Mark
no_mark = record { pins = 0; always = false; key = record { used = 0; generation = 0; cold = None }; dirtied = 0; unzeroed = 0 }

abbrev pub mark_at : List Mark → ℕ → Mark
mark_at marks p = slice_index_or marks p no_mark

-- last use, age and since when cold, of a page that has a frame
pub record KeyStands (key : Key) (birth : Birth) (h : List Entry) (p : ℕ) : Type 0 where
  pub place : last_use birth h p ≡ Some key.used
  pub aged : generation birth h p ≡ key.generation
  pub chilled : cold_since birth h p ≡ key.cold

-- what is kept of page p is what the journal says of it: for every number p, past the object's end too
pub record PageStands (banks : BankPair) (page : Page) (mark : Mark) (birth : Birth) (h : List Entry) (p : ℕ) : Type 0 where
  pub looks : look_of birth h p ≡ shown (look_at page)
  pub bytes : (i : ℕ) → i < 4096 → value birth h (4096 * p + i) ≡ content page i
  pub owned : HasOwn banks page
  pub pinned : pins h p ≡ mark.pins
  pub protected : always birth h p ≡ mark.always
  pub keyed : has_frame (shown (look_at page)) ≡ true → KeyStands mark.key birth h p
  pub numbered : NumbersStand mark birth h p
