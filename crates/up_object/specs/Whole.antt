-- What contracts see of an object: its birth, its journal, newest entry first, and the banks of its frames.
use Rattle.std.specs.Prelude.{ℕ, Bool, true, false, List, ◌∷◌}
use Rattle.up_bank.specs.declared.kind.FrameKind.{FrameKind}
use Rattle.up_span.specs.Pages.{count_pages}
use Rattle.up_model.specs.Size.{size}
use Rattle.up_model.specs.Looks.{PageLook, Framed, look_of}
use Rattle.up_model.specs.Legal.{Life, due}
use Rattle.up_model.specs.declared.entry.Birth.{Birth}
use Rattle.up_model.specs.declared.entry.Call.{Call}
use Rattle.up_model.specs.declared.entry.Entry.{Entry}
use Rattle.up_object.specs.Parts.{BankPair, is_loan}

pub record Whole : Type 0 where
  pub birth : Birth
  pub journal : List Entry
  pub banks : BankPair

abbrev pub life_of : Whole → Life
life_of whole = record { birth = whole.birth; journal = whole.journal }

-- the object with this entry more
abbrev pub with_entry : Whole → Entry → Whole
with_entry whole e = record whole { journal = e ∷ whole.journal }

-- the object after a call: its journal has the entry with the reply that is due more
abbrev pub after : Whole → ℕ → ℕ → Call → Whole
after whole who epoch call = with_entry whole (due (life_of whole) who epoch call)

abbrev pub same_loan : Bool → Bool → Bool
same_loan true one = one
same_loan _ true = false
same_loan _ _ = true

-- the page has a frame of this kind
abbrev pub is_framed_by : FrameKind → PageLook → Bool
is_framed_by kind (Framed state loan) = same_loan (is_loan kind) loan
is_framed_by kind _ = false

-- how many pages have a frame of this kind
abbrev pub held : Birth → List Entry → FrameKind → ℕ
held birth h kind = count_pages (λ p. is_framed_by kind (look_of birth h p)) 0 (size birth h)
