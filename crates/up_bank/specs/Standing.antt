-- What contracts see of a bank, its seats and its frames.
use Rattle.std.specs.Prelude.{ℕ, Bool, true, false, List, [], replicate}
use Rattle.atomic_table.specs.Seated.{TableId}
use Rattle.up_bank.specs.Bytes.{Given}
use Rattle.up_bank.specs.Find.{Find}
use Rattle.up_bank.specs.declared.kind.FrameKind.{FrameKind}

-- which bank it is, and the kind of its frames
pub record BankId : Type 0 where
  pub table : TableId
  pub kind : FrameKind

-- how many frames a bank has
abbrev pub frames_of : BankId → ℕ
frames_of bank = bank.table.slots

-- how many frames a bank may have, of either kind
abbrev pub most_frames : ℕ
most_frames = 131072

-- a seat: its bank, whether that never had another seat, frames' own aside, for such a seat 1 for each frame at home and 0 for each other, what its looks at the bitmap found, in order, and the returns that it knows of, the newest first
pub record Standing : Type 0 where
  pub bank : BankId
  pub sole : Bool
  pub home : List ℕ
  pub finds : List Find
  pub gives : List Given

-- a frame that is out
pub record Held : Type 0 where
  pub bank : BankId
  pub number : ℕ
  pub bytes : List ℕ

-- the only seat of a new bank, whose frames are all at home
abbrev pub first_seat : BankId → Standing
first_seat bank = record { bank = bank; sole = true; home = replicate (frames_of bank) 1; finds = []; gives = [] }

-- a second seat, made from one that knows these returns
abbrev pub second_seat : BankId → List Given → Standing
second_seat bank gives = record { bank = bank; sole = false; home = []; finds = []; gives = gives }
