-- The calls that the functions of this crate do.
use Rattle.std.specs.Prelude.{◌≡◌, ℕ, ◌==◌, Bool, true, false, Option, Some, None, is_some, List, [], length}
use Rattle.up_num.specs.declared.pages.Piece.{Piece}
use Rattle.up_num.specs.declared.pages.PageNo.{PageNo}
use Rattle.up_model.specs.Attempts.{Access, parked}
use Rattle.up_model.specs.Tickets.{owner, spent}
use Rattle.up_model.specs.Reply.{within_page}
use Rattle.up_model.specs.declared.entry.Brought.{Brought}
use Rattle.up_model.specs.declared.entry.Entry.{Entry}
use Rattle.up_model.specs.declared.entry.Call.{Call}
use Rattle.up_model.specs.declared.entry.Call.TheVariants.{Read, Write, Retry}
use Rattle.up_fault.specs.declared.reading.Reading.{Reading}
use Rattle.up_fault.specs.declared.writing.Writing.{Writing}
use Rattle.up_fault.specs.declared.retrying.Retrying.{Retrying}
use Rattle.up_fault.specs.declared.access.Attempt.{Attempt}
use Rattle.up_fault.specs.Accesses.{access_in}

-- a read, or a write of these bytes
abbrev pub touch_call : Piece → Option (List ℕ) → PageNo → Brought → Call
touch_call piece None last brought = Read piece last brought
touch_call piece (Some bytes) last brought = Write piece.off bytes last brought

abbrev pub read_call : Reading → Call
read_call reading = Read reading.piece reading.last reading.brought

abbrev pub read_attempt : Reading → Attempt
read_attempt reading = record { off = reading.piece.off; len = reading.piece.len; last = reading.last; write = false }

abbrev pub write_call : Writing → List ℕ → Call
write_call writing bytes = Write writing.off bytes writing.last writing.brought

abbrev pub write_attempt : Writing → List ℕ → Attempt
write_attempt writing bytes = record { off = writing.off; len = length bytes; last = writing.last; write = true }

abbrev pub write_access : Writing → List ℕ → Access
write_access writing bytes = record { off = writing.off; len = length bytes; last = writing.last.0; bytes = Some bytes }

abbrev pub retry_call : Retrying → Call
retry_call retrying = Retry retrying.ticket retrying.brought

-- this holds of the access that waits under a ticket
abbrev pub OfParked : List Entry → ℕ → (Access → Type 0) → Type 0
OfParked h ticket what = (a : Access) → parked h ticket ≡ Some a → what a

-- somebody holds the ticket, and it isn't spent
abbrev pub IsHeld : List Entry → ℕ → Type 0
IsHeld h ticket = (is_some (owner h ticket) ≡ true) × (spent h ticket ≡ false)

abbrev pub bytes_of : Option (List ℕ) → List ℕ
bytes_of None = []
bytes_of (Some bytes) = bytes

-- a write has as many bytes as it says
abbrev pub counts_bytes : ℕ → Option (List ℕ) → Bool
counts_bytes len None = true
counts_bytes len (Some bytes) = length bytes == len

-- the access is this attempt; it lies in one page, and a write has as many bytes as it says
pub record IsAttempt (attempt : Attempt) (a : Access) : Type 0 where
  pub same : access_in attempt (bytes_of a.bytes) ≡ a
  pub within : within_page a.off a.len ≡ true
  pub whole : counts_bytes a.len a.bytes ≡ true
