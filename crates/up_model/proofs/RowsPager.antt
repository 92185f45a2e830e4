-- Journals that the sample pager leaves, with what it says: each is legal by computation alone. Actor 0 is a user, 1 and 2 are workers, 3 is the evictor.
use Rattle.std.specs.Prelude.{true, false, Some, None, List, [], ◌∷◌, replicate, refl}
use Rattle.up_num.specs.declared.answers.Code.TheVariants.{Io}
use Rattle.up_num.specs.declared.answers.Packet.TheVariants.{Read as ReadPacket}
use Rattle.up_model.specs.Value.{value}
use Rattle.up_model.specs.Legal.{Legal}
use Rattle.up_model.proofs.JournalWords.{page, range, on_disk, by, read_at, write_at, supply}
use Rattle.up_model.specs.declared.entry.Entry.{Entry}
use Rattle.up_model.specs.declared.entry.Brought.TheVariants.{Nothing, Frames}
use Rattle.up_model.specs.declared.entry.Told.TheVariants.{Fetched, Copied, Stored, Flushed, Busy}
use Rattle.up_num.specs.declared.answers.Refusal.TheVariants as refusal
use Rattle.up_model.specs.declared.entry.Call.TheVariants as calls
use Rattle.up_model.specs.declared.entry.Reply.TheVariants as answer

-- a block that cannot be read fails the reader
abbrev pub fetch_failed : List Entry
fetch_failed =
    by 0 0 (calls.Retry 0 Nothing) (answer.Refused (refusal.Pager Io)) ∷
    by 1 0 (calls.Fail (range 0 1) Io) (answer.Woke (0 ∷ [])) ∷
    by 1 0 (calls.Tell (Fetched (page 0) false)) answer.Noted ∷
    by 1 0 calls.Packet (answer.Packet (ReadPacket (range 0 1))) ∷
    by 0 0 (read_at 0 1 0) (answer.Blocked 0) ∷ []

fetch_failed-legal : Legal (on_disk 2 (Some 4)) fetch_failed
unfolding value
fetch_failed-legal = (((((tt, refl, refl), refl, refl), refl, refl), refl, refl), refl, refl)

-- nothing to write back
abbrev pub only_flushed : List Entry
only_flushed =
    by 0 0 (calls.Tell (Flushed true)) answer.Noted ∷ []

only_flushed-legal : Legal (on_disk 2 (Some 4)) only_flushed
unfolding value
only_flushed-legal = (tt, refl, refl)

-- a page that is written during its writeback is written back again, and then evicted and fetched
abbrev pub written_back_twice : List Entry
written_back_twice =
    by 0 0 (calls.Tell (Flushed true)) answer.Noted ∷
    by 0 0 (calls.Retry 1 Nothing) (answer.Bytes (66 ∷ [])) ∷
    by 1 0 (calls.Supply (range 0 1) (66 ∷ replicate 4095 48) (Frames 1)) (answer.Took 1 (1 ∷ [])) ∷
    by 1 0 (calls.Tell (Fetched (page 0) true)) answer.Noted ∷
    by 1 0 calls.Packet (answer.Packet (ReadPacket (range 0 1))) ∷
    by 0 0 (read_at 0 1 0) (answer.Blocked 1) ∷
    by 3 0 (calls.Evict 0 1) (answer.Pages (page 0 ∷ [])) ∷
    by 2 0 (calls.End (range 0 1) None) (answer.Woke []) ∷
    by 2 0 (calls.Tell (Stored (page 0) true)) answer.Noted ∷
    by 2 0 (calls.Tell (Copied (range 0 1))) answer.Noted ∷
    by 3 0 (calls.Evict 0 1) (answer.Pages []) ∷
    by 2 0 (calls.Begin (range 0 1) false) answer.Done ∷
    by 1 0 (calls.End (range 0 1) None) (answer.Woke []) ∷
    by 1 0 (calls.Tell (Stored (page 0) true)) answer.Noted ∷
    by 0 0 (calls.Tell (Busy 0 (range 0 1))) answer.Noted ∷
    by 0 0 (write_at 0 66 0 Nothing) answer.Done ∷
    by 1 0 (calls.Tell (Copied (range 0 1))) answer.Noted ∷
    by 1 0 (calls.Begin (range 0 1) false) answer.Done ∷
    by 0 0 (write_at 0 65 0 Nothing) answer.Done ∷
    by 0 0 (calls.Retry 0 Nothing) (answer.Bytes (48 ∷ [])) ∷
    by 1 0 (supply 0 1 48) (answer.Took 1 (0 ∷ [])) ∷
    by 1 0 (calls.Tell (Fetched (page 0) true)) answer.Noted ∷
    by 1 0 calls.Packet (answer.Packet (ReadPacket (range 0 1))) ∷
    by 0 0 (read_at 0 1 0) (answer.Blocked 0) ∷ []

written_back_twice-legal : Legal (on_disk 2 (Some 4)) written_back_twice
unfolding value
written_back_twice-legal = ((((((((((((((((((((((((tt, refl, refl), refl, refl), refl, refl), refl, refl), refl, refl), refl, refl), refl, refl), refl, refl), refl, refl), refl, refl), refl, refl), refl, refl), refl, refl), refl, refl), refl, refl), refl, refl), refl, refl), refl, refl), refl, refl), refl, refl), refl, refl), refl, refl), refl, refl), refl, refl)

-- three new pages are stored; the first try fails at the second page
abbrev pub grown_then_stored : List Entry
grown_then_stored =
    by 1 0 (calls.End (range 0 3) None) (answer.Woke []) ∷
    by 1 0 (calls.Tell (Stored (page 2) true)) answer.Noted ∷
    by 1 0 (calls.Tell (Stored (page 1) true)) answer.Noted ∷
    by 1 0 (calls.Tell (Stored (page 0) true)) answer.Noted ∷
    by 1 0 (calls.Tell (Copied (range 0 3))) answer.Noted ∷
    by 1 0 (calls.Begin (range 0 3) true) answer.Done ∷
    by 1 0 (calls.Tell (Stored (page 1) false)) answer.Noted ∷
    by 1 0 (calls.Tell (Stored (page 0) true)) answer.Noted ∷
    by 1 0 (calls.Tell (Copied (range 0 3))) answer.Noted ∷
    by 1 0 (calls.Begin (range 0 3) true) answer.Done ∷
    by 0 0 (calls.Resize 3) (answer.Woke []) ∷ []

grown_then_stored-legal : Legal (on_disk 0 (Some 3)) grown_then_stored
unfolding value
grown_then_stored-legal = (((((((((((tt, refl, refl), refl, refl), refl, refl), refl, refl), refl, refl), refl, refl), refl, refl), refl, refl), refl, refl), refl, refl), refl, refl)
