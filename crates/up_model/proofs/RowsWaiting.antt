-- Journals of accesses that wait, of supplies, packets and failures: each is legal by computation alone.
use Rattle.std.specs.Prelude.{false, None, List, [], ◌∷◌, replicate, refl}
use Rattle.up_num.specs.declared.answers.Code.TheVariants.{Io}
use Rattle.up_num.specs.declared.answers.Packet.TheVariants.{Read as ReadPacket, Dirty as DirtyPacket, Complete}
use Rattle.up_model.specs.Value.{value}
use Rattle.up_model.specs.Legal.{Legal}
use Rattle.up_model.proofs.JournalWords.{range, free, trapping, with_one_user, by, read_at, write_at, supply}
use Rattle.up_model.specs.declared.entry.Entry.{Entry}
use Rattle.up_model.specs.declared.entry.Brought.TheVariants.{Nothing, Scanned}
use Rattle.up_model.specs.declared.entry.Role.TheVariants.{Pager}
use Rattle.up_num.specs.declared.answers.Refusal.TheVariants as refusal
use Rattle.up_model.specs.declared.entry.Call.TheVariants as calls
use Rattle.up_model.specs.declared.entry.Reply.TheVariants as answer

-- a read past the end of the object is refused
abbrev pub read_past_the_end : List Entry
read_past_the_end =
    by 0 0 (read_at 4096 1 1) (answer.Refused refusal.Range) ∷ []

read_past_the_end-legal : Legal (free 1) read_past_the_end
unfolding value
read_past_the_end-legal = (tt, refl, refl)

-- an object without pages refuses each read
abbrev pub no_pages : List Entry
no_pages =
    by 0 0 (read_at 0 1 0) (answer.Refused refusal.Range) ∷ []

no_pages-legal : Legal (free 0) no_pages
unfolding value
no_pages-legal = (tt, refl, refl)

-- a read as far away as an offset may be is refused
abbrev pub far_read : List Entry
far_read =
    by 0 0 (read_at 8796093022208 1 2147483648) (answer.Refused refusal.Range) ∷ []

far_read-legal : Legal (free 1) far_read
unfolding value
far_read-legal = (tt, refl, refl)

-- a read waits for its page, in an object with one user and one pager
abbrev pub waiting_alone : List Entry
waiting_alone =
    by 0 0 (read_at 0 1 0) (answer.Blocked 0) ∷ []

waiting_alone-legal : Legal (with_one_user 1) waiting_alone
unfolding value
waiting_alone-legal = (tt, refl, refl)

-- a retry before the supply still waits
abbrev pub retried_too_early : List Entry
retried_too_early =
    by 0 0 (calls.Retry 0 Nothing) answer.Waiting ∷
    by 0 0 (read_at 0 1 0) (answer.Blocked 0) ∷ []

retried_too_early-legal : Legal (free 1) retried_too_early
unfolding value
retried_too_early-legal = ((tt, refl, refl), refl, refl)

-- a read waits for its page, the pager takes the request and supplies the page, and the retry gives the byte
abbrev pub asked_and_supplied : List Entry
asked_and_supplied =
    by 0 0 (calls.Retry 0 Nothing) (answer.Bytes (97 ∷ [])) ∷
    by 2 0 (supply 0 1 97) (answer.Took 1 (0 ∷ [])) ∷
    by 2 0 calls.Packet (answer.Packet (ReadPacket (range 0 1))) ∷
    by 0 0 (read_at 0 1 0) (answer.Blocked 0) ∷ []

asked_and_supplied-legal : Legal (free 1) asked_and_supplied
unfolding value
asked_and_supplied-legal = ((((tt, refl, refl), refl, refl), refl, refl), refl, refl)

-- of two accesses that overlap, the second asks only for the pages that nobody asked for yet
abbrev pub overlapping_accesses : List Entry
overlapping_accesses =
    by 2 0 calls.Packet answer.Empty ∷
    by 2 0 calls.Packet (answer.Packet (ReadPacket (range 4 2))) ∷
    by 2 0 calls.Packet (answer.Packet (ReadPacket (range 0 4))) ∷
    by 1 0 (read_at 8192 4096 5) (answer.Blocked 1) ∷
    by 0 0 (read_at 0 4096 3) (answer.Blocked 0) ∷ []

overlapping_accesses-legal : Legal (free 6) overlapping_accesses
unfolding value
overlapping_accesses-legal = (((((tt, refl, refl), refl, refl), refl, refl), refl, refl), refl, refl)

-- an access to three pages of which the middle one is there: a request for each of the others
abbrev pub three_pages_one_there : List Entry
three_pages_one_there =
    by 0 0 (calls.Retry 1 Nothing) (answer.Bytes (99 ∷ [])) ∷
    by 2 0 (supply 2 1 99) (answer.Took 1 (1 ∷ [])) ∷
    by 2 0 calls.Packet (answer.Packet (ReadPacket (range 2 1))) ∷
    by 0 0 (read_at 8192 1 2) (answer.Blocked 1) ∷
    by 0 0 (read_at 4096 1 2) (answer.Bytes (98 ∷ [])) ∷
    by 0 0 (calls.Retry 0 Nothing) (answer.Bytes (97 ∷ [])) ∷
    by 2 0 (supply 0 1 97) (answer.Took 1 (0 ∷ [])) ∷
    by 2 0 calls.Packet (answer.Packet (ReadPacket (range 0 1))) ∷
    by 0 0 (read_at 0 1 2) (answer.Blocked 0) ∷
    by 2 0 (supply 1 1 98) (answer.Took 1 []) ∷ []

three_pages_one_there-legal : Legal (free 3) three_pages_one_there
unfolding value
three_pages_one_there-legal = ((((((((((tt, refl, refl), refl, refl), refl, refl), refl, refl), refl, refl), refl, refl), refl, refl), refl, refl), refl, refl), refl, refl)

-- a supply of two pages in the middle of overlapping accesses wakes the one whose page it has
abbrev pub supplied_in_the_middle : List Entry
supplied_in_the_middle =
    by 2 0 calls.Packet answer.Empty ∷
    by 0 0 (calls.Retry 0 Nothing) answer.Waiting ∷
    by 1 0 (read_at 12288 1 5) (answer.Blocked 2) ∷
    by 1 0 (calls.Retry 1 Nothing) (answer.Bytes (98 ∷ [])) ∷
    by 2 0 (supply 1 2 98) (answer.Took 2 (1 ∷ [])) ∷
    by 2 0 calls.Packet answer.Empty ∷
    by 2 0 calls.Packet (answer.Packet (ReadPacket (range 4 2))) ∷
    by 2 0 calls.Packet (answer.Packet (ReadPacket (range 0 4))) ∷
    by 1 0 (read_at 8192 1 5) (answer.Blocked 1) ∷
    by 0 0 (read_at 0 1 3) (answer.Blocked 0) ∷ []

supplied_in_the_middle-legal : Legal (free 6) supplied_in_the_middle
unfolding value
supplied_in_the_middle-legal = ((((((((((tt, refl, refl), refl, refl), refl, refl), refl, refl), refl, refl), refl, refl), refl, refl), refl, refl), refl, refl), refl, refl)

-- a fail concerns those who wait now: the next read asks again
abbrev pub failed_pages : List Entry
failed_pages =
    by 2 0 calls.Packet (answer.Packet (ReadPacket (range 0 1))) ∷
    by 0 0 (read_at 0 1 0) (answer.Blocked 1) ∷
    by 0 0 (calls.Retry 0 Nothing) (answer.Refused (refusal.Pager Io)) ∷
    by 2 0 (calls.Fail (range 0 2) Io) (answer.Woke (0 ∷ [])) ∷
    by 2 0 calls.Packet (answer.Packet (ReadPacket (range 0 4))) ∷
    by 0 0 (read_at 0 4096 3) (answer.Blocked 0) ∷ []

failed_pages-legal : Legal (free 4) failed_pages
unfolding value
failed_pages-legal = ((((((tt, refl, refl), refl, refl), refl, refl), refl, refl), refl, refl), refl, refl)

-- a detach resolves who waits, and Complete comes after the request that was sent before
abbrev pub detached_while_waiting : List Entry
detached_while_waiting =
    by 2 0 calls.Packet answer.Finished ∷
    by 2 0 calls.Packet (answer.Packet Complete) ∷
    by 2 0 calls.Packet (answer.Packet (ReadPacket (range 0 1))) ∷
    by 1 0 (read_at 0 1 0) (answer.Refused refusal.Detached) ∷
    by 2 0 calls.Detach (answer.Refused refusal.Detached) ∷
    by 0 0 (calls.Retry 0 Nothing) (answer.Refused refusal.Detached) ∷
    by 2 0 calls.Detach (answer.Woke (0 ∷ [])) ∷
    by 0 0 (read_at 0 1 0) (answer.Blocked 0) ∷ []

detached_while_waiting-legal : Legal (free 2) detached_while_waiting
unfolding value
detached_while_waiting-legal = ((((((((tt, refl, refl), refl, refl), refl, refl), refl, refl), refl, refl), refl, refl), refl, refl), refl, refl)

-- a detach resolves a write that waits for leave and a read that waits for its page; writeback goes on after it
abbrev pub detached_with_both_asks : List Entry
detached_with_both_asks =
    by 2 0 calls.Packet answer.Finished ∷
    by 2 0 calls.Packet (answer.Packet Complete) ∷
    by 2 0 calls.Packet (answer.Packet (ReadPacket (range 2 1))) ∷
    by 2 0 calls.Packet (answer.Packet (DirtyPacket (range 1 1))) ∷
    by 2 0 calls.Detach (answer.Refused refusal.Detached) ∷
    by 2 0 (calls.End (range 0 3) None) (answer.Woke []) ∷
    by 2 0 (calls.Begin (range 0 3) false) answer.Done ∷
    by 1 0 (calls.Retry 1 Nothing) (answer.Refused refusal.Detached) ∷
    by 0 0 (calls.Retry 0 Nothing) (answer.Refused refusal.Detached) ∷
    by 2 0 calls.Detach (answer.Woke (0 ∷ 1 ∷ [])) ∷
    by 1 0 (read_at 8192 1 2) (answer.Blocked 1) ∷
    by 0 0 (write_at 4096 65 1 Nothing) (answer.Blocked 0) ∷
    by 2 0 (calls.Dirty (range 0 1) Nothing) (answer.Woke []) ∷
    by 2 0 (supply 0 2 97) (answer.Took 2 []) ∷ []

detached_with_both_asks-legal : Legal (trapping 3) detached_with_both_asks
unfolding value
detached_with_both_asks-legal = ((((((((((((((tt, refl, refl), refl, refl), refl, refl), refl, refl), refl, refl), refl, refl), refl, refl), refl, refl), refl, refl), refl, refl), refl, refl), refl, refl), refl, refl), refl, refl)

-- a second supply replaces nothing; once the last pager has left, present pages stay readable
abbrev pub pager_left : List Entry
pager_left =
    by 0 0 (read_at 0 1 0) (answer.Bytes (97 ∷ [])) ∷
    by 2 0 (calls.Leave Pager) (answer.Left 0) ∷
    by 0 0 (read_at 4096 1 1) (answer.Refused refusal.Range) ∷
    by 0 0 (read_at 4095 1 1) (answer.Bytes (97 ∷ [])) ∷
    by 2 0 (calls.Fail (range 0 1) Io) (answer.Woke []) ∷
    by 2 0 (supply 0 1 98) (answer.Took 0 []) ∷
    by 2 0 (supply 0 1 97) (answer.Took 1 []) ∷ []

pager_left-legal : Legal (free 1) pager_left
unfolding value
pager_left-legal = (((((((tt, refl, refl), refl, refl), refl, refl), refl, refl), refl, refl), refl, refl), refl, refl)

-- a supply whose scan found no frame is refused, and takes nothing
abbrev pub scanned_for_frames : List Entry
scanned_for_frames =
    by 2 0 (supply 0 1 97) (answer.Took 1 []) ∷
    by 2 0 (calls.Supply (range 0 2) (replicate 8192 97) Scanned) (answer.Refused refusal.NoFrames) ∷
    by 2 0 (calls.Evict 0 1) (answer.Pages []) ∷
    by 2 0 (calls.Evict 4 1) (answer.Pages []) ∷ []

scanned_for_frames-legal : Legal (free 2) scanned_for_frames
unfolding value
scanned_for_frames-legal = ((((tt, refl, refl), refl, refl), refl, refl), refl, refl)

-- 256 pages, supplied sixteen at a time
abbrev pub filled_by_sixteens : List Entry
filled_by_sixteens =
    by 1 0 (supply 240 16 0) (answer.Took 16 []) ∷
    by 1 0 (supply 224 16 0) (answer.Took 16 []) ∷
    by 1 0 (supply 208 16 0) (answer.Took 16 []) ∷
    by 1 0 (supply 192 16 0) (answer.Took 16 []) ∷
    by 1 0 (supply 176 16 0) (answer.Took 16 []) ∷
    by 1 0 (supply 160 16 0) (answer.Took 16 []) ∷
    by 1 0 (supply 144 16 0) (answer.Took 16 []) ∷
    by 1 0 (supply 128 16 0) (answer.Took 16 []) ∷
    by 1 0 (supply 112 16 0) (answer.Took 16 []) ∷
    by 1 0 (supply 96 16 0) (answer.Took 16 []) ∷
    by 1 0 (supply 80 16 0) (answer.Took 16 []) ∷
    by 1 0 (supply 64 16 0) (answer.Took 16 []) ∷
    by 1 0 (supply 48 16 0) (answer.Took 16 []) ∷
    by 1 0 (supply 32 16 0) (answer.Took 16 []) ∷
    by 1 0 (supply 16 16 0) (answer.Took 16 []) ∷
    by 1 0 (supply 0 16 0) (answer.Took 16 []) ∷ []

filled_by_sixteens-legal : Legal (with_one_user 256) filled_by_sixteens
unfolding value
filled_by_sixteens-legal = ((((((((((((((((tt, refl, refl), refl, refl), refl, refl), refl, refl), refl, refl), refl, refl), refl, refl), refl, refl), refl, refl), refl, refl), refl, refl), refl, refl), refl, refl), refl, refl), refl, refl), refl, refl)
