-- Which calls are proper, and what each call answers, with each of its refusals, computed at small journals.
use Rattle.std.specs.Prelude.{◌≡◌, ℕ, true, false, Some, None, List, [], ◌∷◌, ◌++◌, replicate, refl}
use Rattle.std.proofs.Common.{arith}
use Rattle.up_num.specs.declared.answers.Code.TheVariants.{Io}
use Rattle.up_num.specs.declared.answers.Packet.TheVariants.{Read as ReadPacket, Dirty as DirtyPacket, Complete}
use Rattle.up_model.specs.declared.entry.Entry.{Entry}
use Rattle.up_model.specs.declared.entry.Brought.TheVariants.{Nothing, Frames, Scanned}
use Rattle.up_model.specs.declared.entry.Role.TheVariants.{User, Pager}
use Rattle.up_model.specs.declared.entry.HintKind.TheVariants.{Always, Cold}
use Rattle.up_model.specs.declared.entry.Told.TheVariants.{Fetched, Busy}
use Rattle.up_num.specs.declared.answers.Refusal.TheVariants as refusal
use Rattle.up_model.proofs.JournalWords.{page, range, run_of_zeros, run_of_bytes, born, free, trapping, on_disk, by, read_at, write_at, supply}
use Rattle.up_model.proofs.RowsReclaim.{pinned_and_cold, as_many_pins_as_may_be, grown_old, reclaimed_in_order, lent_and_recalled, grown_with_one_frame, cut_while_waiting, cut_beside_a_pin}
use Rattle.up_model.proofs.RowsWaiting.{asked_and_supplied, overlapping_accesses, three_pages_one_there, failed_pages, detached_while_waiting, detached_with_both_asks, pager_left}
use Rattle.up_model.proofs.RowsWriteback.{written_since_its_begin, changed_and_reset, asked_before_dirty, dirty_over_an_absent_page, dirty_without_trap, emptied_under_a_write, zeroed_and_listed}
use Rattle.up_model.specs.Legal.{Legal}
use Rattle.up_model.specs.Positions.{first_of}
use Rattle.up_model.specs.Reply.{proper, reply}
use Rattle.up_model.specs.Value.{value}
use Rattle.up_model.specs.declared.entry.Call.TheVariants as calls
use Rattle.up_model.specs.declared.entry.Reply.TheVariants as answer

-- an access has some bytes, all in one page, and ends in that page or a later one
proper-read : proper (free 1) [] 0 (read_at 4094 2 0) ≡ true
proper-read = refl

proper-no_bytes : proper (free 1) [] 0 (read_at 0 0 0) ≡ false
proper-no_bytes = refl

proper-two_pages : proper (free 1) [] 0 (read_at 4095 2 1) ≡ false
proper-two_pages = refl

proper-ends_before : proper (free 1) [] 0 (read_at 4096 1 0) ≡ false
proper-ends_before = refl

proper-write : proper (free 1) [] 0 (write_at 4095 65 0 Nothing) ≡ true
proper-write = refl

proper-write_of_nothing : proper (free 1) [] 0 (calls.Write 0 [] (page 0) Nothing) ≡ false
proper-write_of_nothing = refl

proper-no_frame_brought : proper (free 1) [] 0 (write_at 0 65 0 (Frames 0)) ≡ false
proper-no_frame_brought = refl

-- a retry names an unspent ticket of its own
proper-retry : proper (free 1) (first_of asked_and_supplied 3) 0 (calls.Retry 0 Nothing) ≡ true
proper-retry = refl

proper-ticket_of_another : proper (free 1) (first_of asked_and_supplied 3) 1 (calls.Retry 0 Nothing) ≡ false
proper-ticket_of_another = refl

proper-ticket_of_nobody : proper (free 1) (first_of asked_and_supplied 3) 0 (calls.Retry 5 Nothing) ≡ false
proper-ticket_of_nobody = refl

proper-spent_ticket : proper (free 1) asked_and_supplied 0 (calls.Retry 0 Nothing) ≡ false
proper-spent_ticket = refl

-- a supply has all bytes, and a frame for each page or a scan
proper-supply : proper (free 1) [] 2 (supply 0 1 97) ≡ true
proper-supply = refl

proper-supply_with_scan : proper (free 1) [] 2 (calls.Supply (range 0 1) (replicate 4096 97) Scanned) ≡ true
proper-supply_with_scan = refl

proper-supply_too_short : proper (free 1) [] 2 (calls.Supply (range 0 1) (97 ∷ []) (Frames 1)) ≡ false
proper-supply_too_short = refl

proper-supply_without_frames : proper (free 1) [] 2 (calls.Supply (range 0 1) (replicate 4096 97) Nothing) ≡ false
proper-supply_without_frames = refl

proper-supply_with_too_many : proper (free 1) [] 2 (calls.Supply (range 0 1) (replicate 4096 97) (Frames 2)) ≡ false
proper-supply_with_too_many = refl

proper-pin_with_no_frame : proper (free 1) [] 0 (calls.Pin (range 0 1) (Frames 0)) ≡ false
proper-pin_with_no_frame = refl

proper-packet : proper (free 1) [] 2 calls.Packet ≡ true
proper-packet = refl

-- Read
read-bytes : reply (free 1) (first_of pager_left 3) 0 0 (read_at 4095 1 1) ≡ answer.Bytes (97 ∷ [])
unfolding value
read-bytes = refl

read-blocked : reply (free 1) [] 0 0 (read_at 0 1 0) ≡ answer.Blocked 0
unfolding value
read-blocked = refl

read-blocked_next : reply (free 6) (first_of overlapping_accesses 1) 1 0 (read_at 8192 4096 5) ≡ answer.Blocked 1
unfolding value
read-blocked_next = refl

read-range : reply (free 1) [] 0 0 (read_at 4096 1 1) ≡ answer.Refused refusal.Range
unfolding value
read-range = refl

read-detached : reply (free 2) (first_of detached_while_waiting 4) 1 0 (read_at 0 1 0) ≡ answer.Refused refusal.Detached
unfolding value
read-detached = refl

read-range_first : reply (free 2) detached_while_waiting 1 0 (read_at 8192 1 2) ≡ answer.Refused refusal.Range
unfolding value
read-range_first = refl

read-detached_and_present : reply (free 1) pager_left 0 0 (read_at 0 1 0) ≡ answer.Bytes (97 ∷ [])
unfolding value
read-detached_and_present = refl

-- Write
write-done : reply (free 1) (first_of written_since_its_begin 1) 0 0 (write_at 0 65 0 Nothing) ≡ answer.Done
unfolding value
write-done = refl

write-blocked : reply (free 1) [] 0 0 (write_at 0 65 0 Nothing) ≡ answer.Blocked 0
unfolding value
write-blocked = refl

write-blocked_by_the_trap : reply (trapping 1) (first_of asked_before_dirty 1) 0 0 (write_at 0 65 0 Nothing) ≡ answer.Blocked 0
unfolding value
write-blocked_by_the_trap = refl

write-done_on_a_dirty_page : reply (trapping 1) (first_of asked_before_dirty 5) 1 0 (write_at 0 66 0 Nothing) ≡ answer.Done
unfolding value
write-done_on_a_dirty_page = refl

write-needs : reply (born 0 (Some 2) false) (first_of grown_with_one_frame 1) 0 0 (write_at 0 65 0 Nothing) ≡ answer.Needs 1
unfolding value
write-needs = refl

write-done_with_a_frame : reply (born 0 (Some 2) false) (first_of grown_with_one_frame 1) 0 0 (write_at 0 65 0 (Frames 1)) ≡ answer.Done
unfolding value
write-done_with_a_frame = refl

write-no_frames : reply (born 0 (Some 2) false) (first_of grown_with_one_frame 1) 0 0 (write_at 0 65 0 Scanned) ≡ answer.Refused refusal.NoFrames
unfolding value
write-no_frames = refl

write-scan_without_need : reply (free 1) (first_of written_since_its_begin 1) 0 0 (write_at 0 65 0 Scanned) ≡ answer.Done
unfolding value
write-scan_without_need = refl

write-needs_on_a_loan : reply (free 2) (first_of lent_and_recalled 16) 0 0 (write_at 4096 65 1 Nothing) ≡ answer.Needs 1
unfolding value
write-needs_on_a_loan = refl

write-range : reply (free 1) [] 0 0 (write_at 4096 65 1 Nothing) ≡ answer.Refused refusal.Range
unfolding value
write-range = refl

write-detached : reply (free 2) detached_while_waiting 0 0 (write_at 0 65 0 Nothing) ≡ answer.Refused refusal.Detached
unfolding value
write-detached = refl

write-detached_by_the_trap : reply (trapping 3) detached_with_both_asks 0 0 (write_at 4096 65 1 Nothing) ≡ answer.Refused refusal.Detached
unfolding value
write-detached_by_the_trap = refl

write-detached_and_present : reply (free 1) pager_left 0 0 (write_at 0 65 0 Nothing) ≡ answer.Done
unfolding value
write-detached_and_present = refl

write-blocked_before_frames : reply (born 1 (Some 2) true) (first_of emptied_under_a_write 3) 0 0 (write_at 0 65 0 Nothing) ≡ answer.Blocked 0
unfolding value
write-blocked_before_frames = refl

-- Retry
retry-waiting : reply (free 1) (first_of asked_and_supplied 2) 0 0 (calls.Retry 0 Nothing) ≡ answer.Waiting
unfolding value
retry-waiting = refl

retry-bytes : reply (free 1) (first_of asked_and_supplied 3) 0 0 (calls.Retry 0 Nothing) ≡ answer.Bytes (97 ∷ [])
unfolding value
retry-bytes = refl

retry-done : reply (trapping 1) (first_of asked_before_dirty 4) 0 0 (calls.Retry 0 Nothing) ≡ answer.Done
unfolding value
retry-done = refl

retry-blocked_again : reply (born 1 (Some 2) true) (first_of emptied_under_a_write 5) 0 0 (calls.Retry 0 Nothing) ≡ answer.Blocked 1
unfolding value
retry-blocked_again = refl

retry-range : reply (born 2 (Some 4) false) (first_of cut_while_waiting 3) 0 0 (calls.Retry 0 Nothing) ≡ answer.Refused refusal.Range
unfolding value
retry-range = refl

retry-detached : reply (free 2) (first_of detached_while_waiting 2) 0 0 (calls.Retry 0 Nothing) ≡ answer.Refused refusal.Detached
unfolding value
retry-detached = refl

retry-pager : reply (free 4) (first_of failed_pages 3) 0 0 (calls.Retry 0 Nothing) ≡ answer.Refused (refusal.Pager Io)
unfolding value
retry-pager = refl

-- a write that waited for an absent page finds it zeroed, and needs a frame
abbrev zeroed_while_waiting : List Entry
zeroed_while_waiting =
    by 1 0 (calls.Zero (range 0 1)) (answer.Woke (0 ∷ [])) ∷
    by 0 0 (write_at 0 65 0 Nothing) (answer.Blocked 0) ∷ []

retry-needs : reply (free 1) zeroed_while_waiting 0 0 (calls.Retry 0 Nothing) ≡ answer.Needs 1
unfolding value
retry-needs = refl

retry-no_frames : reply (free 1) zeroed_while_waiting 0 0 (calls.Retry 0 Scanned) ≡ answer.Refused refusal.NoFrames
unfolding value
retry-no_frames = refl

-- Supply
supply-took : reply (free 1) (first_of asked_and_supplied 2) 2 0 (supply 0 1 97) ≡ answer.Took 1 (0 ∷ [])
unfolding value
supply-took = refl

supply-took_what_was_missing : reply (free 3) (first_of three_pages_one_there 1) 2 0 (supply 0 3 97) ≡ answer.Took 2 []
unfolding value
supply-took_what_was_missing = refl

supply-took_nothing : reply (free 1) (first_of pager_left 1) 2 0 (supply 0 1 98) ≡ answer.Took 0 []
unfolding value
supply-took_nothing = refl

supply-range : reply (free 1) [] 2 0 (supply 1 1 97) ≡ answer.Refused refusal.Range
unfolding value
supply-range = refl

supply-detached : reply (free 2) detached_while_waiting 2 0 (supply 0 1 97) ≡ answer.Refused refusal.Detached
unfolding value
supply-detached = refl

supply-range_first : reply (free 2) detached_while_waiting 2 0 (supply 2 1 97) ≡ answer.Refused refusal.Range
unfolding value
supply-range_first = refl

supply-no_frames : reply (free 2) [] 2 0 (calls.Supply (range 0 1) (replicate 4096 97) Scanned) ≡ answer.Refused refusal.NoFrames
unfolding value
supply-no_frames = refl

supply-detached_first : reply (free 2) detached_while_waiting 2 0 (calls.Supply (range 0 1) (replicate 4096 97) Scanned) ≡ answer.Refused refusal.Detached
unfolding value
supply-detached_first = refl

supply-no_frames_without_need :
    reply (free 1) (first_of pager_left 1) 2 0 (calls.Supply (range 0 1) (replicate 4096 97) Scanned)
    ≡ answer.Refused refusal.NoFrames
unfolding value
supply-no_frames_without_need = refl

-- Fail
fail-woke : reply (free 4) (first_of failed_pages 2) 2 0 (calls.Fail (range 0 2) Io) ≡ answer.Woke (0 ∷ [])
unfolding value
fail-woke = refl

fail-nobody : reply (free 4) (first_of failed_pages 2) 2 0 (calls.Fail (range 1 2) Io) ≡ answer.Woke []
unfolding value
fail-nobody = refl

fail-range : reply (free 4) [] 2 0 (calls.Fail (range 3 2) Io) ≡ answer.Refused refusal.Range
unfolding value
fail-range = refl

fail-detached : reply (free 2) detached_while_waiting 2 0 (calls.Fail (range 0 1) Io) ≡ answer.Refused refusal.Detached
unfolding value
fail-detached = refl

fail-range_first : reply (free 2) detached_while_waiting 2 0 (calls.Fail (range 1 2) Io) ≡ answer.Refused refusal.Range
unfolding value
fail-range_first = refl

-- Dirty
dirty-woke : reply (trapping 1) (first_of asked_before_dirty 3) 2 0 (calls.Dirty (range 0 1) Nothing) ≡ answer.Woke (0 ∷ [])
unfolding value
dirty-woke = refl

dirty-range : reply (trapping 1) (first_of asked_before_dirty 3) 2 0 (calls.Dirty (range 0 2) Nothing) ≡ answer.Refused refusal.Range
unfolding value
dirty-range = refl

dirty-not_trap : reply (free 2) (first_of dirty_without_trap 1) 2 0 (calls.Dirty (range 0 2) Nothing) ≡ answer.Refused refusal.NotTrap
unfolding value
dirty-not_trap = refl

dirty-not_trap_first : reply (free 2) detached_while_waiting 2 0 (calls.Dirty (range 0 1) Nothing) ≡ answer.Refused refusal.NotTrap
unfolding value
dirty-not_trap_first = refl

dirty-range_first : reply (free 2) [] 2 0 (calls.Dirty (range 1 2) Nothing) ≡ answer.Refused refusal.Range
unfolding value
dirty-range_first = refl

dirty-detached : reply (trapping 3) detached_with_both_asks 2 0 (calls.Dirty (range 0 3) Nothing) ≡ answer.Refused refusal.Detached
unfolding value
dirty-detached = refl

dirty-not_found : reply (trapping 2) (first_of dirty_over_an_absent_page 1) 2 0 (calls.Dirty (range 0 2) Nothing) ≡ answer.Refused (refusal.NotFound (page 1))
unfolding value
dirty-not_found = refl

-- a page on a loaned frame, in an object that traps
abbrev lent_under_a_trap : List Entry
lent_under_a_trap = by 3 0 (calls.Borrow (page 0) (Frames 1)) (answer.Borrowed true) ∷ first_of dirty_over_an_absent_page 1

dirty-needs : reply (trapping 2) lent_under_a_trap 2 0 (calls.Dirty (range 0 1) Nothing) ≡ answer.Needs 1
unfolding value
dirty-needs = refl

dirty-no_frames : reply (trapping 2) lent_under_a_trap 2 0 (calls.Dirty (range 0 1) Scanned) ≡ answer.Refused refusal.NoFrames
unfolding value
dirty-no_frames = refl

dirty-with_a_frame : reply (trapping 2) lent_under_a_trap 2 0 (calls.Dirty (range 0 1) (Frames 1)) ≡ answer.Woke []
unfolding value
dirty-with_a_frame = refl

dirty-not_found_first : reply (trapping 2) lent_under_a_trap 2 0 (calls.Dirty (range 0 2) Nothing) ≡ answer.Refused (refusal.NotFound (page 1))
unfolding value
dirty-not_found_first = refl

-- Begin and End
begin-done : reply (free 1) [] 2 0 (calls.Begin (range 0 1) false) ≡ answer.Done
unfolding value
begin-done = refl

begin-range : reply (free 1) [] 2 0 (calls.Begin (range 0 2) true) ≡ answer.Refused refusal.Range
unfolding value
begin-range = refl

begin-detached : reply (trapping 3) detached_with_both_asks 2 0 (calls.Begin (range 0 3) false) ≡ answer.Done
unfolding value
begin-detached = refl

end-woke : reply (born 1 (Some 2) true) (first_of emptied_under_a_write 4) 2 0 (calls.End (range 0 1) None) ≡ answer.Woke (0 ∷ [])
unfolding value
end-woke = refl

end-nobody : reply (free 1) (first_of written_since_its_begin 4) 2 0 (calls.End (range 0 1) None) ≡ answer.Woke []
unfolding value
end-nobody = refl

end-range : reply (free 1) [] 2 0 (calls.End (range 1 1) None) ≡ answer.Refused refusal.Range
unfolding value
end-range = refl

-- Query and Stats
query-dirty : reply (free 1) (first_of written_since_its_begin 5) 2 0 (calls.Query (range 0 1) 4) ≡ answer.Ranges 1 (run_of_bytes 0 1 ∷ [])
unfolding value
query-dirty = refl

query-awaiting : reply (free 1) (first_of written_since_its_begin 3) 2 0 (calls.Query (range 0 1) 4) ≡ answer.Ranges 1 (run_of_bytes 0 1 ∷ [])
unfolding value
query-awaiting = refl

query-clean : reply (free 1) (first_of written_since_its_begin 1) 2 0 (calls.Query (range 0 1) 4) ≡ answer.Ranges 0 []
unfolding value
query-clean = refl

query-both_kinds : reply (free 3) zeroed_and_listed 2 0 (calls.Query (range 0 3) 4) ≡ answer.Ranges 2 (run_of_bytes 0 1 ∷ run_of_zeros 2 1 ∷ [])
unfolding value
query-both_kinds = refl

query-little_room : reply (free 3) zeroed_and_listed 2 0 (calls.Query (range 0 3) 1) ≡ answer.Ranges 2 (run_of_bytes 0 1 ∷ [])
unfolding value
query-little_room = refl

query-range : reply (free 1) [] 2 0 (calls.Query (range 0 2) 4) ≡ answer.Refused refusal.Range
unfolding value
query-range = refl

stats-modified : reply (free 1) (first_of changed_and_reset 3) 2 0 (calls.Stats true) ≡ answer.Modified true
unfolding value
stats-modified = refl

stats-reset : reply (free 1) (first_of changed_and_reset 4) 2 0 (calls.Stats false) ≡ answer.Modified false
unfolding value
stats-reset = refl

-- Hint
hint-done : reply (free 5) [] 0 0 (calls.Hint (range 0 1) Always) ≡ answer.Done
unfolding value
hint-done = refl

hint-range : reply (free 5) [] 0 0 (calls.Hint (range 4 2) Cold) ≡ answer.Refused refusal.Range
unfolding value
hint-range = refl

-- Pin and Unpin
pin-done : reply (free 2) (first_of pinned_and_cold 2) 0 0 (calls.Pin (range 0 2) Nothing) ≡ answer.Done
unfolding value
pin-done = refl

pin-range : reply (free 2) (first_of pinned_and_cold 2) 0 0 (calls.Pin (range 0 3) Nothing) ≡ answer.Refused refusal.Range
unfolding value
pin-range = refl

pin-not_found : reply (trapping 2) (first_of dirty_over_an_absent_page 1) 0 0 (calls.Pin (range 0 2) Nothing) ≡ answer.Refused (refusal.NotFound (page 1))
unfolding value
pin-not_found = refl

pin-limit : reply (free 1) (first_of as_many_pins_as_may_be 32) 0 0 (calls.Pin (range 0 1) Nothing) ≡ answer.Refused (refusal.PinLimit (page 0))
unfolding value
pin-limit = refl

pin-last : reply (free 1) (first_of as_many_pins_as_may_be 31) 0 0 (calls.Pin (range 0 1) Nothing) ≡ answer.Done
unfolding value
pin-last = refl

pin-needs : reply (free 3) zeroed_and_listed 0 0 (calls.Pin (range 1 2) Nothing) ≡ answer.Needs 1
unfolding value
pin-needs = refl

pin-needs_on_a_loan : reply (trapping 2) lent_under_a_trap 0 0 (calls.Pin (range 0 1) Nothing) ≡ answer.Needs 1
unfolding value
pin-needs_on_a_loan = refl

pin-no_frames : reply (free 3) zeroed_and_listed 0 0 (calls.Pin (range 1 2) Scanned) ≡ answer.Refused refusal.NoFrames
unfolding value
pin-no_frames = refl

-- of three pages the first has as many pins as may be, the second is zeros, and the third isn't there
abbrev full_zero_absent : List Entry
full_zero_absent =
    by 0 0 (calls.Zero (range 1 1)) (answer.Woke []) ∷
    replicate 31 (by 0 0 (calls.Pin (range 0 1) Nothing) answer.Done) ++
    by 2 0 (supply 0 1 97) (answer.Took 1 []) ∷ []

pin-not_found_first : reply (free 3) full_zero_absent 0 0 (calls.Pin (range 0 3) Nothing) ≡ answer.Refused (refusal.NotFound (page 2))
unfolding value
pin-not_found_first = refl

pin-limit_before_frames : reply (free 3) full_zero_absent 0 0 (calls.Pin (range 0 2) Nothing) ≡ answer.Refused (refusal.PinLimit (page 0))
unfolding value
pin-limit_before_frames = refl

unpin-done : reply (free 2) (first_of pinned_and_cold 5) 0 0 (calls.Unpin (range 0 2)) ≡ answer.Done
unfolding value
unpin-done = refl

unpin-range : reply (free 2) pinned_and_cold 0 0 (calls.Unpin (range 1 2)) ≡ answer.Refused refusal.Range
unfolding value
unpin-range = refl

unpin-unpinned : reply (free 2) pinned_and_cold 0 0 (calls.Unpin (range 0 2)) ≡ answer.Refused (refusal.Unpinned (page 1))
unfolding value
unpin-unpinned = refl

-- Evict
evict-cold_and_old : reply (free 5) (first_of reclaimed_in_order 4) 3 4 (calls.Evict 4 2) ≡ answer.Pages (page 4 ∷ page 2 ∷ [])
unfolding value
evict-cold_and_old = refl

evict-all : reply (free 5) (first_of reclaimed_in_order 4) 3 4 (calls.Evict 0 8) ≡ answer.Pages (page 4 ∷ page 2 ∷ page 3 ∷ page 1 ∷ [])
unfolding value
evict-all = refl

evict-none_old_enough : reply (free 5) (first_of grown_old 1) 3 0 (calls.Evict 4 1) ≡ answer.Pages []
unfolding value
evict-none_old_enough = refl

evict-its_own_epoch : reply (free 5) (first_of grown_old 2) 3 4 (calls.Evict 4 1) ≡ answer.Pages (page 0 ∷ [])
unfolding value
evict-its_own_epoch = refl

-- Borrow
borrow-needs : reply (free 2) (first_of lent_and_recalled 2) 3 0 (calls.Borrow (page 0) Nothing) ≡ answer.Needs 1
unfolding value
borrow-needs = refl

borrow-now : reply (free 2) (first_of lent_and_recalled 2) 3 0 (calls.Borrow (page 0) (Frames 1)) ≡ answer.Borrowed true
unfolding value
borrow-now = refl

borrow-already : reply (free 2) (first_of lent_and_recalled 6) 3 0 (calls.Borrow (page 0) Nothing) ≡ answer.Borrowed false
unfolding value
borrow-already = refl

borrow-no_frames : reply (free 2) (first_of lent_and_recalled 10) 3 0 (calls.Borrow (page 0) Scanned) ≡ answer.Refused refusal.NoFrames
unfolding value
borrow-no_frames = refl

borrow-range : reply (free 2) [] 3 0 (calls.Borrow (page 2) Nothing) ≡ answer.Refused refusal.Range
unfolding value
borrow-range = refl

borrow-not_found : reply (free 2) [] 3 0 (calls.Borrow (page 1) Nothing) ≡ answer.Refused (refusal.NotFound (page 1))
unfolding value
borrow-not_found = refl

borrow-pinned : reply (free 2) (first_of pinned_and_cold 3) 3 0 (calls.Borrow (page 1) Nothing) ≡ answer.Refused (refusal.Pinned (page 1))
unfolding value
borrow-pinned = refl

borrow-unclean : reply (free 2) (first_of lent_and_recalled 12) 3 0 (calls.Borrow (page 0) Nothing) ≡ answer.Refused (refusal.Unclean (page 0))
unfolding value
borrow-unclean = refl

borrow-pinned_first :
    reply (free 1) (by 0 0 (calls.Pin (range 0 1) Nothing) answer.Done ∷ first_of written_since_its_begin 2) 3 0 (calls.Borrow (page 0) Nothing)
    ≡ answer.Refused (refusal.Pinned (page 0))
unfolding value
borrow-pinned_first = refl

-- Vacate
vacate-needs : reply (free 2) (first_of lent_and_recalled 7) 3 0 (calls.Vacate Nothing) ≡ answer.Needs 1
unfolding value
vacate-needs = refl

vacate-moved_and_evicted : reply (free 2) (first_of lent_and_recalled 7) 3 0 (calls.Vacate (Frames 1)) ≡ answer.Vacated (page 0 ∷ []) (page 1 ∷ [])
unfolding value
vacate-moved_and_evicted = refl

vacate-no_frames : reply (free 2) (first_of lent_and_recalled 7) 3 0 (calls.Vacate Scanned) ≡ answer.Refused refusal.NoFrames
unfolding value
vacate-no_frames = refl

vacate-no_loan : reply (free 2) lent_and_recalled 3 0 (calls.Vacate Nothing) ≡ answer.Vacated [] []
unfolding value
vacate-no_loan = refl

-- Resize
resize-grown : reply (born 2 (Some 4) false) [] 0 0 (calls.Resize 4) ≡ answer.Woke []
unfolding value
resize-grown = refl

resize-cut : reply (born 2 (Some 4) false) (first_of cut_while_waiting 2) 1 0 (calls.Resize 1) ≡ answer.Woke (0 ∷ [])
unfolding value
resize-cut = refl

resize-fixed : reply (free 2) [] 0 0 (calls.Resize 2) ≡ answer.Refused refusal.Fixed
unfolding value
resize-fixed = refl

resize-range : reply (born 2 (Some 4) false) [] 0 0 (calls.Resize 5) ≡ answer.Refused refusal.Range
unfolding value
resize-range = refl

resize-pinned : reply (born 2 (Some 4) false) (first_of cut_beside_a_pin 2) 1 0 (calls.Resize 0) ≡ answer.Refused (refusal.Pinned (page 0))
unfolding value
resize-pinned = refl

resize-beside_the_pin : reply (born 2 (Some 4) false) (first_of cut_beside_a_pin 2) 1 0 (calls.Resize 1) ≡ answer.Woke []
unfolding value
resize-beside_the_pin = refl

-- Zero
zero-woke : reply (free 1) (first_of zeroed_while_waiting 1) 1 0 (calls.Zero (range 0 1)) ≡ answer.Woke (0 ∷ [])
unfolding value
zero-woke = refl

zero-range : reply (free 1) [] 1 0 (calls.Zero (range 0 2)) ≡ answer.Refused refusal.Range
unfolding value
zero-range = refl

zero-pinned : reply (free 2) pinned_and_cold 1 0 (calls.Zero (range 0 2)) ≡ answer.Refused (refusal.Pinned (page 0))
unfolding value
zero-pinned = refl

zero-range_first : reply (free 2) pinned_and_cold 1 0 (calls.Zero (range 0 3)) ≡ answer.Refused refusal.Range
unfolding value
zero-range_first = refl

-- Detach and Leave
detach-woke : reply (free 2) (first_of detached_while_waiting 1) 2 0 calls.Detach ≡ answer.Woke (0 ∷ [])
unfolding value
detach-woke = refl

detach-detached : reply (free 2) (first_of detached_while_waiting 3) 2 0 calls.Detach ≡ answer.Refused refusal.Detached
unfolding value
detach-detached = refl

leave-last_pager : reply (free 1) (first_of asked_and_supplied 2) 2 0 (calls.Leave Pager) ≡ answer.Left 1
unfolding value
leave-last_pager = refl

leave-first_user : reply (free 1) (first_of asked_and_supplied 2) 1 0 (calls.Leave User) ≡ answer.Left 0
unfolding value
leave-first_user = refl

leave-none_left : reply (free 1) pager_left 2 0 (calls.Leave Pager) ≡ answer.Refused refusal.Detached
unfolding value
leave-none_left = refl

leave-detached_already : reply (free 2) detached_while_waiting 2 0 (calls.Leave Pager) ≡ answer.Left 0
unfolding value
leave-detached_already = refl

-- Packet
packet-read : reply (free 2) (first_of detached_while_waiting 5) 2 0 calls.Packet ≡ answer.Packet (ReadPacket (range 0 1))
unfolding value
packet-read = refl

packet-dirty : reply (trapping 1) (first_of asked_before_dirty 2) 2 0 calls.Packet ≡ answer.Packet (DirtyPacket (range 0 1))
unfolding value
packet-dirty = refl

packet-complete : reply (free 2) (first_of detached_while_waiting 6) 2 0 calls.Packet ≡ answer.Packet Complete
unfolding value
packet-complete = refl

packet-finished : reply (free 2) (first_of detached_while_waiting 7) 2 0 calls.Packet ≡ answer.Finished
unfolding value
packet-finished = refl

packet-empty : reply (free 6) (first_of overlapping_accesses 4) 2 0 calls.Packet ≡ answer.Empty
unfolding value
packet-empty = refl

-- Tell
tell-noted : reply (on_disk 2 (Some 4)) [] 1 0 (calls.Tell (Fetched (page 0) false)) ≡ answer.Noted
unfolding value
tell-noted = refl

tell-noted_when_detached : reply (free 2) detached_while_waiting 2 0 (calls.Tell (Busy 0 (range 0 1))) ≡ answer.Noted
unfolding value
tell-noted_when_detached = refl

two_bytes : answer.Bytes (98 ∷ []) ≡ answer.Bytes (97 ∷ []) → ⊥
two_bytes same = let numbers : (◌≡◌ {A = ℕ} 98 97) = cc in absurd (omega arith)

-- a journal isn't legal where one reply isn't the one that is due, or one call isn't proper
wrong_byte-illegal : Legal (free 1) (by 0 0 (calls.Retry 0 Nothing) (answer.Bytes (98 ∷ [])) ∷ first_of asked_and_supplied 3) → ⊥
unfolding value
wrong_byte-illegal legal = two_bytes legal.2

ticket_of_nobody-illegal : Legal (free 1) (by 0 0 (calls.Retry 5 Nothing) (answer.Bytes (97 ∷ [])) ∷ first_of asked_and_supplied 3) → ⊥
unfolding value
ticket_of_nobody-illegal legal = let wrong : false ≡ true = legal.1 in absurd cc
