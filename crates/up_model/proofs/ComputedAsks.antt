-- What is asked of the pager, and what becomes of those who wait, computed at small journals.
use Rattle.std.specs.Prelude.{◌≡◌, ◌==◌, true, false, Some, None, [], ◌∷◌, refl}
use Rattle.up_num.specs.declared.answers.AskKind.TheVariants.{Read as ReadAsk, Dirty as DirtyAsk}
use Rattle.up_num.specs.declared.answers.Outcome.TheVariants.{Freed, Failed, Shrunk, Detached as DetachedOutcome, Waiting as NothingYet}
use Rattle.up_num.specs.declared.answers.Code.TheVariants.{Io}
use Rattle.up_num.specs.declared.answers.Packet.TheVariants.{Read as ReadPacket, Dirty as DirtyPacket, Complete}
use Rattle.up_model.specs.declared.entry.Brought.TheVariants.{Nothing}
use Rattle.up_model.specs.declared.entry.Role.TheVariants.{User, Pager}
use Rattle.up_model.proofs.JournalWords.{range, born, free, trapping, by, supply, at, reading, writing, ask}
use Rattle.up_model.proofs.RowsReclaim.{cut_while_waiting}
use Rattle.up_model.proofs.RowsWaiting.{retried_too_early, asked_and_supplied, overlapping_accesses, three_pages_one_there, supplied_in_the_middle, failed_pages, detached_while_waiting, detached_with_both_asks, scanned_for_frames}
use Rattle.up_model.proofs.RowsWriteback.{written_since_its_begin, asked_before_dirty, emptied_under_a_write}
use Rattle.up_model.specs.Asks.{lacks, want, wanted, resolves, resolved, asked}
use Rattle.up_model.specs.Packets.{packets, requested, sent, taken}
use Rattle.up_model.specs.Positions.{first_of}
use Rattle.up_model.specs.Tickets.{next_ticket, owner, waits, spent, outcome, wakes, woken}
use Rattle.up_model.specs.Value.{value}
use Rattle.up_model.specs.declared.entry.Call.TheVariants as calls
use Rattle.up_model.specs.declared.entry.Reply.TheVariants as answer

-- what an access asks for, up to the page where it ends and within the object, as far as pages lack the same
lacks-absent : lacks (free 1) [] ReadAsk 0 ≡ true
unfolding value
lacks-absent = refl

lacks-present : lacks (trapping 1) (first_of asked_before_dirty 1) ReadAsk 0 ≡ false
unfolding value
lacks-present = refl

lacks-not_dirty : lacks (trapping 1) (first_of asked_before_dirty 1) DirtyAsk 0 ≡ true
unfolding value
lacks-not_dirty = refl

lacks-dirty : lacks (trapping 1) (first_of asked_before_dirty 4) DirtyAsk 0 ≡ false
unfolding value
lacks-dirty = refl

lacks-absent_to_be_dirty : lacks (trapping 1) [] DirtyAsk 0 ≡ false
unfolding value
lacks-absent_to_be_dirty = refl

want-read : want (free 6) [] (reading 0 4096 3) ≡ ask ReadAsk 0 4
unfolding value
want-read = refl

want-within_the_object : want (free 6) [] (reading 0 4096 9) ≡ ask ReadAsk 0 6
unfolding value
want-within_the_object = refl

want-up_to_a_present_page : want (free 3) (first_of three_pages_one_there 1) (reading 0 1 2) ≡ ask ReadAsk 0 1
unfolding value
want-up_to_a_present_page = refl

want-asked_already : want (free 6) (first_of overlapping_accesses 1) (reading 8192 4096 5) ≡ ask ReadAsk 2 4
unfolding value
want-asked_already = refl

want-dirty : want (trapping 1) (first_of asked_before_dirty 1) (writing 0 65 0) ≡ ask DirtyAsk 0 1
unfolding value
want-dirty = refl

want-up_to_an_absent_page : want (trapping 3) (first_of detached_with_both_asks 2) (writing 4096 65 2) ≡ ask DirtyAsk 1 1
unfolding value
want-up_to_an_absent_page = refl

want-write_of_an_absent_page : want (trapping 3) (first_of detached_with_both_asks 2) (writing 8192 65 2) ≡ ask ReadAsk 2 1
unfolding value
want-write_of_an_absent_page = refl

-- only an entry that waits asks
wanted-blocked : at asked_and_supplied 0 (wanted (free 1)) ≡ Some (Some (ask ReadAsk 0 1))
unfolding value
wanted-blocked = refl

wanted-answered : at asked_and_supplied 3 (wanted (free 1)) ≡ Some None
unfolding value
wanted-answered = refl

wanted-still_waiting : at retried_too_early 1 (wanted (free 1)) ≡ Some None
unfolding value
wanted-still_waiting = refl

-- what calls make of those who wait
resolves-supply : resolves (free 6) overlapping_accesses (supply 1 2 98) ReadAsk 2 ≡ Freed
unfolding value
resolves-supply = refl

resolves-supply_elsewhere : resolves (free 6) overlapping_accesses (supply 1 2 98) ReadAsk 3 ≡ NothingYet
unfolding value
resolves-supply_elsewhere = refl

resolves-supply_to_be_dirty : resolves (free 6) overlapping_accesses (supply 1 2 98) DirtyAsk 2 ≡ NothingYet
unfolding value
resolves-supply_to_be_dirty = refl

resolves-dirty : resolves (trapping 1) (first_of asked_before_dirty 3) (calls.Dirty (range 0 1) Nothing) DirtyAsk 0 ≡ Freed
unfolding value
resolves-dirty = refl

resolves-dirty_of_a_read : resolves (trapping 1) (first_of asked_before_dirty 3) (calls.Dirty (range 0 1) Nothing) ReadAsk 0 ≡ NothingYet
unfolding value
resolves-dirty_of_a_read = refl

resolves-emptying_end : resolves (born 1 (Some 2) true) (first_of emptied_under_a_write 4) (calls.End (range 0 1) None) DirtyAsk 0 ≡ Freed
unfolding value
resolves-emptying_end = refl

resolves-end : resolves (trapping 1) (first_of asked_before_dirty 3) (calls.End (range 0 1) None) DirtyAsk 0 ≡ NothingYet
unfolding value
resolves-end = refl

resolves-zero_read : resolves (free 1) (first_of asked_and_supplied 1) (calls.Zero (range 0 1)) ReadAsk 0 ≡ Freed
unfolding value
resolves-zero_read = refl

resolves-zero_dirty : resolves (trapping 1) (first_of asked_before_dirty 2) (calls.Zero (range 0 1)) DirtyAsk 0 ≡ Freed
unfolding value
resolves-zero_dirty = refl

resolves-fail_read : resolves (free 4) (first_of failed_pages 2) (calls.Fail (range 0 2) Io) ReadAsk 1 ≡ Failed Io
unfolding value
resolves-fail_read = refl

resolves-fail_elsewhere : resolves (free 4) (first_of failed_pages 2) (calls.Fail (range 0 2) Io) ReadAsk 2 ≡ NothingYet
unfolding value
resolves-fail_elsewhere = refl

resolves-cut : resolves (born 2 (Some 4) false) (first_of cut_while_waiting 2) (calls.Resize 1) ReadAsk 1 ≡ Shrunk
unfolding value
resolves-cut = refl

resolves-cut_elsewhere : resolves (born 2 (Some 4) false) (first_of cut_while_waiting 2) (calls.Resize 1) ReadAsk 0 ≡ NothingYet
unfolding value
resolves-cut_elsewhere = refl

resolves-detach : resolves (free 2) (first_of detached_while_waiting 1) calls.Detach ReadAsk 0 ≡ DetachedOutcome
unfolding value
resolves-detach = refl

resolves-second_detach : resolves (free 2) detached_while_waiting calls.Detach ReadAsk 0 ≡ NothingYet
unfolding value
resolves-second_detach = refl

resolves-last_pager : resolves (free 1) (first_of asked_and_supplied 1) (calls.Leave Pager) ReadAsk 0 ≡ DetachedOutcome
unfolding value
resolves-last_pager = refl

resolves-one_of_two_users : resolves (free 1) (first_of asked_and_supplied 1) (calls.Leave User) ReadAsk 0 ≡ NothingYet
unfolding value
resolves-one_of_two_users = refl

-- but nothing where they were refused
resolved-accepted : at asked_and_supplied 2 (λ before e. resolved (free 1) before e ReadAsk 0) ≡ Some Freed
unfolding value
resolved-accepted = refl

resolved-refused : at scanned_for_frames 2 (λ before e. resolved (free 2) before e ReadAsk 0) ≡ Some NothingYet
unfolding value
resolved-refused = refl

-- a page is asked for from an access that waits until something resolves it
asked-waiting : asked (free 1) (first_of asked_and_supplied 2) ReadAsk 0 ≡ true
unfolding value
asked-waiting = refl

asked-supplied : asked (free 1) (first_of asked_and_supplied 3) ReadAsk 0 ≡ false
unfolding value
asked-supplied = refl

asked-before_the_fail : asked (free 4) (first_of failed_pages 2) ReadAsk 1 ≡ true
unfolding value
asked-before_the_fail = refl

asked-failed : asked (free 4) (first_of failed_pages 3) ReadAsk 1 ≡ false
unfolding value
asked-failed = refl

asked-not_failed : asked (free 4) (first_of failed_pages 3) ReadAsk 2 ≡ true
unfolding value
asked-not_failed = refl

asked-again : asked (free 4) failed_pages ReadAsk 0 ≡ true
unfolding value
asked-again = refl

asked-to_be_dirty : asked (trapping 1) (first_of asked_before_dirty 2) DirtyAsk 0 ≡ true
unfolding value
asked-to_be_dirty = refl

asked-not_to_be_read : asked (trapping 1) (first_of asked_before_dirty 2) ReadAsk 0 ≡ false
unfolding value
asked-not_to_be_read = refl

asked-let_dirty : asked (trapping 1) (first_of asked_before_dirty 4) DirtyAsk 0 ≡ false
unfolding value
asked-let_dirty = refl

asked-detached : asked (free 2) (first_of detached_while_waiting 2) ReadAsk 0 ≡ false
unfolding value
asked-detached = refl

-- one packet for each run of pages that nobody asked for yet; Complete once the object is detached
packets-run : packets (λ kind p. false) (Some (ask ReadAsk 0 4)) ≡ ReadPacket (range 0 4) ∷ []
unfolding value
packets-run = refl

packets-two_runs : packets (λ kind p. p == 2) (Some (ask DirtyAsk 0 4)) ≡ DirtyPacket (range 0 2) ∷ DirtyPacket (range 3 1) ∷ []
unfolding value
packets-two_runs = refl

packets-all_asked : packets (λ kind p. true) (Some (ask ReadAsk 0 4)) ≡ []
unfolding value
packets-all_asked = refl

packets-no_ask : packets (λ kind p. false) None ≡ []
unfolding value
packets-no_ask = refl

requested-overlapping : requested (free 6) overlapping_accesses ≡ ReadPacket (range 0 4) ∷ ReadPacket (range 4 2) ∷ []
unfolding value
requested-overlapping = refl

requested-detached : requested (free 2) detached_while_waiting ≡ ReadPacket (range 0 1) ∷ []
unfolding value
requested-detached = refl

requested-nothing : requested (free 1) written_since_its_begin ≡ []
unfolding value
requested-nothing = refl

sent-not_detached : sent (free 2) (first_of detached_while_waiting 1) ≡ ReadPacket (range 0 1) ∷ []
unfolding value
sent-not_detached = refl

sent-detached : sent (free 2) (first_of detached_while_waiting 2) ≡ ReadPacket (range 0 1) ∷ Complete ∷ []
unfolding value
sent-detached = refl

sent-both_kinds : sent (trapping 3) detached_with_both_asks ≡ DirtyPacket (range 1 1) ∷ ReadPacket (range 2 1) ∷ Complete ∷ []
unfolding value
sent-both_kinds = refl

taken-none : taken (first_of overlapping_accesses 2) ≡ 0
taken-none = refl

taken-two : taken overlapping_accesses ≡ 2
taken-two = refl

-- tickets in the order of the accesses that wait, with their owners and asks
next_ticket-first : next_ticket written_since_its_begin ≡ 0
next_ticket-first = refl

next_ticket-third : next_ticket overlapping_accesses ≡ 2
next_ticket-third = refl

owner-second : owner overlapping_accesses 1 ≡ Some 1
owner-second = refl

owner-none : owner overlapping_accesses 2 ≡ None
owner-none = refl

waits-second : waits (free 6) overlapping_accesses 1 ≡ Some (ask ReadAsk 2 4)
unfolding value
waits-second = refl

waits-none : waits (free 6) overlapping_accesses 2 ≡ None
unfolding value
waits-none = refl

waits-to_be_dirty : waits (born 1 (Some 2) true) emptied_under_a_write 0 ≡ Some (ask DirtyAsk 0 1)
unfolding value
waits-to_be_dirty = refl

waits-to_be_read : waits (born 1 (Some 2) true) emptied_under_a_write 1 ≡ Some (ask ReadAsk 0 1)
unfolding value
waits-to_be_read = refl

-- a ticket is spent by a retry that is answered for good
spent-answered : spent asked_and_supplied 0 ≡ true
spent-answered = refl

spent-not_retried : spent (first_of asked_and_supplied 3) 0 ≡ false
spent-not_retried = refl

spent-still_waiting : spent retried_too_early 0 ≡ false
spent-still_waiting = refl

spent-needs : spent (by 0 0 (calls.Retry 0 Nothing) (answer.Needs 1) ∷ first_of asked_before_dirty 4) 0 ≡ false
spent-needs = refl

spent-waits_again : spent emptied_under_a_write 0 ≡ true
spent-waits_again = refl

-- the first entry that resolves a ticket decides
outcome-waiting : outcome (free 1) (first_of asked_and_supplied 2) 0 ≡ NothingYet
unfolding value
outcome-waiting = refl

outcome-supplied : outcome (free 1) (first_of asked_and_supplied 3) 0 ≡ Freed
unfolding value
outcome-supplied = refl

outcome-failed : outcome (free 4) (first_of failed_pages 3) 0 ≡ Failed Io
unfolding value
outcome-failed = refl

outcome-failed_then_supplied : outcome (free 4) (by 2 0 (supply 0 1 97) (answer.Took 1 []) ∷ first_of failed_pages 3) 0 ≡ Failed Io
unfolding value
outcome-failed_then_supplied = refl

outcome-detached : outcome (free 2) detached_while_waiting 0 ≡ DetachedOutcome
unfolding value
outcome-detached = refl

outcome-cut : outcome (born 2 (Some 4) false) cut_while_waiting 0 ≡ Shrunk
unfolding value
outcome-cut = refl

outcome-other_page : outcome (free 6) supplied_in_the_middle 0 ≡ NothingYet
unfolding value
outcome-other_page = refl

outcome-before_it_parked : outcome (free 4) failed_pages 1 ≡ NothingYet
unfolding value
outcome-before_it_parked = refl

wakes-its_page : wakes (free 6) overlapping_accesses (supply 1 2 98) 1 ≡ true
unfolding value
wakes-its_page = refl

wakes-another_page : wakes (free 6) overlapping_accesses (supply 1 2 98) 0 ≡ false
unfolding value
wakes-another_page = refl

wakes-woken_already : wakes (free 1) (first_of asked_and_supplied 3) (supply 0 1 97) 0 ≡ false
unfolding value
wakes-woken_already = refl

woken-one : woken (free 6) overlapping_accesses (supply 1 2 98) ≡ 1 ∷ []
unfolding value
woken-one = refl

woken-all : woken (free 6) overlapping_accesses calls.Detach ≡ 0 ∷ 1 ∷ []
unfolding value
woken-all = refl

woken-none : woken (free 6) overlapping_accesses (supply 4 1 98) ≡ []
unfolding value
woken-none = refl

woken-both_kinds : woken (trapping 3) (first_of detached_with_both_asks 4) calls.Detach ≡ 0 ∷ 1 ∷ []
unfolding value
woken-both_kinds = refl
