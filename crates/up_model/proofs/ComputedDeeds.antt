-- What entries attempt and do, and how large the object is, computed at small journals.
use Rattle.std.specs.Prelude.{◌≡◌, true, false, Some, None, [], ◌∷◌, refl}
use Rattle.up_num.specs.declared.answers.Refusal.TheVariants as refusal
use Rattle.up_model.proofs.JournalWords.{range, born, free, trapping, by, read_at, at, reading, writing}
use Rattle.up_model.proofs.RowsReclaim.{pinned_and_cold, as_many_pins_as_may_be, reclaimed_in_order, lent_and_recalled, grown_with_one_frame, cut_while_waiting, cut_beside_a_pin}
use Rattle.up_model.proofs.RowsWaiting.{retried_too_early, asked_and_supplied, pager_left, scanned_for_frames}
use Rattle.up_model.proofs.RowsWriteback.{written_since_its_begin, dirty_again_not_evicted, cleaned_and_evicted, changed_and_reset, asked_before_dirty, dirty_without_trap, emptied_under_a_write, grown_and_ended, zeroed_and_listed}
use Rattle.up_model.specs.Attempts.{page_of, accepts, parked, attempt}
use Rattle.up_model.specs.Deeds.{writes, reads, supplies, lets_dirty, begins, ends, pins_one, unpins_one, zeroes, hints_always, hints_cold, evicts, moves, borrows, blanks, dirties, drops}
use Rattle.up_model.specs.Parked.{waits_under}
use Rattle.up_model.specs.Positions.{first_of, entry_at}
use Rattle.up_model.specs.Size.{size, grows, cuts, range_fits, access_fits}
use Rattle.up_model.specs.declared.entry.Reply.TheVariants as answer

-- the page of an offset
page_of-last_byte : page_of 4095 ≡ 0
page_of-last_byte = refl

page_of-first_byte : page_of 4096 ≡ 1
page_of-first_byte = refl

-- what is refused, or waits, isn't accepted; a borrow that changes nothing is
accepts-done : accepts answer.Done ≡ true
accepts-done = refl

accepts-borrowed : accepts (answer.Borrowed false) ≡ true
accepts-borrowed = refl

accepts-refused : accepts (answer.Refused refusal.Range) ≡ false
accepts-refused = refl

accepts-needs : accepts (answer.Needs 1) ≡ false
accepts-needs = refl

accepts-blocked : accepts (answer.Blocked 0) ≡ false
accepts-blocked = refl

accepts-waiting : accepts answer.Waiting ≡ false
accepts-waiting = refl

-- a retry attempts what waits under its ticket; a packet call attempts nothing
attempt-read : at asked_and_supplied 0 attempt ≡ Some (Some (reading 0 1 0))
attempt-read = refl

attempt-write : at written_since_its_begin 1 attempt ≡ Some (Some (writing 0 65 0))
attempt-write = refl

attempt-retry : at asked_and_supplied 3 attempt ≡ Some (Some (reading 0 1 0))
attempt-retry = refl

attempt-packet : at asked_and_supplied 1 attempt ≡ Some None
attempt-packet = refl

parked-read : parked asked_and_supplied 0 ≡ Some (reading 0 1 0)
parked-read = refl

parked-none : parked asked_and_supplied 1 ≡ None
parked-none = refl

-- a retry that waits again parks the same access under a new ticket
parked-again : parked emptied_under_a_write 1 ≡ Some (writing 0 65 0)
parked-again = refl

-- a write in a page: done, and there; one that waits, or needs a frame, isn't one yet
writes-done : at written_since_its_begin 1 (λ before e. writes before e 0) ≡ Some true
writes-done = refl

writes-elsewhere : at written_since_its_begin 1 (λ before e. writes before e 1) ≡ Some false
writes-elsewhere = refl

writes-waits : at asked_before_dirty 1 (λ before e. writes before e 0) ≡ Some false
writes-waits = refl

writes-at_last : at asked_before_dirty 4 (λ before e. writes before e 0) ≡ Some true
writes-at_last = refl

writes-needs : at grown_with_one_frame 1 (λ before e. writes before e 0) ≡ Some false
writes-needs = refl

writes-read : at pager_left 3 (λ before e. writes before e 0) ≡ Some false
writes-read = refl

-- a read in a page: it gave bytes
reads-retried : at asked_and_supplied 3 (λ before e. reads before e 0) ≡ Some true
reads-retried = refl

reads-waits : at asked_and_supplied 0 (λ before e. reads before e 0) ≡ Some false
reads-waits = refl

reads-last_byte : at pager_left 3 (λ before e. reads before e 0) ≡ Some true
reads-last_byte = refl

reads-elsewhere : at pager_left 3 (λ before e. reads before e 1) ≡ Some false
reads-elsewhere = refl

reads-refused : at pager_left 4 (λ before e. reads before e 1) ≡ Some false
reads-refused = refl

-- accepted calls over a page, and refused ones
supplies-accepted : at pager_left 1 (λ before e. supplies e 0) ≡ Some true
supplies-accepted = refl

supplies-refused : at scanned_for_frames 2 (λ before e. supplies e 0) ≡ Some false
supplies-refused = refl

lets_dirty-accepted : at asked_before_dirty 3 (λ before e. lets_dirty e 0) ≡ Some true
lets_dirty-accepted = refl

lets_dirty-refused : at dirty_without_trap 1 (λ before e. lets_dirty e 0) ≡ Some false
lets_dirty-refused = refl

begins-accepted : at written_since_its_begin 2 (λ before e. begins e 0) ≡ Some true
begins-accepted = refl

begins-refused : at changed_and_reset 6 (λ before e. begins e 0) ≡ Some false
begins-refused = refl

ends-accepted : at written_since_its_begin 4 (λ before e. ends e 0) ≡ Some true
ends-accepted = refl

ends-elsewhere : at written_since_its_begin 4 (λ before e. ends e 1) ≡ Some false
ends-elsewhere = refl

pins_one-accepted : at pinned_and_cold 2 (λ before e. pins_one e 1) ≡ Some true
pins_one-accepted = refl

pins_one-refused : at as_many_pins_as_may_be 32 (λ before e. pins_one e 0) ≡ Some false
pins_one-refused = refl

unpins_one-accepted : at pinned_and_cold 5 (λ before e. unpins_one e 1) ≡ Some true
unpins_one-accepted = refl

unpins_one-refused : at pinned_and_cold 1 (λ before e. unpins_one e 0) ≡ Some false
unpins_one-refused = refl

zeroes-accepted : at zeroed_and_listed 3 (λ before e. zeroes e 2) ≡ Some true
zeroes-accepted = refl

zeroes-elsewhere : at zeroed_and_listed 3 (λ before e. zeroes e 0) ≡ Some false
zeroes-elsewhere = refl

hints_always-accepted : at reclaimed_in_order 1 (λ before e. hints_always e 0) ≡ Some true
hints_always-accepted = refl

hints_always-cold : at reclaimed_in_order 2 (λ before e. hints_always e 4) ≡ Some false
hints_always-cold = refl

hints_cold-accepted : at reclaimed_in_order 2 (λ before e. hints_cold e 4) ≡ Some true
hints_cold-accepted = refl

hints_cold-elsewhere : at reclaimed_in_order 2 (λ before e. hints_cold e 3) ≡ Some false
hints_cold-elsewhere = refl

-- the pages that an evict or a vacate lists
evicts-listed : at cleaned_and_evicted 4 (λ before e. evicts e 0) ≡ Some true
evicts-listed = refl

evicts-nothing : at dirty_again_not_evicted 5 (λ before e. evicts e 0) ≡ Some false
evicts-nothing = refl

evicts-vacated : at lent_and_recalled 8 (λ before e. evicts e 1) ≡ Some true
evicts-vacated = refl

evicts-moved : at lent_and_recalled 8 (λ before e. evicts e 0) ≡ Some false
evicts-moved = refl

moves-moved : at lent_and_recalled 8 (λ before e. moves e 0) ≡ Some true
moves-moved = refl

moves-evicted : at lent_and_recalled 8 (λ before e. moves e 1) ≡ Some false
moves-evicted = refl

borrows-now : at lent_and_recalled 3 (λ before e. borrows e 0) ≡ Some true
borrows-now = refl

borrows-already : at lent_and_recalled 6 (λ before e. borrows e 0) ≡ Some false
borrows-already = refl

borrows-needs : at lent_and_recalled 2 (λ before e. borrows e 0) ≡ Some false
borrows-needs = refl

-- what makes zeros of a page, what dirties it, what takes it away
blanks-growth : at grown_and_ended 0 (λ before e. blanks (born 2 (Some 4) false) before e 3) ≡ Some true
blanks-growth = refl

blanks-zero_call : at zeroed_and_listed 3 (λ before e. blanks (free 3) before e 2) ≡ Some true
blanks-zero_call = refl

blanks-old_page : at grown_and_ended 0 (λ before e. blanks (born 2 (Some 4) false) before e 1) ≡ Some false
blanks-old_page = refl

dirties-write : at written_since_its_begin 1 (λ before e. dirties (free 1) before e 0) ≡ Some true
dirties-write = refl

dirties-dirty_call : at asked_before_dirty 3 (λ before e. dirties (trapping 1) before e 0) ≡ Some true
dirties-dirty_call = refl

dirties-growth : at grown_and_ended 0 (λ before e. dirties (born 2 (Some 4) false) before e 2) ≡ Some true
dirties-growth = refl

dirties-zero_call : at zeroed_and_listed 3 (λ before e. dirties (free 3) before e 2) ≡ Some true
dirties-zero_call = refl

dirties-supply : at written_since_its_begin 0 (λ before e. dirties (free 1) before e 0) ≡ Some false
dirties-supply = refl

drops-evicted : at cleaned_and_evicted 4 (λ before e. drops (free 1) before e 0) ≡ Some true
drops-evicted = refl

drops-cut : at cut_while_waiting 2 (λ before e. drops (born 2 (Some 4) false) before e 1) ≡ Some true
drops-cut = refl

drops-kept : at cut_while_waiting 2 (λ before e. drops (born 2 (Some 4) false) before e 0) ≡ Some false
drops-kept = refl

-- the size is that of the last accepted resize, else of the birth
size-born : size (born 2 (Some 4) false) [] ≡ 2
size-born = refl

size-grown : size (born 2 (Some 4) false) grown_and_ended ≡ 4
size-grown = refl

size-cut : size (born 2 (Some 4) false) (first_of cut_while_waiting 3) ≡ 1
size-cut = refl

size-refused : size (born 2 (Some 4) false) cut_while_waiting ≡ 0
size-refused = refl

-- a growth has the pages from the old size on, a cut those from the new one on
grows-first_new : at grown_and_ended 0 (λ before e. grows (born 2 (Some 4) false) before e 2) ≡ Some true
grows-first_new = refl

grows-last_old : at grown_and_ended 0 (λ before e. grows (born 2 (Some 4) false) before e 1) ≡ Some false
grows-last_old = refl

grows-past_it : at grown_and_ended 0 (λ before e. grows (born 2 (Some 4) false) before e 4) ≡ Some false
grows-past_it = refl

grows-refused : at cut_while_waiting 5 (λ before e. grows (born 2 (Some 4) false) before e 3) ≡ Some false
grows-refused = refl

cuts-gone : at cut_while_waiting 2 (λ before e. cuts (born 2 (Some 4) false) before e 1) ≡ Some true
cuts-gone = refl

cuts-kept : at cut_while_waiting 2 (λ before e. cuts (born 2 (Some 4) false) before e 0) ≡ Some false
cuts-kept = refl

cuts-past_it : at cut_while_waiting 2 (λ before e. cuts (born 2 (Some 4) false) before e 2) ≡ Some false
cuts-past_it = refl

cuts-refused : at cut_beside_a_pin 5 (λ before e. cuts (born 2 (Some 4) false) before e 0) ≡ Some false
cuts-refused = refl

-- what ends at the object's end fits
range_fits-to_the_end : range_fits (free 3) [] (range 1 2) ≡ true
range_fits-to_the_end = refl

range_fits-one_more : range_fits (free 3) [] (range 1 3) ≡ false
range_fits-one_more = refl

access_fits-last_byte : access_fits (free 1) [] (reading 4095 1 0) ≡ true
access_fits-last_byte = refl

access_fits-next_byte : access_fits (free 1) [] (reading 4096 1 1) ≡ false
access_fits-next_byte = refl

-- which actors wait, and under which ticket: the actor's last entry decides
waits_under-parked : waits_under (first_of asked_and_supplied 3) 0 ≡ Some 0
waits_under-parked = refl

waits_under-retried : waits_under retried_too_early 0 ≡ Some 0
waits_under-retried = refl

waits_under-again : waits_under emptied_under_a_write 0 ≡ Some 1
waits_under-again = refl

waits_under-answered : waits_under asked_and_supplied 0 ≡ None
waits_under-answered = refl

waits_under-another : waits_under asked_and_supplied 2 ≡ None
waits_under-another = refl

-- positions: the first entries, and the entry at a position
first_of-one : first_of retried_too_early 1 ≡ by 0 0 (read_at 0 1 0) (answer.Blocked 0) ∷ []
first_of-one = refl

first_of-all : first_of retried_too_early 5 ≡ retried_too_early
first_of-all = refl

entry_at-oldest : entry_at retried_too_early 0 ≡ Some (by 0 0 (read_at 0 1 0) (answer.Blocked 0))
entry_at-oldest = refl

entry_at-past_the_end : entry_at retried_too_early 2 ≡ None
entry_at-past_the_end = refl
