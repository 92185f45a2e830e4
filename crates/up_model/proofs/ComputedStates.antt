-- What pages have and what has become of their writeback, computed at small journals.
use Rattle.std.specs.Prelude.{◌≡◌, true, false, Some, None, List, [], ◌∷◌, refl}
use Rattle.up_model.specs.declared.entry.Entry.{Entry}
use Rattle.up_model.specs.declared.entry.Brought.TheVariants.{Frames}
use Rattle.up_model.specs.declared.entry.Role.TheVariants.{User, Pager}
use Rattle.up_model.specs.declared.entry.HintKind.TheVariants.{Always, Cold}
use Rattle.up_num.specs.declared.answers.Refusal.TheVariants as refusal
use Rattle.up_model.proofs.JournalWords.{range, born, free, trapping, on_disk, with_one_user, by, supply, at}
use Rattle.up_model.proofs.RowsReclaim.{pinned_and_cold, as_many_pins_as_may_be, reclaimed_in_order, lent_and_recalled, cut_while_waiting}
use Rattle.up_model.proofs.RowsWaiting.{waiting_alone, asked_and_supplied, three_pages_one_there, detached_while_waiting, pager_left}
use Rattle.up_model.proofs.RowsWriteback.{written_since_its_begin, written_back_at_last, cleaned_and_evicted, changed_and_reset, asked_before_dirty, grown_and_ended, zeroed_and_listed}
use Rattle.up_model.specs.Pins.{pins, always, ends_loan, loaned}
use Rattle.up_model.specs.Positions.{first_of, dirtied}
use Rattle.up_model.specs.Roles.{users, pagers, detached, detaches}
use Rattle.up_model.specs.States.{plain, clean, unclean, awaiting, dirty, counts, empties}
use Rattle.up_model.specs.Value.{value, marked, begun, settled, there, takes, bytes_from}
use Rattle.up_model.specs.declared.entry.Call.TheVariants as calls
use Rattle.up_model.specs.declared.entry.Reply.TheVariants as answer

-- the byte at an offset: none before anything was there
value-nothing_yet : value (free 1) [] 0 ≡ None
unfolding value
value-nothing_yet = refl

value-waiting : value (free 1) (first_of asked_and_supplied 2) 0 ≡ None
unfolding value
value-waiting = refl

value-supplied : value (free 1) (first_of asked_and_supplied 3) 4095 ≡ Some 97
unfolding value
value-supplied = refl

-- a write gives its byte, and leaves its neighbours
value-written : value (free 1) (first_of written_since_its_begin 2) 0 ≡ Some 65
unfolding value
value-written = refl

value-beside : value (free 1) (first_of written_since_its_begin 2) 1 ≡ Some 97
unfolding value
value-beside = refl

value-not_yet_written : value (trapping 1) (first_of asked_before_dirty 4) 0 ≡ Some 97
unfolding value
value-not_yet_written = refl

value-written_at_last : value (trapping 1) (first_of asked_before_dirty 5) 0 ≡ Some 65
unfolding value
value-written_at_last = refl

-- a supply replaces no byte
value-supplied_twice : value (free 1) pager_left 0 ≡ Some 97
unfolding value
value-supplied_twice = refl

-- a growth and a zero call give zeros; other pages stay
value-grown : value (born 2 (Some 4) false) (first_of grown_and_ended 1) 12288 ≡ Some 0
unfolding value
value-grown = refl

value-not_grown : value (born 2 (Some 4) false) (first_of grown_and_ended 1) 4096 ≡ None
unfolding value
value-not_grown = refl

value-zeroed : value (free 3) zeroed_and_listed 8192 ≡ Some 0
unfolding value
value-zeroed = refl

value-beside_zeroed : value (free 3) zeroed_and_listed 8191 ≡ Some 97
unfolding value
value-beside_zeroed = refl

-- an evict, a vacate that evicts, a cut, and an end over a zero page that awaits it leave none
value-evicted : value (free 1) (first_of cleaned_and_evicted 5) 0 ≡ None
unfolding value
value-evicted = refl

value-supplied_anew : value (free 1) cleaned_and_evicted 0 ≡ Some 122
unfolding value
value-supplied_anew = refl

value-moved : value (free 2) (first_of lent_and_recalled 9) 0 ≡ Some 97
unfolding value
value-moved = refl

value-vacated : value (free 2) (first_of lent_and_recalled 9) 4096 ≡ None
unfolding value
value-vacated = refl

value-cut : value (born 2 (Some 4) false) cut_while_waiting 0 ≡ None
unfolding value
value-cut = refl

value-emptied : value (born 2 (Some 4) false) grown_and_ended 12288 ≡ None
unfolding value
value-emptied = refl

value-not_emptied : value (born 2 (Some 4) false) grown_and_ended 8192 ≡ Some 65
unfolding value
value-not_emptied = refl

-- a page is there where its first byte has a value
there-supplied : there (free 3) (first_of three_pages_one_there 1) 1 ≡ true
unfolding value
there-supplied = refl

there-not_supplied : there (free 3) (first_of three_pages_one_there 1) 0 ≡ false
unfolding value
there-not_supplied = refl

there-grown : there (born 2 (Some 4) false) (first_of grown_and_ended 1) 2 ≡ true
unfolding value
there-grown = refl

there-emptied : there (born 2 (Some 4) false) grown_and_ended 3 ≡ false
unfolding value
there-emptied = refl

takes-absent : at pager_left 0 (λ before e. takes (free 1) before e 0) ≡ Some true
unfolding value
takes-absent = refl

takes-present : at pager_left 1 (λ before e. takes (free 1) before e 0) ≡ Some false
unfolding value
takes-present = refl

bytes_from-written : bytes_from (free 1) written_since_its_begin 0 3 ≡ 65 ∷ 66 ∷ 97 ∷ []
unfolding value
bytes_from-written = refl

bytes_from-zeroed : bytes_from (free 3) zeroed_and_listed 8191 2 ≡ 97 ∷ 0 ∷ []
unfolding value
bytes_from-zeroed = refl

bytes_from-absent : bytes_from (free 1) [] 0 2 ≡ 0 ∷ 0 ∷ []
unfolding value
bytes_from-absent = refl

-- the last of what marks a page: a growth or a zero call does, a write, a taken supply or a pin takes the mark away
marked-grown : marked (born 2 (Some 4) false) (first_of grown_and_ended 1) 3 ≡ true
unfolding value
marked-grown = refl

marked-zeroed : marked (free 3) zeroed_and_listed 2 ≡ true
unfolding value
marked-zeroed = refl

marked-written : marked (born 2 (Some 4) false) (first_of grown_and_ended 4) 2 ≡ false
unfolding value
marked-written = refl

marked-needs : marked (born 2 (Some 4) false) (first_of grown_and_ended 3) 2 ≡ true
unfolding value
marked-needs = refl

marked-pinned : marked (free 3) (by 0 0 (calls.Pin (range 2 1) (Frames 1)) answer.Done ∷ zeroed_and_listed) 2 ≡ false
unfolding value
marked-pinned = refl

marked-supply_not_taken : marked (free 3) (by 2 0 (supply 2 1 97) (answer.Took 0 []) ∷ zeroed_and_listed) 2 ≡ true
unfolding value
marked-supply_not_taken = refl

marked-supplied : marked (born 2 (Some 4) false) (by 2 0 (supply 3 1 97) (answer.Took 1 []) ∷ grown_and_ended) 3 ≡ false
unfolding value
marked-supplied = refl

-- the mark stays on a page that was emptied, but such a page isn't plain
marked-emptied : marked (born 2 (Some 4) false) grown_and_ended 3 ≡ true
unfolding value
marked-emptied = refl

plain-emptied : plain (born 2 (Some 4) false) grown_and_ended 3 ≡ false
unfolding value
plain-emptied = refl

plain-grown : plain (born 2 (Some 4) false) (first_of grown_and_ended 1) 3 ≡ true
unfolding value
plain-grown = refl

plain-written : plain (born 2 (Some 4) false) (first_of grown_and_ended 4) 2 ≡ false
unfolding value
plain-written = refl

plain-zeroed : plain (free 3) zeroed_and_listed 2 ≡ true
unfolding value
plain-zeroed = refl

plain-supplied : plain (free 3) zeroed_and_listed 1 ≡ false
unfolding value
plain-supplied = refl

-- a begin counts for each page of its range, one for zero pages for those alone
counts-any : at written_since_its_begin 2 (λ before e. counts (free 1) before e 0) ≡ Some true
unfolding value
counts-any = refl

counts-elsewhere : at written_since_its_begin 2 (λ before e. counts (free 1) before e 1) ≡ Some false
unfolding value
counts-elsewhere = refl

counts-zero_page : at grown_and_ended 4 (λ before e. counts (born 2 (Some 4) false) before e 3) ≡ Some true
unfolding value
counts-zero_page = refl

counts-written_page : at grown_and_ended 4 (λ before e. counts (born 2 (Some 4) false) before e 2) ≡ Some false
unfolding value
counts-written_page = refl

counts-absent_page : at grown_and_ended 4 (λ before e. counts (born 2 (Some 4) false) before e 0) ≡ Some false
unfolding value
counts-absent_page = refl

counts-refused : at changed_and_reset 6 (λ before e. counts (free 1) before e 0) ≡ Some false
unfolding value
counts-refused = refl

-- the position of what dirtied a page last
dirtied-written : dirtied (free 1) written_since_its_begin 0 ≡ Some 3
dirtied-written = refl

dirtied-supplied : dirtied (free 1) (first_of written_since_its_begin 1) 0 ≡ None
dirtied-supplied = refl

dirtied-grown : dirtied (born 2 (Some 4) false) grown_and_ended 3 ≡ Some 0
dirtied-grown = refl

dirtied-before_it : dirtied (born 2 (Some 4) false) grown_and_ended 1 ≡ None
dirtied-before_it = refl

-- such a begin stands after what dirtied the page last
begun-before_it : begun (free 1) (first_of written_since_its_begin 2) 0 ≡ false
unfolding value
begun-before_it = refl

begun-after_it : begun (free 1) (first_of written_since_its_begin 3) 0 ≡ true
unfolding value
begun-after_it = refl

begun-written_since : begun (free 1) (first_of written_since_its_begin 4) 0 ≡ false
unfolding value
begun-written_since = refl

begun-anew : begun (free 1) (first_of written_back_at_last 5) 0 ≡ true
unfolding value
begun-anew = refl

begun-zero_page : begun (born 2 (Some 4) false) (first_of grown_and_ended 5) 3 ≡ true
unfolding value
begun-zero_page = refl

begun-written_page : begun (born 2 (Some 4) false) (first_of grown_and_ended 5) 2 ≡ false
unfolding value
begun-written_page = refl

-- never dirtied, or an end after such a begin: an end without a begin settles nothing
settled-never_dirtied : settled (free 1) (first_of written_since_its_begin 1) 0 ≡ true
unfolding value
settled-never_dirtied = refl

settled-written : settled (free 1) (first_of written_since_its_begin 2) 0 ≡ false
unfolding value
settled-written = refl

settled-written_since : settled (free 1) written_since_its_begin 0 ≡ false
unfolding value
settled-written_since = refl

settled-begun : settled (free 1) (first_of cleaned_and_evicted 3) 0 ≡ false
unfolding value
settled-begun = refl

settled-ended : settled (free 1) (first_of cleaned_and_evicted 4) 0 ≡ true
unfolding value
settled-ended = refl

settled-at_last : settled (free 1) (first_of written_back_at_last 6) 0 ≡ true
unfolding value
settled-at_last = refl

settled-without_begin : settled (free 1) (by 2 0 (calls.End (range 0 1) None) (answer.Woke []) ∷ first_of written_since_its_begin 2) 0 ≡ false
unfolding value
settled-without_begin = refl

-- a begin after the end opens nothing again: without another change the page stays settled
settled-begun_anew : settled (free 1) (by 2 0 (calls.Begin (range 0 1) false) answer.Done ∷ first_of cleaned_and_evicted 4) 0 ≡ true
unfolding value
settled-begun_anew = refl

-- a page that is there is clean, dirty or awaits the end of its writeback
clean-supplied : clean (free 1) (first_of written_since_its_begin 1) 0 ≡ true
unfolding value
clean-supplied = refl

clean-absent : clean (free 1) [] 0 ≡ false
unfolding value
clean-absent = refl

clean-written : clean (free 1) (first_of written_since_its_begin 2) 0 ≡ false
unfolding value
clean-written = refl

clean-written_back : clean (free 1) (first_of cleaned_and_evicted 4) 0 ≡ true
unfolding value
clean-written_back = refl

unclean-written : unclean (free 1) (first_of written_since_its_begin 2) 0 ≡ true
unfolding value
unclean-written = refl

unclean-absent : unclean (free 1) [] 0 ≡ false
unfolding value
unclean-absent = refl

unclean-supplied : unclean (free 1) (first_of written_since_its_begin 1) 0 ≡ false
unfolding value
unclean-supplied = refl

awaiting-begun : awaiting (free 1) (first_of written_since_its_begin 3) 0 ≡ true
unfolding value
awaiting-begun = refl

awaiting-written_since : awaiting (free 1) (first_of written_since_its_begin 4) 0 ≡ false
unfolding value
awaiting-written_since = refl

awaiting-begun_clean : awaiting (free 2) (by 2 0 (calls.Begin (range 0 1) false) answer.Done ∷ first_of pinned_and_cold 1) 0 ≡ false
unfolding value
awaiting-begun_clean = refl

dirty-written : dirty (free 1) (first_of written_since_its_begin 2) 0 ≡ true
unfolding value
dirty-written = refl

dirty-begun : dirty (free 1) (first_of written_since_its_begin 3) 0 ≡ false
unfolding value
dirty-begun = refl

dirty-written_since : dirty (free 1) written_since_its_begin 0 ≡ true
unfolding value
dirty-written_since = refl

dirty-dirty_call : dirty (trapping 1) (first_of asked_before_dirty 4) 0 ≡ true
unfolding value
dirty-dirty_call = refl

dirty-absent : dirty (born 2 (Some 4) false) grown_and_ended 3 ≡ false
unfolding value
dirty-absent = refl

-- an end empties a zero page that awaits it, and no other
empties-zero_page : at grown_and_ended 5 (λ before e. empties (born 2 (Some 4) false) before e 3) ≡ Some true
unfolding value
empties-zero_page = refl

empties-written_page : at grown_and_ended 5 (λ before e. empties (born 2 (Some 4) false) before e 2) ≡ Some false
unfolding value
empties-written_page = refl

empties-supplied_page : at cleaned_and_evicted 3 (λ before e. empties (free 1) before e 0) ≡ Some false
unfolding value
empties-supplied_page = refl

empties-not_begun : empties (free 3) zeroed_and_listed (by 2 0 (calls.End (range 2 1) None) (answer.Woke [])) 2 ≡ false
unfolding value
empties-not_begun = refl

-- pins less unpins; refused ones don't count
pins-one : pins (first_of pinned_and_cold 3) 1 ≡ 1
pins-one = refl

pins-unpinned : pins pinned_and_cold 1 ≡ 0
pins-unpinned = refl

pins-beside : pins pinned_and_cold 0 ≡ 1
pins-beside = refl

pins-most : pins (first_of as_many_pins_as_may_be 33) 0 ≡ 31
pins-most = refl

pins-none_left : pins as_many_pins_as_may_be 0 ≡ 0
pins-none_left = refl

-- the last hint decides, and a cut takes the protection away; a page need not be there
always-hinted : always (free 5) reclaimed_in_order 0 ≡ true
always-hinted = refl

always-not_hinted : always (free 5) reclaimed_in_order 1 ≡ false
always-not_hinted = refl

always-cold_since : always (free 5) (by 0 0 (calls.Hint (range 0 1) Cold) answer.Done ∷ reclaimed_in_order) 0 ≡ false
always-cold_since = refl

abbrev protected_and_cut : List Entry
protected_and_cut = by 1 0 (calls.Resize 1) (answer.Woke []) ∷ by 0 0 (calls.Hint (range 0 2) Always) answer.Done ∷ []

always-absent : always (born 2 (Some 4) false) (first_of protected_and_cut 1) 1 ≡ true
always-absent = refl

always-cut : always (born 2 (Some 4) false) protected_and_cut 1 ≡ false
always-cut = refl

always-kept : always (born 2 (Some 4) false) protected_and_cut 0 ≡ true
always-kept = refl

-- a loan lasts until the page is written, let dirty, pinned, zeroed, listed by an evict or vacate, or cut off
ends_loan-written : at lent_and_recalled 17 (λ before e. ends_loan (free 2) before e 1) ≡ Some true
ends_loan-written = refl

ends_loan-moved : at lent_and_recalled 8 (λ before e. ends_loan (free 2) before e 0) ≡ Some true
ends_loan-moved = refl

ends_loan-evicted : at lent_and_recalled 8 (λ before e. ends_loan (free 2) before e 1) ≡ Some true
ends_loan-evicted = refl

ends_loan-pinned : at pinned_and_cold 2 (λ before e. ends_loan (free 2) before e 0) ≡ Some true
ends_loan-pinned = refl

ends_loan-zeroed : at zeroed_and_listed 3 (λ before e. ends_loan (free 3) before e 2) ≡ Some true
ends_loan-zeroed = refl

ends_loan-let_dirty : at asked_before_dirty 3 (λ before e. ends_loan (trapping 1) before e 0) ≡ Some true
ends_loan-let_dirty = refl

ends_loan-cut : at cut_while_waiting 2 (λ before e. ends_loan (born 2 (Some 4) false) before e 1) ≡ Some true
ends_loan-cut = refl

ends_loan-hinted : at lent_and_recalled 1 (λ before e. ends_loan (free 2) before e 0) ≡ Some false
ends_loan-hinted = refl

ends_loan-supplied : at lent_and_recalled 13 (λ before e. ends_loan (free 2) before e 1) ≡ Some false
ends_loan-supplied = refl

loaned-not_yet : loaned (free 2) (first_of lent_and_recalled 3) 0 ≡ false
loaned-not_yet = refl

loaned-lent : loaned (free 2) (first_of lent_and_recalled 4) 0 ≡ true
loaned-lent = refl

loaned-asked_again : loaned (free 2) (first_of lent_and_recalled 7) 0 ≡ true
loaned-asked_again = refl

loaned-moved : loaned (free 2) (first_of lent_and_recalled 9) 0 ≡ false
loaned-moved = refl

loaned-evicted : loaned (free 2) (first_of lent_and_recalled 9) 1 ≡ false
loaned-evicted = refl

loaned-lent_again : loaned (free 2) (first_of lent_and_recalled 16) 1 ≡ true
loaned-lent_again = refl

loaned-written : loaned (free 2) lent_and_recalled 1 ≡ false
loaned-written = refl

-- who is left, and when the object is detached
users-born : users (free 1) [] ≡ 2
users-born = refl

users-pager_left : users (free 1) pager_left ≡ 2
users-pager_left = refl

users-one_left : users (free 1) (by 0 0 (calls.Leave User) (answer.Left 0) ∷ pager_left) ≡ 1
users-one_left = refl

pagers-there : pagers (free 1) (first_of pager_left 5) ≡ 1
pagers-there = refl

pagers-left : pagers (free 1) pager_left ≡ 0
pagers-left = refl

pagers-refused : pagers (on_disk 2 (Some 4)) (by 1 0 (calls.Leave Pager) (answer.Refused refusal.Detached) ∷ []) ≡ 2
pagers-refused = refl

detached-not_yet : detached (free 2) (first_of detached_while_waiting 1) ≡ false
detached-not_yet = refl

detached-by_a_call : detached (free 2) (first_of detached_while_waiting 2) ≡ true
detached-by_a_call = refl

detached-before_the_leave : detached (free 1) (first_of pager_left 5) ≡ false
detached-before_the_leave = refl

detached-by_the_last_pager : detached (free 1) pager_left ≡ true
detached-by_the_last_pager = refl

detached-by_the_last_user : detached (with_one_user 1) (by 0 0 (calls.Leave User) (answer.Left 1) ∷ waiting_alone) ≡ true
detached-by_the_last_user = refl

detached-one_of_two_left : detached (free 1) (by 0 0 (calls.Leave User) (answer.Left 0) ∷ []) ≡ false
detached-one_of_two_left = refl

detaches-call : detaches (free 2) (first_of detached_while_waiting 1) calls.Detach ≡ true
detaches-call = refl

detaches-second_call : detaches (free 2) (first_of detached_while_waiting 3) calls.Detach ≡ false
detaches-second_call = refl

detaches-last_pager : detaches (free 1) (first_of pager_left 5) (calls.Leave Pager) ≡ true
detaches-last_pager = refl

detaches-one_of_two_users : detaches (free 1) (first_of pager_left 5) (calls.Leave User) ≡ false
detaches-one_of_two_users = refl

detaches-detached_already : detaches (free 2) detached_while_waiting (calls.Leave Pager) ≡ false
detaches-detached_already = refl

detaches-another_call : detaches (free 2) [] calls.Packet ≡ false
detaches-another_call = refl
