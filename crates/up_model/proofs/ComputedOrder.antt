-- Use, age, the order of reclaiming, and what was changed, computed at small journals.
use Rattle.std.specs.Prelude.{◌≡◌, true, false, Some, None, List, [], ◌∷◌, refl}
use Rattle.up_model.specs.declared.entry.Entry.{Entry}
use Rattle.up_model.specs.declared.entry.HintKind.TheVariants.{Always, Cold}
use Rattle.up_num.specs.declared.answers.Refusal.TheVariants as refusal
use Rattle.up_model.proofs.JournalWords.{page, range, born, free, trapping, by, read_at, supply, at}
use Rattle.up_model.proofs.RowsReclaim.{pinned_and_cold, as_many_pins_as_may_be, reclaimed_in_order, cut_while_waiting}
use Rattle.up_model.proofs.RowsWaiting.{retried_too_early, asked_and_supplied, pager_left}
use Rattle.up_model.proofs.RowsWriteback.{written_since_its_begin, dirty_again_not_evicted, cleaned_and_evicted, changed_and_reset, asked_before_dirty, asked_dirty_not_evicted, grown_and_ended, zeroed_and_listed}
use Rattle.up_model.specs.Modified.{modifies, modified}
use Rattle.up_model.specs.Newest.{newest}
use Rattle.up_model.specs.Order.{loose, reclaimable, goes_before, order}
use Rattle.up_model.specs.Positions.{first_of}
use Rattle.up_model.specs.Use.{uses, last_use, cold_since, is_cold, newest_epoch, generation, age_class}
use Rattle.up_model.specs.Value.{value}
use Rattle.up_model.specs.declared.entry.Call.TheVariants as calls
use Rattle.up_model.specs.declared.entry.Reply.TheVariants as answer

-- what uses a page: a read that gives bytes, a write that is done, a supply that takes it, and a pin
uses-taken_supply : at pager_left 0 (λ before e. uses (free 1) before e 0) ≡ Some true
unfolding value
uses-taken_supply = refl

uses-supply_of_a_present_page : at pager_left 1 (λ before e. uses (free 1) before e 0) ≡ Some false
unfolding value
uses-supply_of_a_present_page = refl

uses-read : at reclaimed_in_order 3 (λ before e. uses (free 5) before e 1) ≡ Some true
unfolding value
uses-read = refl

uses-read_elsewhere : at reclaimed_in_order 3 (λ before e. uses (free 5) before e 2) ≡ Some false
unfolding value
uses-read_elsewhere = refl

uses-write : at written_since_its_begin 1 (λ before e. uses (free 1) before e 0) ≡ Some true
unfolding value
uses-write = refl

uses-pin : at pinned_and_cold 2 (λ before e. uses (free 2) before e 1) ≡ Some true
unfolding value
uses-pin = refl

uses-unpin : at pinned_and_cold 5 (λ before e. uses (free 2) before e 1) ≡ Some false
unfolding value
uses-unpin = refl

uses-hint : at reclaimed_in_order 2 (λ before e. uses (free 5) before e 4) ≡ Some false
unfolding value
uses-hint = refl

uses-waiting_read : at asked_and_supplied 0 (λ before e. uses (free 1) before e 0) ≡ Some false
unfolding value
uses-waiting_read = refl

-- the position of the last use
last_use-read : last_use (free 5) reclaimed_in_order 1 ≡ Some 3
unfolding value
last_use-read = refl

last_use-supplied : last_use (free 5) reclaimed_in_order 2 ≡ Some 0
unfolding value
last_use-supplied = refl

last_use-never : last_use (free 1) retried_too_early 0 ≡ None
unfolding value
last_use-never = refl

last_use-grown : last_use (born 2 (Some 4) false) (first_of grown_and_ended 1) 2 ≡ None
unfolding value
last_use-grown = refl

-- cold pages: the last hint cold, where no use came after it
cold_since-hinted : cold_since (free 5) (first_of reclaimed_in_order 4) 4 ≡ Some 2
unfolding value
cold_since-hinted = refl

cold_since-never : cold_since (free 5) (first_of reclaimed_in_order 4) 0 ≡ None
unfolding value
cold_since-never = refl

cold_since-read_since : cold_since (free 5) (by 0 0 (read_at 16384 1 4) (answer.Bytes (97 ∷ [])) ∷ first_of reclaimed_in_order 3) 4 ≡ None
unfolding value
cold_since-read_since = refl

-- an always hint after it leaves the page cold
cold_since-protected_since : cold_since (free 5) (by 0 0 (calls.Hint (range 4 1) Always) answer.Done ∷ first_of reclaimed_in_order 3) 4 ≡ Some 2
unfolding value
cold_since-protected_since = refl

is_cold-hinted : is_cold (free 5) (first_of reclaimed_in_order 4) 4 ≡ true
unfolding value
is_cold-hinted = refl

is_cold-not_hinted : is_cold (free 5) (first_of reclaimed_in_order 4) 3 ≡ false
unfolding value
is_cold-not_hinted = refl

-- epochs up to the last use; ages end at 7
newest_epoch-first : newest_epoch (first_of reclaimed_in_order 3) ≡ 0
newest_epoch-first = refl

newest_epoch-later : newest_epoch reclaimed_in_order ≡ 4
newest_epoch-later = refl

generation-read : generation (free 5) (first_of reclaimed_in_order 4) 1 ≡ 4
unfolding value
generation-read = refl

generation-supplied : generation (free 5) (first_of reclaimed_in_order 4) 2 ≡ 0
unfolding value
generation-supplied = refl

-- the epochs of others count, up to the use: here that of a refused unpin
generation-of_another_entry :
    generation (free 1) (by 0 1 (read_at 0 1 0) (answer.Bytes (97 ∷ [])) ∷ by 3 6 (calls.Unpin (range 0 1)) (answer.Refused (refusal.Unpinned (page 0))) ∷ first_of pager_left 1) 0
    ≡ 6
unfolding value
generation-of_another_entry = refl

age_class-old : age_class (free 5) (first_of reclaimed_in_order 4) 4 2 ≡ 4
unfolding value
age_class-old = refl

age_class-just_read : age_class (free 5) (first_of reclaimed_in_order 4) 4 1 ≡ 0
unfolding value
age_class-just_read = refl

age_class-oldest : age_class (free 5) (first_of reclaimed_in_order 4) 20 2 ≡ 7
unfolding value
age_class-oldest = refl

-- which pages may be evicted
loose-supplied : loose (free 5) (first_of reclaimed_in_order 4) 2 ≡ true
unfolding value
loose-supplied = refl

loose-absent : loose (free 1) [] 0 ≡ false
unfolding value
loose-absent = refl

loose-zero_page : loose (born 2 (Some 4) false) (first_of grown_and_ended 1) 2 ≡ false
unfolding value
loose-zero_page = refl

loose-dirty : loose (free 1) (first_of written_since_its_begin 2) 0 ≡ false
unfolding value
loose-dirty = refl

loose-pinned : loose (free 1) (first_of as_many_pins_as_may_be 2) 0 ≡ false
unfolding value
loose-pinned = refl

loose-unpinned : loose (free 1) (first_of as_many_pins_as_may_be 65) 0 ≡ true
unfolding value
loose-unpinned = refl

loose-protected : loose (free 5) (first_of reclaimed_in_order 4) 0 ≡ false
unfolding value
loose-protected = refl

loose-asked_to_be_dirty : loose (trapping 1) (first_of asked_dirty_not_evicted 2) 0 ≡ false
unfolding value
loose-asked_to_be_dirty = refl

loose-not_asked : loose (trapping 1) (first_of asked_dirty_not_evicted 1) 0 ≡ true
unfolding value
loose-not_asked = refl

reclaimable-old : reclaimable (free 5) (first_of reclaimed_in_order 4) 4 4 2 ≡ true
unfolding value
reclaimable-old = refl

reclaimable-young : reclaimable (free 5) (first_of reclaimed_in_order 4) 4 4 1 ≡ false
unfolding value
reclaimable-young = refl

reclaimable-cold : reclaimable (free 5) (first_of reclaimed_in_order 4) 4 9 4 ≡ true
unfolding value
reclaimable-cold = refl

reclaimable-protected : reclaimable (free 5) (first_of reclaimed_in_order 4) 4 0 0 ≡ false
unfolding value
reclaimable-protected = refl

-- cold pages first, then by use, then by number
goes_before-cold : goes_before (free 5) (first_of reclaimed_in_order 4) 4 2 ≡ true
unfolding value
goes_before-cold = refl

goes_before-not_cold : goes_before (free 5) (first_of reclaimed_in_order 4) 2 4 ≡ false
unfolding value
goes_before-not_cold = refl

goes_before-used_before : goes_before (free 5) (first_of reclaimed_in_order 4) 2 1 ≡ true
unfolding value
goes_before-used_before = refl

goes_before-used_later : goes_before (free 5) (first_of reclaimed_in_order 4) 1 2 ≡ false
unfolding value
goes_before-used_later = refl

goes_before-lower_number : goes_before (free 5) (first_of reclaimed_in_order 4) 2 3 ≡ true
unfolding value
goes_before-lower_number = refl

goes_before-higher_number : goes_before (free 5) (first_of reclaimed_in_order 4) 3 2 ≡ false
unfolding value
goes_before-higher_number = refl

abbrev cold_in_turn : List Entry
cold_in_turn =
    by 0 0 (calls.Hint (range 1 1) Cold) answer.Done ∷
    by 0 0 (calls.Hint (range 2 1) Cold) answer.Done ∷
    by 2 0 (supply 0 3 97) (answer.Took 3 []) ∷ []

goes_before-cold_before : goes_before (free 3) cold_in_turn 2 1 ≡ true
unfolding value
goes_before-cold_before = refl

goes_before-cold_later : goes_before (free 3) cold_in_turn 1 2 ≡ false
unfolding value
goes_before-cold_later = refl

order-all : order (free 5) (first_of reclaimed_in_order 4) 4 0 ≡ 4 ∷ 2 ∷ 3 ∷ 1 ∷ []
unfolding value
order-all = refl

order-old : order (free 5) (first_of reclaimed_in_order 4) 4 4 ≡ 4 ∷ 2 ∷ 3 ∷ []
unfolding value
order-old = refl

order-none : order (free 1) (first_of dirty_again_not_evicted 5) 0 0 ≡ []
unfolding value
order-none = refl

order-cold_in_turn : order (free 3) cold_in_turn 0 0 ≡ 2 ∷ 1 ∷ 0 ∷ []
unfolding value
order-cold_in_turn = refl

-- what changes the object: a write that is done, a resize to another size, a zero call
modifies-write : at changed_and_reset 2 (modifies (free 1)) ≡ Some true
modifies-write = refl

modifies-supply : at changed_and_reset 0 (modifies (free 1)) ≡ Some false
modifies-supply = refl

modifies-waiting_write : at asked_before_dirty 1 (modifies (trapping 1)) ≡ Some false
modifies-waiting_write = refl

modifies-growth : at grown_and_ended 0 (modifies (born 2 (Some 4) false)) ≡ Some true
modifies-growth = refl

modifies-cut : at cut_while_waiting 2 (modifies (born 2 (Some 4) false)) ≡ Some true
modifies-cut = refl

modifies-refused_resize : at cut_while_waiting 5 (modifies (born 2 (Some 4) false)) ≡ Some false
modifies-refused_resize = refl

modifies-same_size : modifies (born 2 (Some 4) false) [] (by 0 0 (calls.Resize 2) (answer.Woke [])) ≡ false
modifies-same_size = refl

modifies-zero_call : at zeroed_and_listed 3 (modifies (free 3)) ≡ Some true
modifies-zero_call = refl

modified-written : modified (free 1) (first_of changed_and_reset 3) ≡ true
modified-written = refl

modified-reset : modified (free 1) (first_of changed_and_reset 4) ≡ false
modified-reset = refl

modified-not_yet : modified (free 1) (first_of changed_and_reset 2) ≡ false
modified-not_yet = refl

modified-kept : modified (free 3) (by 2 0 (calls.Stats false) (answer.Modified true) ∷ first_of zeroed_and_listed 4) ≡ true
modified-kept = refl

-- the newest byte over an image that is all 48: supplies and evictions don't count
newest-image : newest (λ x. 48) (free 1) (first_of written_since_its_begin 1) 0 ≡ 48
newest-image = refl

newest-written : newest (λ x. 48) (free 1) written_since_its_begin 0 ≡ 65
newest-written = refl

newest-beside : newest (λ x. 48) (free 1) written_since_its_begin 2 ≡ 48
newest-beside = refl

newest-evicted : newest (λ x. 48) (free 1) cleaned_and_evicted 0 ≡ 65
newest-evicted = refl

newest-grown : newest (λ x. 48) (born 2 (Some 4) false) grown_and_ended 12288 ≡ 0
newest-grown = refl

newest-written_zeros : newest (λ x. 48) (born 2 (Some 4) false) grown_and_ended 8192 ≡ 65
newest-written_zeros = refl

newest-zeroed : newest (λ x. 48) (free 3) zeroed_and_listed 8192 ≡ 0
newest-zeroed = refl

newest-cut : newest (λ x. 48) (born 2 (Some 4) false) cut_while_waiting 0 ≡ 48
newest-cut = refl
