-- Journals of pins, hints, evictions, loans and sizes: each is legal by computation alone.
use Rattle.std.specs.Prelude.{true, false, Some, List, [], ◌∷◌, ◌++◌, replicate, refl}
use Rattle.up_model.specs.Value.{value}
use Rattle.up_model.specs.Legal.{Legal}
use Rattle.up_model.proofs.JournalWords.{page, range, born, free, by, read_at, write_at, supply}
use Rattle.up_model.specs.declared.entry.Entry.{Entry}
use Rattle.up_model.specs.declared.entry.Brought.TheVariants.{Nothing, Frames, Scanned}
use Rattle.up_model.specs.declared.entry.HintKind.TheVariants.{Always, Cold}
use Rattle.up_num.specs.declared.answers.Refusal.TheVariants as refusal
use Rattle.up_model.specs.declared.entry.Call.TheVariants as calls
use Rattle.up_model.specs.declared.entry.Reply.TheVariants as answer

-- a pinned page is not evicted, though it is cold
abbrev pub pinned_and_cold : List Entry
pinned_and_cold =
    by 3 0 (calls.Evict 0 8) (answer.Pages (page 1 ∷ [])) ∷
    by 0 0 (calls.Unpin (range 1 1)) answer.Done ∷
    by 3 0 (calls.Evict 0 8) (answer.Pages []) ∷
    by 0 0 (calls.Hint (range 1 1) Cold) answer.Done ∷
    by 0 0 (calls.Pin (range 0 2) Nothing) answer.Done ∷
    by 0 0 (calls.Unpin (range 0 1)) (answer.Refused (refusal.Unpinned (page 0))) ∷
    by 2 0 (supply 0 2 97) (answer.Took 2 []) ∷ []

pinned_and_cold-legal : Legal (free 2) pinned_and_cold
unfolding value
pinned_and_cold-legal = (((((((tt, refl, refl), refl, refl), refl, refl), refl, refl), refl, refl), refl, refl), refl, refl)

-- 31 pins, and no more; without pins the page may go
abbrev pub as_many_pins_as_may_be : List Entry
as_many_pins_as_may_be =
    by 3 0 (calls.Evict 0 1) (answer.Pages (page 0 ∷ [])) ∷
    by 0 0 (calls.Unpin (range 0 1)) (answer.Refused (refusal.Unpinned (page 0))) ∷
    replicate 31 (by 0 0 (calls.Unpin (range 0 1)) answer.Done) ++
    by 3 0 (calls.Evict 0 1) (answer.Pages []) ∷
    by 0 0 (calls.Pin (range 0 1) Nothing) (answer.Refused (refusal.PinLimit (page 0))) ∷
    replicate 31 (by 0 0 (calls.Pin (range 0 1) Nothing) answer.Done) ++
    by 2 0 (supply 0 1 97) (answer.Took 1 []) ∷
    []

as_many_pins_as_may_be-legal : Legal (free 1) as_many_pins_as_may_be
unfolding value
as_many_pins_as_may_be-legal = (((((((((((((((((((((((((((((((((((((((((((((((((((((((((((((((((((tt, refl, refl), refl, refl), refl, refl), refl, refl), refl, refl), refl, refl), refl, refl), refl, refl), refl, refl), refl, refl), refl, refl), refl, refl), refl, refl), refl, refl), refl, refl), refl, refl), refl, refl), refl, refl), refl, refl), refl, refl), refl, refl), refl, refl), refl, refl), refl, refl), refl, refl), refl, refl), refl, refl), refl, refl), refl, refl), refl, refl), refl, refl), refl, refl), refl, refl), refl, refl), refl, refl), refl, refl), refl, refl), refl, refl), refl, refl), refl, refl), refl, refl), refl, refl), refl, refl), refl, refl), refl, refl), refl, refl), refl, refl), refl, refl), refl, refl), refl, refl), refl, refl), refl, refl), refl, refl), refl, refl), refl, refl), refl, refl), refl, refl), refl, refl), refl, refl), refl, refl), refl, refl), refl, refl), refl, refl), refl, refl), refl, refl), refl, refl), refl, refl)

-- pages grow old by epochs
abbrev pub grown_old : List Entry
grown_old =
    by 3 4 (calls.Evict 4 1) (answer.Pages (page 0 ∷ [])) ∷
    by 3 0 (calls.Evict 4 1) (answer.Pages []) ∷
    by 2 0 (supply 0 5 97) (answer.Took 5 []) ∷ []

grown_old-legal : Legal (free 5) grown_old
unfolding value
grown_old-legal = (((tt, refl, refl), refl, refl), refl, refl)

-- protected pages stay; the cold one goes first, then the oldest, then the one that was read
abbrev pub reclaimed_in_order : List Entry
reclaimed_in_order =
    by 3 4 (calls.Evict 0 8) (answer.Pages (page 1 ∷ [])) ∷
    by 3 4 (calls.Evict 4 2) (answer.Pages (page 3 ∷ [])) ∷
    by 3 4 (calls.Evict 4 2) (answer.Pages (page 4 ∷ page 2 ∷ [])) ∷
    by 0 4 (read_at 4096 1 1) (answer.Bytes (97 ∷ [])) ∷
    by 0 0 (calls.Hint (range 4 1) Cold) answer.Done ∷
    by 0 0 (calls.Hint (range 0 1) Always) answer.Done ∷
    by 2 0 (supply 0 5 97) (answer.Took 5 []) ∷ []

reclaimed_in_order-legal : Legal (free 5) reclaimed_in_order
unfolding value
reclaimed_in_order-legal = (((((((tt, refl, refl), refl, refl), refl, refl), refl, refl), refl, refl), refl, refl), refl, refl)

-- loans: a frame is lent to a page, given back by a vacate or a write, and a loose page on a loaned frame is evicted
abbrev pub lent_and_recalled : List Entry
lent_and_recalled =
    by 0 0 (write_at 4096 65 1 (Frames 1)) answer.Done ∷
    by 0 0 (write_at 4096 65 1 Nothing) (answer.Needs 1) ∷
    by 3 0 (calls.Borrow (page 1) (Frames 1)) (answer.Borrowed true) ∷
    by 3 0 (calls.Borrow (page 1) Nothing) (answer.Needs 1) ∷
    by 2 0 (supply 1 1 98) (answer.Took 1 []) ∷
    by 3 0 (calls.Borrow (page 0) Nothing) (answer.Refused (refusal.Unclean (page 0))) ∷
    by 0 0 (write_at 0 65 0 Nothing) answer.Done ∷
    by 3 0 (calls.Borrow (page 0) Scanned) (answer.Refused refusal.NoFrames) ∷
    by 3 0 (calls.Borrow (page 0) Nothing) (answer.Needs 1) ∷
    by 3 0 (calls.Vacate (Frames 1)) (answer.Vacated (page 0 ∷ []) (page 1 ∷ [])) ∷
    by 3 0 (calls.Vacate Nothing) (answer.Needs 1) ∷
    by 3 0 (calls.Borrow (page 0) Nothing) (answer.Borrowed false) ∷
    by 3 0 (calls.Borrow (page 1) (Frames 1)) (answer.Borrowed true) ∷
    by 3 0 (calls.Borrow (page 1) Nothing) (answer.Needs 1) ∷
    by 3 0 (calls.Borrow (page 0) (Frames 1)) (answer.Borrowed true) ∷
    by 3 0 (calls.Borrow (page 0) Nothing) (answer.Needs 1) ∷
    by 0 0 (calls.Hint (range 0 1) Always) answer.Done ∷
    by 2 0 (supply 0 2 97) (answer.Took 2 []) ∷ []

lent_and_recalled-legal : Legal (free 2) lent_and_recalled
unfolding value
lent_and_recalled-legal = ((((((((((((((((((tt, refl, refl), refl, refl), refl, refl), refl, refl), refl, refl), refl, refl), refl, refl), refl, refl), refl, refl), refl, refl), refl, refl), refl, refl), refl, refl), refl, refl), refl, refl), refl, refl), refl, refl), refl, refl)

-- a write to a zero page needs a frame
abbrev pub grown_with_one_frame : List Entry
grown_with_one_frame =
    by 1 0 (write_at 4096 66 1 Scanned) (answer.Refused refusal.NoFrames) ∷
    by 1 0 (calls.Evict 0 1) (answer.Pages []) ∷
    by 1 0 (calls.Evict 4 1) (answer.Pages []) ∷
    by 1 0 (write_at 4096 66 1 Nothing) (answer.Needs 1) ∷
    by 0 0 (write_at 0 65 0 (Frames 1)) answer.Done ∷
    by 0 0 (write_at 0 65 0 Nothing) (answer.Needs 1) ∷
    by 0 0 (calls.Resize 2) (answer.Woke []) ∷ []

grown_with_one_frame-legal : Legal (born 0 (Some 2) false) grown_with_one_frame
unfolding value
grown_with_one_frame-legal = (((((((tt, refl, refl), refl, refl), refl, refl), refl, refl), refl, refl), refl, refl), refl, refl)

-- a resize cuts off the page that a read waits for
abbrev pub cut_while_waiting : List Entry
cut_while_waiting =
    by 1 0 (calls.Resize 5) (answer.Refused refusal.Range) ∷
    by 1 0 (calls.Resize 0) (answer.Woke []) ∷
    by 0 0 (calls.Retry 0 Nothing) (answer.Refused refusal.Range) ∷
    by 1 0 (calls.Resize 1) (answer.Woke (0 ∷ [])) ∷
    by 0 0 (read_at 4096 1 1) (answer.Blocked 0) ∷
    by 2 0 (supply 0 1 97) (answer.Took 1 []) ∷ []

cut_while_waiting-legal : Legal (born 2 (Some 4) false) cut_while_waiting
unfolding value
cut_while_waiting-legal = ((((((tt, refl, refl), refl, refl), refl, refl), refl, refl), refl, refl), refl, refl)

-- a resize cuts off a page beside a pinned one, and is refused where it would cut off the pinned one
abbrev pub cut_beside_a_pin : List Entry
cut_beside_a_pin =
    by 1 0 (calls.Resize 5) (answer.Refused refusal.Range) ∷
    by 1 0 (calls.Resize 0) (answer.Refused (refusal.Pinned (page 0))) ∷
    by 0 0 (calls.Retry 0 Nothing) (answer.Refused refusal.Range) ∷
    by 1 0 (calls.Resize 1) (answer.Woke (0 ∷ [])) ∷
    by 0 0 (read_at 4096 1 1) (answer.Blocked 0) ∷
    by 1 0 (calls.Pin (range 0 1) Nothing) answer.Done ∷
    by 2 0 (supply 0 1 97) (answer.Took 1 []) ∷ []

cut_beside_a_pin-legal : Legal (born 2 (Some 4) false) cut_beside_a_pin
unfolding value
cut_beside_a_pin-legal = (((((((tt, refl, refl), refl, refl), refl, refl), refl, refl), refl, refl), refl, refl), refl, refl)

-- an object of fixed size refuses each resize
abbrev pub fixed_size : List Entry
fixed_size =
    by 0 0 (calls.Resize 2) (answer.Refused refusal.Fixed) ∷ []

fixed_size-legal : Legal (free 2) fixed_size
unfolding value
fixed_size-legal = (tt, refl, refl)
