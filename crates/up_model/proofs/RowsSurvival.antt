-- Two journals of a write and what follows it: in one its bytes stay, in the other a writeback could have read them. Each is
-- legal by computation alone, and each part of the law on survival is computed at it.
use Rattle.std.specs.Prelude.{◌≡◌, true, false, Some, None, List, [], ◌∷◌, refl}
use Rattle.up_model.specs.Value.{value, there}
use Rattle.up_model.specs.Legal.{Legal}
use Rattle.up_model.specs.Positions.{first_of, said_at, passes_at, beginning, ending, dirtying}
use Rattle.up_model.specs.Survival.{writing, writes_byte, byte_given}
use Rattle.up_model.proofs.JournalWords.{page, range, free, by, read_at, write_at, supply}
use Rattle.up_model.specs.declared.entry.Entry.{Entry}
use Rattle.up_model.specs.declared.entry.Brought.TheVariants.{Nothing}
use Rattle.up_model.specs.declared.entry.Call.TheVariants as calls
use Rattle.up_model.specs.declared.entry.Reply.TheVariants as answer

-- the page is written again after the begin, so the end doesn't settle it, and no evict takes it: the first write's byte stays
abbrev pub kept_over_a_writeback : List Entry
kept_over_a_writeback =
    by 0 0 (read_at 0 2 0) (answer.Bytes (65 ∷ 66 ∷ [])) ∷
    by 3 0 (calls.Evict 0 8) (answer.Pages []) ∷
    by 2 0 (calls.End (range 0 1) None) (answer.Woke []) ∷
    by 0 0 (write_at 1 66 0 Nothing) answer.Done ∷
    by 2 0 (calls.Begin (range 0 1) false) answer.Done ∷
    by 0 0 (write_at 0 65 0 Nothing) answer.Done ∷
    by 2 0 (supply 0 1 97) (answer.Took 1 []) ∷ []

kept_over_a_writeback-legal : Legal (free 1) kept_over_a_writeback
unfolding value
kept_over_a_writeback-legal = (((((((tt, refl, refl), refl, refl), refl, refl), refl, refl), refl, refl), refl, refl), refl, refl)

-- the write of byte 0 stands at position 1
kept-written : said_at None (writes_byte 0) kept_over_a_writeback 1 ≡ Some 65
kept-written = refl

-- the first case holds: the page is there, with the byte of its last write
kept-there : there (free 1) kept_over_a_writeback 0 ≡ true
unfolding value
kept-there = refl

kept-value : value (free 1) kept_over_a_writeback 0 ≡ Some 65
unfolding value
kept-value = refl

kept-given : byte_given (free 1) kept_over_a_writeback 0 ≡ Some 65
kept-given = refl

-- the second doesn't: the only begin counts, and an end follows, but the page was dirtied between them
kept-begin : passes_at (beginning (free 1) 0) kept_over_a_writeback 2 ≡ true
unfolding value
kept-begin = refl

kept-end : passes_at (ending 0) kept_over_a_writeback 4 ≡ true
kept-end = refl

kept-dirtied : passes_at (dirtying (free 1) 0) kept_over_a_writeback 3 ≡ true
kept-dirtied = refl

-- nothing is written after the begin: the end settles the page, an evict takes it, and the pager brings other bytes
abbrev pub read_by_a_writeback : List Entry
read_by_a_writeback =
    by 0 0 (read_at 0 1 0) (answer.Bytes (122 ∷ [])) ∷
    by 2 0 (supply 0 1 122) (answer.Took 1 []) ∷
    by 3 0 (calls.Evict 0 8) (answer.Pages (page 0 ∷ [])) ∷
    by 2 0 (calls.End (range 0 1) None) (answer.Woke []) ∷
    by 2 0 (read_at 0 1 0) (answer.Bytes (65 ∷ [])) ∷
    by 2 0 (calls.Begin (range 0 1) false) answer.Done ∷
    by 0 0 (write_at 0 65 0 Nothing) answer.Done ∷
    by 2 0 (supply 0 1 97) (answer.Took 1 []) ∷ []

read_by_a_writeback-legal : Legal (free 1) read_by_a_writeback
unfolding value
read_by_a_writeback-legal = ((((((((tt, refl, refl), refl, refl), refl, refl), refl, refl), refl, refl), refl, refl), refl, refl), refl, refl)

read-written : passes_at (writing 0) read_by_a_writeback 1 ≡ true
read-written = refl

-- the first case doesn't hold: right after the evict the page isn't there, and in the end its byte isn't the last one written
read-gone : there (free 1) (first_of read_by_a_writeback 6) 0 ≡ false
unfolding value
read-gone = refl

read-value : value (free 1) read_by_a_writeback 0 ≡ Some 122
unfolding value
read-value = refl

read-given : byte_given (free 1) read_by_a_writeback 0 ≡ Some 65
read-given = refl

-- the second does: the begin at 2 counts, the end stands at 4, nothing between them dirtied the page, and from just before the
-- begin to just before the end its byte was the one written
read-begin : passes_at (beginning (free 1) 0) read_by_a_writeback 2 ≡ true
unfolding value
read-begin = refl

read-end : passes_at (ending 0) read_by_a_writeback 4 ≡ true
read-end = refl

read-still : passes_at (dirtying (free 1) 0) read_by_a_writeback 3 ≡ false
read-still = refl

read-at_the_begin : value (free 1) (first_of read_by_a_writeback 2) 0 ≡ byte_given (free 1) (first_of read_by_a_writeback 2) 0
unfolding value
read-at_the_begin = refl

read-after_the_begin : value (free 1) (first_of read_by_a_writeback 3) 0 ≡ byte_given (free 1) (first_of read_by_a_writeback 3) 0
unfolding value
read-after_the_begin = refl

read-before_the_end : value (free 1) (first_of read_by_a_writeback 4) 0 ≡ Some 65
unfolding value
read-before_the_end = refl
