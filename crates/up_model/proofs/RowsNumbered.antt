-- Journals of numbered objects, whose ends name the begin that they end: each is legal by computation alone.
use Rattle.std.specs.Prelude.{true, false, Some, None, List, [], ◌∷◌, refl}
use Rattle.up_model.specs.Value.{value}
use Rattle.up_model.specs.Legal.{Legal}
use Rattle.up_model.proofs.JournalWords.{range, run_of_zeros, run_of_bytes, numbered, free, by, read_at, write_at, supply}
use Rattle.up_model.specs.declared.entry.Entry.{Entry}
use Rattle.up_model.specs.declared.entry.Brought.TheVariants.{Nothing, Frames}
use Rattle.up_num.specs.declared.answers.Refusal.TheVariants as refusal
use Rattle.up_model.specs.declared.entry.Call.TheVariants as calls
use Rattle.up_model.specs.declared.entry.Reply.TheVariants as answer

-- two begins that cross a write: the end of the older leaves the page dirty, that of the newer cleans it, and no other can be named
abbrev pub crossing_begins : List Entry
crossing_begins =
    by 2 0 (calls.End (range 0 1) (Some 2)) (answer.Refused (refusal.NotBegun 2)) ∷
    by 2 0 (calls.Query (range 0 1) 4) (answer.Ranges 0 []) ∷
    by 2 0 (calls.End (range 0 1) (Some 1)) (answer.Woke []) ∷
    by 2 0 (calls.Query (range 0 1) 4) (answer.Ranges 1 (run_of_bytes 0 1 ∷ [])) ∷
    by 2 0 (calls.End (range 0 1) (Some 0)) (answer.Woke []) ∷
    by 2 0 (calls.Begin (range 0 1) false) (answer.Began 1) ∷
    by 0 0 (write_at 0 66 0 Nothing) answer.Done ∷
    by 2 0 (calls.Begin (range 0 1) false) (answer.Began 0) ∷
    by 0 0 (write_at 0 65 0 Nothing) answer.Done ∷
    by 2 0 (supply 0 1 97) (answer.Took 1 []) ∷ []

crossing_begins-legal : Legal (numbered 1 None 1) crossing_begins
unfolding value
crossing_begins-legal = ((((((((((tt, refl, refl), refl, refl), refl, refl), refl, refl), refl, refl), refl, refl), refl, refl), refl, refl), refl, refl), refl, refl)

-- the same calls on an object that isn't numbered: the first end already cleans the page
abbrev pub crossing_unnumbered : List Entry
crossing_unnumbered =
    by 2 0 (calls.Query (range 0 1) 4) (answer.Ranges 0 []) ∷
    by 2 0 (calls.End (range 0 1) None) (answer.Woke []) ∷
    by 2 0 (calls.Begin (range 0 1) false) answer.Done ∷
    by 0 0 (write_at 0 66 0 Nothing) answer.Done ∷
    by 2 0 (calls.Begin (range 0 1) false) answer.Done ∷
    by 0 0 (write_at 0 65 0 Nothing) answer.Done ∷
    by 2 0 (supply 0 1 97) (answer.Took 1 []) ∷ []

crossing_unnumbered-legal : Legal (free 1) crossing_unnumbered
unfolding value
crossing_unnumbered-legal = (((((((tt, refl, refl), refl, refl), refl, refl), refl, refl), refl, refl), refl, refl), refl, refl)

-- a begin for zero pages counts, though its page is pinned before its end
abbrev pub zeros_pinned_between : List Entry
zeros_pinned_between =
    by 0 0 (read_at 0 1 0) (answer.Bytes (0 ∷ [])) ∷
    by 2 0 (calls.Query (range 0 1) 4) (answer.Ranges 0 []) ∷
    by 2 0 (calls.End (range 0 1) (Some 0)) (answer.Woke []) ∷
    by 0 0 (calls.Pin (range 0 1) (Frames 1)) answer.Done ∷
    by 0 0 (calls.Pin (range 0 1) Nothing) (answer.Needs 1) ∷
    by 2 0 (calls.Begin (range 0 1) true) (answer.Began 0) ∷
    by 0 0 (calls.Resize 1) (answer.Woke []) ∷ []

zeros_pinned_between-legal : Legal (numbered 0 (Some 1) 1) zeros_pinned_between
unfolding value
zeros_pinned_between-legal = (((((((tt, refl, refl), refl, refl), refl, refl), refl, refl), refl, refl), refl, refl), refl, refl)

-- two pagers begin other pages: an end by either, of either begin, is for the pages of that begin alone
abbrev pub begun_by_two : List Entry
begun_by_two =
    by 3 0 (calls.Query (range 0 2) 4) (answer.Ranges 0 []) ∷
    by 3 0 (calls.End (range 0 2) (Some 0)) (answer.Woke []) ∷
    by 3 0 (calls.Query (range 0 2) 4) (answer.Ranges 1 (run_of_bytes 0 1 ∷ [])) ∷
    by 2 0 (calls.End (range 0 2) (Some 1)) (answer.Woke []) ∷
    by 3 0 (calls.Begin (range 1 1) false) (answer.Began 1) ∷
    by 2 0 (calls.Begin (range 0 1) false) (answer.Began 0) ∷
    by 0 0 (write_at 4096 65 1 Nothing) answer.Done ∷
    by 0 0 (write_at 0 65 0 Nothing) answer.Done ∷
    by 2 0 (supply 0 2 97) (answer.Took 2 []) ∷ []

begun_by_two-legal : Legal (numbered 2 None 2) begun_by_two
unfolding value
begun_by_two-legal = (((((((((tt, refl, refl), refl, refl), refl, refl), refl, refl), refl, refl), refl, refl), refl, refl), refl, refl), refl, refl)

-- a begin for zero pages doesn't count for a page that was written before it, and an end of it leaves that page
abbrev pub written_before_zeros : List Entry
written_before_zeros =
    by 2 0 (calls.Query (range 0 2) 4) (answer.Ranges 1 (run_of_bytes 0 1 ∷ [])) ∷
    by 2 0 (calls.End (range 0 2) (Some 0)) (answer.Woke []) ∷
    by 2 0 (calls.Query (range 0 2) 4) (answer.Ranges 2 (run_of_bytes 0 1 ∷ run_of_zeros 1 1 ∷ [])) ∷
    by 2 0 (calls.Begin (range 0 2) true) (answer.Began 0) ∷
    by 0 0 (write_at 0 65 0 (Frames 1)) answer.Done ∷
    by 0 0 (calls.Resize 2) (answer.Woke []) ∷ []

written_before_zeros-legal : Legal (numbered 0 (Some 2) 1) written_before_zeros
unfolding value
written_before_zeros-legal = ((((((tt, refl, refl), refl, refl), refl, refl), refl, refl), refl, refl), refl, refl)
