-- Numbered writebacks, computed at small journals: which numbers are given, which begins an end is for, and what it does to a page.
use Rattle.std.specs.Prelude.{◌≡◌, true, false, Some, None, [], refl}
use Rattle.up_num.specs.declared.answers.Refusal.TheVariants as refusal
use Rattle.up_model.proofs.JournalWords.{range, free, numbered}
use Rattle.up_model.proofs.RowsNumbered.{crossing_begins, crossing_unnumbered, zeros_pinned_between, begun_by_two, written_before_zeros}
use Rattle.up_model.specs.Deeds.{AnyBegin, ThisBegin, NoBegin, began_as, is_named, named}
use Rattle.up_model.specs.Value.{value, begun_by, settled}
use Rattle.up_model.specs.States.{plain, clean, awaiting, dirty, closing, empty_at_end}
use Rattle.up_model.specs.Numbers.{next_number, has_begun, begin_named, dirtied_at, zero_until, counts_since}
use Rattle.up_model.specs.Positions.{first_of}
use Rattle.up_model.specs.Reply.{proper, reply}
use Rattle.up_model.specs.declared.entry.Call.TheVariants as calls
use Rattle.up_model.specs.declared.entry.Reply.TheVariants as answer

-- which begins an end is for: by the birth, not by whether it names one
named-ranged : named (free 1) (calls.End (range 0 1) None) ≡ AnyBegin
named-ranged = refl

named-ranged_with_a_number : named (free 1) (calls.End (range 0 1) (Some 3)) ≡ AnyBegin
named-ranged_with_a_number = refl

named-numbered : named (numbered 1 None 1) (calls.End (range 0 1) (Some 3)) ≡ ThisBegin 3
named-numbered = refl

named-numbered_without_a_number : named (numbered 1 None 1) (calls.End (range 0 1) None) ≡ NoBegin
named-numbered_without_a_number = refl

named-no_end : named (free 1) (calls.Begin (range 0 1) false) ≡ NoBegin
named-no_end = refl

is_named-any : is_named AnyBegin answer.Done ≡ true
is_named-any = refl

is_named-this : is_named (ThisBegin 3) (answer.Began 3) ≡ true
is_named-this = refl

is_named-another : is_named (ThisBegin 3) (answer.Began 2) ≡ false
is_named-another = refl

is_named-none : is_named NoBegin (answer.Began 0) ≡ false
is_named-none = refl

began_as-done : began_as answer.Done 0 ≡ false
began_as-done = refl

-- the numbers, in order
next_number-first : next_number (first_of crossing_begins 2) ≡ 0
next_number-first = refl

next_number-one : next_number (first_of crossing_begins 4) ≡ 1
next_number-one = refl

next_number-two : next_number crossing_begins ≡ 2
next_number-two = refl

next_number-unnumbered : next_number crossing_unnumbered ≡ 0
next_number-unnumbered = refl

has_begun-before_it : has_begun (first_of crossing_begins 4) 1 ≡ false
has_begun-before_it = refl

has_begun-after_it : has_begun (first_of crossing_begins 5) 1 ≡ true
has_begun-after_it = refl

begin_named-first : begin_named begun_by_two 0 ≡ Some (record { range = range 0 1; only_zero = false })
begin_named-first = refl

begin_named-second : begin_named begun_by_two 1 ≡ Some (record { range = range 1 1; only_zero = false })
begin_named-second = refl

begin_named-zeros : begin_named zeros_pinned_between 0 ≡ Some (record { range = range 0 1; only_zero = true })
begin_named-zeros = refl

begin_named-nobody : begin_named begun_by_two 2 ≡ None
begin_named-nobody = refl

-- the end of an older begin, after a write in between, is for no begin that counts; that of the newer is
begun_by-older : begun_by (numbered 1 None 1) (first_of crossing_begins 5) (ThisBegin 0) 0 ≡ false
unfolding value
begun_by-older = refl

begun_by-newer : begun_by (numbered 1 None 1) (first_of crossing_begins 5) (ThisBegin 1) 0 ≡ true
unfolding value
begun_by-newer = refl

begun_by-any : begun_by (numbered 1 None 1) (first_of crossing_begins 5) AnyBegin 0 ≡ true
unfolding value
begun_by-any = refl

begun_by-none : begun_by (numbered 1 None 1) (first_of crossing_begins 5) NoBegin 0 ≡ false
unfolding value
begun_by-none = refl

awaiting-after_the_older_end : awaiting (numbered 1 None 1) (first_of crossing_begins 6) 0 ≡ true
unfolding value
awaiting-after_the_older_end = refl

clean-after_the_newer_end : clean (numbered 1 None 1) (first_of crossing_begins 8) 0 ≡ true
unfolding value
clean-after_the_newer_end = refl

clean-unnumbered_end : clean (free 1) (first_of crossing_unnumbered 6) 0 ≡ true
unfolding value
clean-unnumbered_end = refl

dirty-before_the_newer_begin : dirty (numbered 1 None 1) (first_of crossing_begins 4) 0 ≡ true
unfolding value
dirty-before_the_newer_begin = refl

-- a begin of zero pages counts over a pin after it
closing-pinned_since : closing (numbered 0 (Some 1) 1) (first_of zeros_pinned_between 4) (range 0 1) (Some 0) 0 ≡ true
unfolding value
closing-pinned_since = refl

plain-pinned_since : plain (numbered 0 (Some 1) 1) (first_of zeros_pinned_between 4) 0 ≡ false
unfolding value
plain-pinned_since = refl

empty_at_end-zero_page : empty_at_end (numbered 0 (Some 1) 1) (first_of zeros_pinned_between 2) (ThisBegin 0) 0 ≡ true
unfolding value
empty_at_end-zero_page = refl

empty_at_end-pinned_since : empty_at_end (numbered 0 (Some 1) 1) (first_of zeros_pinned_between 4) (ThisBegin 0) 0 ≡ false
unfolding value
empty_at_end-pinned_since = refl

-- but not for a page that was written before it
closing-written_before : closing (numbered 0 (Some 2) 1) (first_of written_before_zeros 3) (range 0 2) (Some 0) 0 ≡ false
unfolding value
closing-written_before = refl

closing-zero_page : closing (numbered 0 (Some 2) 1) (first_of written_before_zeros 3) (range 0 2) (Some 0) 1 ≡ true
unfolding value
closing-zero_page = refl

-- an end of a begin whose range hasn't the page is none for it, and one of another actor's begin is as its own
settled-not_in_its_range : settled (numbered 2 None 2) (first_of begun_by_two 6) 0 ≡ false
unfolding value
settled-not_in_its_range = refl

settled-in_its_range : settled (numbered 2 None 2) (first_of begun_by_two 6) 1 ≡ true
unfolding value
settled-in_its_range = refl

settled-by_another : settled (numbered 2 None 2) (first_of begun_by_two 8) 0 ≡ true
unfolding value
settled-by_another = refl

-- what is kept of a page says the same
dirtied_at-first : dirtied_at (numbered 1 None 1) (first_of crossing_begins 3) 0 ≡ 0
dirtied_at-first = refl

dirtied_at-since : dirtied_at (numbered 1 None 1) crossing_begins 0 ≡ 1
dirtied_at-since = refl

zero_until-still : zero_until (numbered 0 (Some 1) 1) (first_of zeros_pinned_between 2) 0 ≡ 0
unfolding value
zero_until-still = refl

zero_until-pinned : zero_until (numbered 0 (Some 1) 1) zeros_pinned_between 0 ≡ 1
unfolding value
zero_until-pinned = refl

counts_since-older : counts_since (numbered 1 None 1) crossing_begins (begin_named crossing_begins 0) 0 0 ≡ false
unfolding value
counts_since-older = refl

counts_since-newer : counts_since (numbered 1 None 1) crossing_begins (begin_named crossing_begins 1) 1 0 ≡ true
unfolding value
counts_since-newer = refl

counts_since-pinned : counts_since (numbered 0 (Some 1) 1) zeros_pinned_between (begin_named zeros_pinned_between 0) 0 0 ≡ true
unfolding value
counts_since-pinned = refl

-- an end has a number exactly where the birth is numbered
proper-end_ranged : proper (free 1) [] 2 (calls.End (range 0 1) None) ≡ true
proper-end_ranged = refl

proper-end_ranged_with_a_number : proper (free 1) [] 2 (calls.End (range 0 1) (Some 0)) ≡ false
proper-end_ranged_with_a_number = refl

proper-end_numbered : proper (numbered 1 None 1) [] 2 (calls.End (range 0 1) (Some 0)) ≡ true
proper-end_numbered = refl

proper-end_numbered_without_a_number : proper (numbered 1 None 1) [] 2 (calls.End (range 0 1) None) ≡ false
proper-end_numbered_without_a_number = refl

-- the range is refused first, then the number
begin-began : reply (numbered 1 None 1) (first_of crossing_begins 4) 2 0 (calls.Begin (range 0 1) true) ≡ answer.Began 1
unfolding value
begin-began = refl

begin-range : reply (numbered 1 None 1) [] 2 0 (calls.Begin (range 0 2) true) ≡ answer.Refused refusal.Range
unfolding value
begin-range = refl

end-range : reply (numbered 1 None 1) [] 2 0 (calls.End (range 0 2) (Some 0)) ≡ answer.Refused refusal.Range
unfolding value
end-range = refl

end-not_begun : reply (numbered 1 None 1) [] 2 0 (calls.End (range 0 1) (Some 0)) ≡ answer.Refused (refusal.NotBegun 0)
unfolding value
end-not_begun = refl

end-begun : reply (numbered 1 None 1) (first_of crossing_begins 6) 2 0 (calls.End (range 0 1) (Some 0)) ≡ answer.Woke []
unfolding value
end-begun = refl
