-- What reading and writing fields say of one another.
use Rattle.std.specs.Prelude.{◌≡◌, ℕ, true, List, Ok, decimal}
use Rattle.std.specs.List.{list_all}
use Rattle.up_num.specs.Span.{Span}
use Rattle.up_num.specs.declared.pages.PageNo.{PageNo}
use Rattle.up_num.specs.declared.pages.DirtyRange.{DirtyRange}
use Rattle.up_fields.specs.Limits.{all_tickets}
use Rattle.up_fields.specs.Text.{list_text, page_text, run_of_pages}
use Rattle.up_fields.specs.Fields.{range_in, tickets_in, pages_in, runs_of_pages_in}
use Rattle.up_fields.specs.Allowed.{lies, page_lies, range_lies}

-- a range that lies in its bounds is read from the texts of its two numbers
abbrev pub ReadsItsRange : Type 0
ReadsItsRange = (range : Span) → range_lies range ≡ true → range_in (decimal range.first) (decimal range.count) ≡ Ok range

-- it is read from no others, and lies in its bounds
abbrev pub ReadsOnlyItsRange : Type 0
ReadsOnlyItsRange = (range : Span) (first count : List ℕ) → range_in first count ≡ Ok range → (first ≡ decimal range.first) × (count ≡ decimal range.count) × (range_lies range ≡ true)

-- tickets are read from their text
abbrev pub ReadsItsTickets : Type 0
ReadsItsTickets = (tickets : List ℕ) → list_all (lies 0 all_tickets) tickets ≡ true → tickets_in (list_text decimal tickets) ≡ Ok tickets

abbrev pub ReadsOnlyItsTickets : Type 0
ReadsOnlyItsTickets = (word tickets : List ℕ) → tickets_in word ≡ Ok tickets → (word ≡ list_text decimal tickets) × (list_all (lies 0 all_tickets) tickets ≡ true)

-- numbers of pages are read from their text
abbrev pub ReadsItsPages : Type 0
ReadsItsPages = (pages : List PageNo) → list_all page_lies pages ≡ true → pages_in (list_text page_text pages) ≡ Ok pages

abbrev pub ReadsOnlyItsPages : Type 0
ReadsOnlyItsPages = (word : List ℕ) (pages : List PageNo) → pages_in word ≡ Ok pages → (word ≡ list_text page_text pages) × (list_all page_lies pages ≡ true)

-- runs of pages are read from their text
abbrev pub ReadsItsRuns : Type 0
ReadsItsRuns = (runs : List DirtyRange) → list_all (λ run. range_lies run.range) runs ≡ true → runs_of_pages_in (list_text run_of_pages runs) ≡ Ok runs

abbrev pub ReadsOnlyItsRuns : Type 0
ReadsOnlyItsRuns = (word : List ℕ) (runs : List DirtyRange) → runs_of_pages_in word ≡ Ok runs → (word ≡ list_text run_of_pages runs) × (list_all (λ run. range_lies run.range) runs ≡ true)
