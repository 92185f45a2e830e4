-- Page numbers and ranges that contracts make of plain numbers.
use Rattle.std.specs.Prelude.{ℕ, Bool}
use Rattle.up_num.specs.declared.pages.PageNo.{PageNo}
use Rattle.up_num.specs.declared.pages.DirtyRange.{DirtyRange}

abbrev pub page_number : ℕ → PageNo
page_number p = record { 0 = p }

-- a run of pages that await writeback, where it is said whether they are zero pages
abbrev pub dirty_range : ℕ → ℕ → Bool → DirtyRange
dirty_range first count zero = record { range = record { first = first; count = count }; zero = zero }
