-- Which numbers, ranges and byte lists a text can spell.
use Rattle.std.specs.Prelude.{ℕ, ◌&&◌, Bool, List, length, nat_le}
use Rattle.std.specs.List.{list_all}
use Rattle.up_words.specs.Words.{is_byte}
use Rattle.up_num.specs.Span.{Span}
use Rattle.up_num.specs.declared.pages.PageNo.{PageNo}
use Rattle.up_fields.specs.Limits.{all_tickets, all_pages, all_sizes}

-- the number lies within these bounds
abbrev pub lies : ℕ → ℕ → ℕ → Bool
lies low high n = nat_le low n && nat_le n high

-- a page that has a number
abbrev pub page_lies : PageNo → Bool
page_lies page = lies 0 all_pages page.0

-- a range of 1 to 65,536 pages
abbrev pub range_lies : Span → Bool
range_lies range = lies 0 all_pages range.first && lies 1 all_sizes range.count

-- at least one byte, and no more than there are tickets
abbrev pub are_bytes : List ℕ → Bool
are_bytes bytes = lies 1 all_tickets (length bytes) && list_all is_byte bytes
