-- The greatest numbers of a line's fields.
use Rattle.std.specs.Prelude.{ℕ}

-- positions, epochs and tickets
abbrev pub all_tickets : ℕ
all_tickets = 18446744073709551615

-- actors, lengths, ages and whatever is counted
abbrev pub all_counts : ℕ
all_counts = 4294967295

-- offsets, in bytes
abbrev pub all_offsets : ℕ
all_offsets = 8796093022208

-- numbers of pages
abbrev pub all_pages : ℕ
all_pages = 2147483648

-- the page in which an access ends
abbrev pub all_lasts : ℕ
all_lasts = 2147483664

-- how many pages a range or an object has
abbrev pub all_sizes : ℕ
all_sizes = 65536

-- what the byte lists of a text spell in sum
abbrev pub most_bytes : ℕ
most_bytes = 268435456
