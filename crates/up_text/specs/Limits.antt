-- The greatest numbers of a journal's text.
use Rattle.std.specs.Prelude.{ℕ}

-- how many users or pagers an object has
abbrev pub all_actors : ℕ
all_actors = 64

-- the bytes of a text
abbrev pub longest_text : ℕ
longest_text = 67108864

-- how many journals a text has
abbrev pub most_journals : ℕ
most_journals = 16
