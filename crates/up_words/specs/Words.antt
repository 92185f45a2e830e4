-- Lines and words of a text.
use Rattle.std.specs.Prelude.{ℕ, ◌==◌, ◌&&◌, Bool, List, [], Result, Ok, get_or, length, nat_le, nat_lt, not}
use Rattle.std.specs.List.{slice_split, list_all}
use Rattle.std.specs.Str.{bytes_eq}
use Rattle.up_words.specs.ReadSteps.{◌>>=◌, check}
use Rattle.up_words.specs.declared.fault.Why.{Why}
use Rattle.up_words.specs.declared.fault.Why.TheVariants.{Word}

-- the pieces of a text between the bytes that part it
abbrev pub split : ℕ → List ℕ → List (List ℕ)
split separator bytes = slice_split (λ byte. byte == separator) bytes

-- a byte
abbrev pub is_byte : ℕ → Bool
is_byte n = nat_lt n 256

abbrev pub is_word_byte : ℕ → Bool
is_word_byte byte = nat_le 33 byte && nat_le byte 126

-- a word has bytes from 33 to 126, at least one
abbrev pub is_word : List ℕ → Bool
is_word word = not (length word == 0) && list_all is_word_byte word

-- a line is words that single spaces part
abbrev pub words_in : List ℕ → Result (List (List ℕ)) Why
words_in line = do
  good ← check Word (list_all is_word (split 32 line))
  Ok (split 32 line)

-- the word at a place, none past the end
abbrev pub word_at : List (List ℕ) → ℕ → List ℕ
word_at words place = get_or words place []

-- the word at this place is this text
abbrev pub word_is : List (List ℕ) → ℕ → List ℕ → Bool
word_is words place text = bytes_eq (word_at words place) text

-- the word at this place is this text, and there are so many words
abbrev pub verb_is : List (List ℕ) → ℕ → List ℕ → ℕ → Bool
verb_is words place text count = word_is words place text && (length words == count)
