-- What reading says, apart from how a text is read: numbers, words and byte lists have one text each.
use Rattle.std.specs.Prelude.{◌≡◌, ℕ, ◌<◌, ◌≤◌, ◌^◌, true, List, Some, Ok, length, decimal}
use Rattle.std.specs.List.{join_with_byte, list_all}
use Rattle.up_words.specs.Words.{words_in, is_byte}
use Rattle.up_words.specs.Numbers.{number}
use Rattle.up_words.specs.Runs.{runs_in, spread, bytes_text, too_many}
use Rattle.up_words.specs.declared.runs.ByteRuns.{ByteRuns}

-- the decimal text of a number is read as that number
abbrev pub ReadsDecimal : Type 0
ReadsDecimal = (limit n : ℕ) → limit < 2 ^ 64 → n ≤ limit → number limit (decimal n) ≡ Some n

-- no other text is read as that number, and none passes the limit
abbrev pub ReadsOnlyDecimal : Type 0
ReadsOnlyDecimal = (limit n : ℕ) (word : List ℕ) → limit < 2 ^ 64 → number limit word ≡ Some n → (word ≡ decimal n) × (n ≤ limit)

-- the words of a line, with a space between each two, are the line
abbrev pub JoinsWords : Type 0
JoinsWords = (line : List ℕ) (words : List (List ℕ)) → words_in line ≡ Ok words → join_with_byte 32 words ≡ line

-- the text of some bytes is read as runs that spread to these bytes
abbrev pub ReadsBytesText : Type 0
ReadsBytesText = (bytes : List ℕ) → 0 < length bytes → length bytes < too_many → list_all is_byte bytes ≡ true
    → (runs : ByteRuns) × (runs_in (bytes_text bytes) ≡ Ok runs) × (spread runs.found ≡ bytes) × (runs.total ≡ length bytes)

-- no other text is read as runs that spread to them
abbrev pub ReadsOnlyBytesText : Type 0
ReadsOnlyBytesText = (word : List ℕ) (runs : ByteRuns) → runs_in word ≡ Ok runs → runs.total < too_many
    → (word ≡ bytes_text (spread runs.found)) × (length (spread runs.found) ≡ runs.total)
