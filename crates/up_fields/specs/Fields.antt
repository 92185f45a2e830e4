-- Fields of a journal's lines, as their words spell them.
use Rattle.std.specs.Prelude.{ℕ, ◌==◌, ◌&&◌, ◌||◌, ◌++◌, Bool, true, false, cond, List, [], ◌∷◌, Option, Some, None, Result, Ok, codes, length}
use Rattle.std.specs.List.{list_all}
use Rattle.std.specs.Str.{bytes_eq}
use Rattle.up_num.specs.Span.{Span}
use Rattle.up_num.specs.declared.pages.PageNo.{PageNo}
use Rattle.up_num.specs.declared.pages.DirtyRange.{DirtyRange}
use Rattle.up_words.specs.ReadSteps.{◌>>=◌, check, or_why, each}
use Rattle.up_words.specs.Words.{split, word_at}
use Rattle.up_words.specs.Numbers.{number_between}
use Rattle.up_words.specs.declared.fault.Why.{Why}
use Rattle.up_words.specs.declared.fault.Why.TheVariants.{Word}
use Rattle.up_fields.specs.Limits.{all_pages, all_sizes, all_tickets}
use Rattle.up_words.specs.declared.runs.ByteRuns.{ByteRuns}

-- something was found
abbrev pub is_found : {X : Type 0} → Option X → Bool
is_found None = false
is_found (Some x) = true

-- which of two fixed words this is
abbrev pub flag_in : List ℕ → List ℕ → List ℕ → Option Bool
flag_in set unset word = cond (bytes_eq word set) (Some true) (cond (bytes_eq word unset) (Some false) None)

-- a page's number, at most the greatest one
abbrev pub page_in : ℕ → List ℕ → Result PageNo Why
page_in most word = do
  page ← number_between 0 most word
  Ok (record { 0 = page })

-- a range, by the words of its first page and its count
abbrev pub range_in : List ℕ → List ℕ → Result Span Why
range_in first count = do
  page ← number_between 0 all_pages first
  pages ← number_between 1 all_sizes count
  Ok (record { first = page; count = pages })

-- one item more, which a piece of a list spells
abbrev pub list_step : {X : Type 0} → (List ℕ → Result X Why) → List X → List ℕ → Result (List X) Why
list_step item found piece = do
  x ← item piece
  Ok (found ++ x ∷ [])

-- the items of a list, or - for none
abbrev pub list_in : {X : Type 0} → (List ℕ → Result X Why) → List ℕ → Result (List X) Why
list_in item word = cond (bytes_eq word (codes "-")) (Ok []) (each (list_step item) [] (split 44 word))

-- the parts of a run of pages before and behind its colon
abbrev pub run_parts : List ℕ → List (List ℕ)
run_parts piece = split 58 piece

-- the numbers of a run of pages, which a plus sign parts
abbrev pub run_numbers : List ℕ → List (List ℕ)
run_numbers piece = split 43 (word_at (run_parts piece) 0)

-- the piece has a plus sign and a colon where a run of pages has them, and d or z at its end
abbrev pub is_run : List ℕ → Bool
is_run piece =
    length (run_parts piece) == 2 && (is_found (flag_in (codes "z") (codes "d") (word_at (run_parts piece) 1)) && length (run_numbers piece) == 2)

-- a run of pages that await writeback
abbrev pub run_of : List ℕ → Result DirtyRange Why
run_of piece = do
  shaped ← check Word (is_run piece)
  zero ← or_why Word (flag_in (codes "z") (codes "d") (word_at (run_parts piece) 1))
  range ← range_in (word_at (run_numbers piece) 0) (word_at (run_numbers piece) 1)
  Ok (record { range = range; zero = zero })

-- the word is of the form of a list of runs of pages
abbrev pub are_runs : List ℕ → Bool
are_runs word = bytes_eq word (codes "-") || list_all is_run (split 44 word)

-- the tickets of those who were woken
abbrev pub tickets_in : List ℕ → Result (List ℕ) Why
tickets_in word = list_in (number_between 0 all_tickets) word

-- the numbers of some pages
abbrev pub pages_in : List ℕ → Result (List PageNo) Why
pages_in word = list_in (page_in all_pages) word

-- runs of pages that await writeback
abbrev pub runs_of_pages_in : List ℕ → Result (List DirtyRange) Why
runs_of_pages_in word = list_in run_of word

-- how many bytes the runs spell
abbrev pub total_of : Option ByteRuns → ℕ
total_of None = 0
total_of (Some runs) = runs.total
