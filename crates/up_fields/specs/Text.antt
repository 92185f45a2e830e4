-- The text of fields, lists and lines: words with a space between each two.
use Rattle.std.specs.Prelude.{ℕ, Bool, cond, List, [], ◌∷◌, ◌++◌, decimal, codes}
use Rattle.up_num.specs.Span.{Span}
use Rattle.up_num.specs.declared.pages.PageNo.{PageNo}
use Rattle.up_num.specs.declared.pages.DirtyRange.{DirtyRange}
use Rattle.up_num.specs.declared.answers.Code.{Code}
use Rattle.up_num.specs.declared.answers.Code.TheVariants.{Io, IoDataIntegrity, BadState, NoSpace, BufferTooSmall}

-- words, a space before each
abbrev pub spaced : List (List ℕ) → List ℕ
spaced [] = []
spaced (word ∷ words) = 32 ∷ word ++ spaced words

-- a line's words, with a space between each two
abbrev pub line_of : List (List ℕ) → List ℕ
line_of [] = []
line_of (word ∷ words) = word ++ spaced words

-- a line with its newline
abbrev pub line_text : List (List ℕ) → List ℕ
line_text words = line_of words ++ 10 ∷ []

-- one of two fixed words
abbrev pub flag_text : List ℕ → List ℕ → Bool → List ℕ
flag_text set unset flag = cond flag set unset

-- what stands behind other items, a comma before each
unfoldable pub more_text : {X : Type 0} → (X → List ℕ) → List X → List ℕ
more_text text [] = []
more_text text (x ∷ xs) = 44 ∷ text x ++ more_text text xs

-- items joined by commas, or - for none
abbrev pub list_text : {X : Type 0} → (X → List ℕ) → List X → List ℕ
list_text text [] = codes "-"
list_text text (x ∷ xs) = text x ++ more_text text xs

-- a page's number
abbrev pub page_text : PageNo → List ℕ
page_text page = decimal page.0

-- a run of pages that await writeback, as 7+2:d, or 7+2:z where they are zero pages
abbrev pub run_of_pages : DirtyRange → List ℕ
run_of_pages run = decimal run.range.first ++ 43 ∷ decimal run.range.count ++ 58 ∷ flag_text (codes "z") (codes "d") run.zero

abbrev pub code_text : Code → List ℕ
code_text Io = codes "io"
code_text IoDataIntegrity = codes "io-data-integrity"
code_text BadState = codes "bad-state"
code_text NoSpace = codes "no-space"
code_text BufferTooSmall = codes "buffer-too-small"

-- the first page of a range, and how many pages it has
abbrev pub range_words : Span → List (List ℕ)
range_words range = decimal range.first ∷ decimal range.count ∷ []
