-- Lines written one after another, and the section to which they are read.
use Rattle.std.proofs.Common.{◌≡◌, ℕ, zero, suc, ◌+◌, ◌-◌, ◌<◌, ◌≤◌, Bool, true, false, List, [], ◌∷◌, ◌++◌, length, replicate, Some, Result, Ok, refl, ap, ◌∙◌, append_assoc, arith}
use Rattle.std.specs.List.{list_all}
use Rattle.std.proofs.lemmas.Bool.{le-leb}
use Rattle.up_words.specs.ReadSteps.{lines_from}
use Rattle.up_words.specs.Words.{split, words_in, is_word}
use Rattle.up_words.specs.declared.fault.Fault.{Fault}
use Rattle.up_words.proofs.ReadSteps.{lines_more}
use Rattle.up_fields.specs.Text.{line_of, line_text}
use Rattle.up_fields.proofs.Listed.{split_at}
use Rattle.up_fields.proofs.Sentences.{words_again, line_free, split_line}
use Rattle.up_script.specs.Declarations.{nothing_declared}
use Rattle.up_script.specs.Reading.{section_step, is_skipped, line_step, last_step}
use Rattle.up_script.specs.Text.{TextSoFar, and_line, header_written}
use Rattle.up_script.specs.Versions.{is_version, first_line, version_in}
use Rattle.up_script.specs.declared.reading.Section.{Section}
use Rattle.up_script.specs.declared.reading.Section.TheVariants as sections
use Rattle.up_script.specs.declared.script.Script.{Script}
use Rattle.up_script.proofs.FirstLine.{first_again}

-- what the lines of these bytes are read as, from line n on
abbrev pub Rest : ℕ → Section → List ℕ → Result Script Fault
Rest n section bytes = lines_from line_step last_step n section (split 10 bytes)

-- the text so far is read to this section
abbrev pub Reads : TextSoFar → Section → Type 0
Reads text section = (rest : List ℕ) → Rest 1 sections.Header (text.bytes ++ rest) ≡ Rest text.next section rest

-- the first line is passed
abbrev pub is_past : Section → Bool
is_past sections.Header = false
is_past _ = true

skip_step : (n : ℕ) (s : Section) → is_past s ≡ true → n ≤ 65536 → line_step n s [] ≡ Ok s
skip_step n sections.Header past few = absurd cc
skip_step n (sections.Declaring declared) past few = rw (le-leb n 65536 few) refl
skip_step n (sections.Acting declared played) past few = rw (le-leb n 65536 few) refl

-- an empty line
skip_line : (n : ℕ) (s : Section) (rest : List ℕ) → is_past s ≡ true → n ≤ 65536 → Rest n s (10 ∷ rest) ≡ Rest (n + 1) s rest
skip_line n s rest past few =
    ap (λ (ls : List (List ℕ)). lines_from line_step last_step n s ls) (split_at 10 [] rest refl refl) ∙ lines_more line_step last_step n s s [] rest (skip_step n s past few)

skip_lines : (k n : ℕ) (s : Section) (rest : List ℕ) → is_past s ≡ true → n + k ≤ 65537 → Rest n s (replicate k 10 ++ rest) ≡ Rest (n + k) s rest
skip_lines zero n s rest past few =
    let same : n ≡ n + 0 = omega arith in
    ap (λ m. Rest m s rest) same
skip_lines (suc k) n s rest past few =
    let next : n + 1 + k ≡ n + suc k = omega arith in
    skip_line n s (replicate k 10 ++ rest) past (omega arith) ∙ skip_lines k (n + 1) s rest past (omega arith) ∙ ap (λ m. Rest m s rest) next

-- a line of words
spoken_step : (n : ℕ) (s t : Section) (line : List ℕ) (words : List (List ℕ)) → is_past s ≡ true → n ≤ 65536 → length line ≤ 4096 → is_skipped line ≡ false → words_in line ≡ Ok words → section_step n s words ≡ Ok t → line_step n s line ≡ Ok t
spoken_step n sections.Header t line words past few short some is e = absurd cc
spoken_step n (sections.Declaring declared) t line words past few short some is e = rw (le-leb (length line) 4096 short, le-leb n 65536 few, some, is) e
spoken_step n (sections.Acting declared played) t line words past few short some is e = rw (le-leb (length line) 4096 short, le-leb n 65536 few, some, is) e

-- words that make a line of a script: not too long, and not skipped
pub record AreSpoken (words : List (List ℕ)) : Type 0 where
  pub some : 0 < length words
  pub good : list_all is_word words ≡ true
  pub short : length (line_of words) ≤ 4096
  pub shown : is_skipped (line_of words) ≡ false

-- one line more
pub add_line : (text : TextSoFar) (s t : Section) (number : ℕ) (words : List (List ℕ)) → Reads text s → is_past s ≡ true → text.next + (number - text.next) ≤ 65536 → AreSpoken words
    → section_step (text.next + (number - text.next)) s words ≡ Ok t → Reads (and_line text number words) t
add_line text s t number words reads past few are e rest =
    let gap = replicate (number - text.next) 10 in
    let line = line_of words in
    let m = text.next + (number - text.next) in
    let step = spoken_step m s t line words past few are.short are.shown (words_again words are.some are.good) e in
    ap (λ bytes. Rest 1 sections.Header bytes) (append_assoc text.bytes (gap ++ line_text words) rest) ∙ reads ((gap ++ line_text words) ++ rest)
    ∙ ap (λ bytes. Rest text.next s bytes) (append_assoc gap (line_text words) rest) ∙ skip_lines (number - text.next) text.next s (line_text words ++ rest) past (omega arith)
    ∙ ap (λ (ls : List (List ℕ)). lines_from line_step last_step m s ls) (split_line line rest (line_free words are.good)) ∙ lines_more line_step last_step m s t line rest step

-- the first line
pub header_reads : (version : ℕ) → is_version version ≡ true → Reads (header_written version) (sections.Declaring (nothing_declared version))
header_reads version known rest =
    let line = first_line version in
    let first = first_again version known in
    ap (λ (ls : List (List ℕ)). lines_from line_step last_step 1 sections.Header ls) (split_line line rest first.free)
    ∙ lines_more line_step last_step 1 sections.Header (sections.Declaring (nothing_declared version)) line rest (first_step line version first.short first.again)
  where
    first_step : (line : List ℕ) (version : ℕ) → length line ≤ 4096 → version_in line ≡ Some version → line_step 1 sections.Header line ≡ Ok (sections.Declaring (nothing_declared version))
    first_step line version short is = rw (le-leb (length line) 4096 short, is) refl
