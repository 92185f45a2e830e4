-- The lines of a text, one after the other.
use Rattle.std.proofs.Common.{◌≡◌, ℕ, ◌+◌, ◌<◌, eqb, List, [], ◌∷◌, length, Result, Ok, refl, ap, arith}
use Rattle.std.proofs.lemmas.List.Splits.{length-slice_split}
use Rattle.up_words.specs.ReadSteps.{◌>>=◌, at_line, lines_from, FailsText}
use Rattle.up_words.specs.Words.{split}
use Rattle.up_words.specs.declared.fault.Fault.{Fault}
use Rattle.up_words.specs.declared.fault.ReadFault.{ReadFault}
use Rattle.up_words.specs.declared.fault.ReadFault.TheVariants.{Bad, Memory}
use Rattle.up_text.specs.Reading.{line_step, last_step, lines_of}
use Rattle.up_text.specs.declared.section.Section.{Section}

some_lines : (bytes : List ℕ) → 0 < length (split 10 bytes)
some_lines bytes = omega (arith, length-slice_split (λ byte. eqb byte 10) bytes)

fail_of : (fault : ReadFault) (n : ℕ) (s : Section) (line : List ℕ) (lines : List (List ℕ)) → 0 < length lines → FailsText fault (at_line n (line_step s line)) → FailsText fault (lines_of n s (line ∷ lines))
unfolding lines_from
fail_of fault n s line [] some e = absurd (omega arith)
fail_of (Bad m why) n s line (l ∷ ls) some e = ap (λ (r : Result Section Fault). r >>= λ t. lines_of (n + 1) t (l ∷ ls)) e
fail_of Memory n s line (l ∷ ls) some e = tt

more_of : (n : ℕ) (s t : Section) (line : List ℕ) (lines : List (List ℕ)) → 0 < length lines → at_line n (line_step s line) ≡ Ok t → lines_of n s (line ∷ lines) ≡ lines_of (n + 1) t lines
unfolding lines_from
more_of n s t line [] some e = absurd (omega arith)
more_of n s t line (l ∷ ls) some e = ap (λ (r : Result Section Fault). r >>= λ t. lines_of (n + 1) t (l ∷ ls)) e

-- a fault in a line is the text's
pub lines_fail : (fault : ReadFault) (n : ℕ) (s : Section) (line bytes : List ℕ) → FailsText fault (at_line n (line_step s line)) → FailsText fault (lines_of n s (line ∷ split 10 bytes))
lines_fail fault n s line bytes e = fail_of fault n s line (split 10 bytes) (some_lines bytes) e

-- a line that is read, and those behind its newline
pub lines_more : (n : ℕ) (s t : Section) (line bytes : List ℕ) → at_line n (line_step s line) ≡ Ok t → lines_of n s (line ∷ split 10 bytes) ≡ lines_of (n + 1) t (split 10 bytes)
lines_more n s t line bytes e = more_of n s t line (split 10 bytes) (some_lines bytes) e

-- what stands behind the last newline
pub lines_last : (n : ℕ) (s : Section) (rest : List ℕ) → lines_of n s (rest ∷ []) ≡ at_line n (last_step s rest)
unfolding lines_from
lines_last n s rest = refl
