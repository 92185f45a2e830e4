-- What a loop over a list does one step on, and at the end.
use Rattle.std.proofs.Common.{◌≡◌, ℕ, ◌+◌, ◌<◌, ◌≤◌, eqb, List, [], ◌∷◌, length, get_or, drop, Result, Ok, Err, refl, sym, ap, ◌∙◌, arith}
use Rattle.std.proofs.lemmas.List.{at_drop_more, at_drop_all}
use Rattle.std.proofs.lemmas.List.Splits.{length-slice_split}
use Rattle.up_words.specs.ReadSteps.{◌>>=◌, each, at_line, lines_from, Fails, fault_of, FailsText}
use Rattle.up_words.specs.Words.{split}
use Rattle.up_words.specs.declared.fault.Stop.{Stop}
use Rattle.up_words.specs.declared.fault.Stop.TheVariants.{Found, Memory}
use Rattle.up_words.specs.declared.fault.Why.{Why}

pub each_more : {S X : Type 0} (step : S → X → Result S Why) (s t : S) (xs : List X) (i : ℕ) (d : X) (total : Result S Why) → i < length xs → step s (get_or xs i d) ≡ Ok t → each step s (drop i xs) ≡ total → each step t (drop (i + 1) xs) ≡ total
unfolding each
each_more step s t xs i d total lt one so_far =
    sym (at_drop_more (each step s) xs i d lt ∙ ap (λ r. r >>= λ u. each step u (drop (i + 1) xs)) one) ∙ so_far

pub each_fails : {S X : Type 0} (stop : Stop) (step : S → X → Result S Why) (s : S) (xs : List X) (i : ℕ) (d : X) (total : Result S Why) → i < length xs → Fails stop (step s (get_or xs i d)) → each step s (drop i xs) ≡ total → Fails stop total
unfolding each
each_fails (Found why) step s xs i d total lt one so_far =
    sym so_far ∙ (at_drop_more (each step s) xs i d lt ∙ ap (λ r. r >>= λ u. each step u (drop (i + 1) xs)) one)
each_fails Memory step s xs i d total lt one so_far = tt

pub each_done : {S X : Type 0} (step : S → X → Result S Why) (s : S) (xs : List X) (i : ℕ) (total : Result S Why) → length xs ≤ i → each step s (drop i xs) ≡ total → total ≡ Ok s
unfolding each
each_done step s xs i total le so_far = sym so_far ∙ at_drop_all (each step s) xs i le

module _ {S R : Type 0} (step : ℕ → S → List ℕ → Result S Why) (last : ℕ → S → List ℕ → Result R Why) where
  more_of : (n : ℕ) (s t : S) (line : List ℕ) (lines : List (List ℕ)) → 0 < length lines → step n s line ≡ Ok t → lines_from step last n s (line ∷ lines) ≡ lines_from step last (n + 1) t lines
  unfolding lines_from
  more_of n s t line [] some one = absurd (omega arith)
  more_of n s t line (l ∷ ls) some one = ap (λ r. at_line n r >>= λ u. lines_from step last (n + 1) u (l ∷ ls)) one

  err_of : (n : ℕ) (s : S) (line : List ℕ) (lines : List (List ℕ)) (why : Why) → 0 < length lines → step n s line ≡ Err why → lines_from step last n s (line ∷ lines) ≡ Err (record { line = n; why = why })
  unfolding lines_from
  err_of n s line [] why some one = absurd (omega arith)
  err_of n s line (l ∷ ls) why some one = ap (λ r. at_line n r >>= λ u. lines_from step last (n + 1) u (l ∷ ls)) one

  -- a line and those behind its newline
  pub lines_more : (n : ℕ) (s t : S) (line bytes : List ℕ) → step n s line ≡ Ok t → lines_from step last n s (line ∷ split 10 bytes) ≡ lines_from step last (n + 1) t (split 10 bytes)
  lines_more n s t line bytes one = more_of n s t line (split 10 bytes) (omega (arith, length-slice_split (λ byte. eqb byte 10) bytes)) one

  pub lines_fail : (stop : Stop) (n : ℕ) (s : S) (line bytes : List ℕ) → Fails stop (step n s line) → FailsText (fault_of n stop) (lines_from step last n s (line ∷ split 10 bytes))
  lines_fail (Found why) n s line bytes one = err_of n s line (split 10 bytes) why (omega (arith, length-slice_split (λ byte. eqb byte 10) bytes)) one
  lines_fail Memory n s line bytes one = tt

  pub lines_last : (n : ℕ) (s : S) (rest : List ℕ) → lines_from step last n s (rest ∷ []) ≡ at_line n (last n s rest)
  unfolding lines_from
  lines_last n s rest = refl

-- a stop in one line is the fault of that line
pub at_line_fails : {S : Type 0} (stop : Stop) (n : ℕ) (r : Result S Why) → Fails stop r → FailsText (fault_of n stop) (at_line n r)
at_line_fails (Found why) n r e = ap (at_line n) e
at_line_fails Memory n r e = tt
