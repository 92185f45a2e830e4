-- Scripts that have a text: they keep every limit, also those of a text.
use Rattle.std.specs.Prelude.{◌≡◌, ℕ, ◌≤◌, ◌==◌, ◌&&◌, Bool, true, cond, List, [], ◌∷◌, Some, codes, length, nat_le, nat_lt}
use Rattle.std.specs.List.{list_all}
use Rattle.up_model.specs.declared.entry.Call.TheVariants as calls
use Rattle.up_words.specs.Words.{is_byte}
use Rattle.up_fields.specs.Text.{line_of}
use Rattle.up_script.specs.Fit.{Fits}
use Rattle.up_script.specs.Sound.{is_sound}
use Rattle.up_script.specs.Text.{TextSoFar, and_line, header_written, frames_words, loan_words, and_loan, are_usual, levels_words, stock_written, object_words, objects_written, actor_words, line_words, object_names, actor_names, declared_written, script_text}
use Rattle.up_script.specs.Versions.{has_modes}
use Rattle.up_script.specs.declared.script.Action.{Action}
use Rattle.up_script.specs.declared.script.Action.TheVariants as actions
use Rattle.up_script.specs.declared.script.Script.{Script}

-- a write's or a supply's bytes are bytes
abbrev pub has_bytes : Action → Bool
has_bytes (actions.Write object off bytes) = list_all is_byte bytes
has_bytes (actions.Act object (calls.Supply range bytes brought)) = list_all is_byte bytes
has_bytes _ = true

-- an end names its begin only where objects have a mode
abbrev pub is_spoken_in : ℕ → Action → Bool
is_spoken_in version (actions.Act object (calls.End range (Some n))) = has_modes version
is_spoken_in version _ = true

-- the line of this number and these words comes next or further on, within the numbers of lines, and isn't too long
abbrev pub fits_in : TextSoFar → ℕ → List (List ℕ) → Bool
fits_in text number words = nat_le text.next number && (nat_le number 65536 && nat_le (length (line_of words)) 4096)

-- so do the lines of all these, one after the other
unfoldable pub all_fit : {X : Type 0} → (X → ℕ) → (X → List (List ℕ)) → TextSoFar → List X → Bool
all_fit number words text [] = true
all_fit number words text (x ∷ xs) = fits_in text (number x) (words x) && all_fit number words (and_line text (number x) (words x)) xs

-- so does the line of the loaned frames, where there are some; else there is none
abbrev pub loan_fits : TextSoFar → ℕ → ℕ → Bool
loan_fits text number loan = cond (nat_lt 0 loan) (fits_in text number (loan_words loan)) (number == 0)

-- so does that of the marks, which is the next one, where they aren't the usual ones
abbrev pub levels_fit : TextSoFar → ℕ → ℕ → ℕ → Bool
levels_fit text frames warn critical = cond (are_usual frames warn critical) true (fits_in text text.next (levels_words warn critical))

-- the text of a script's frames, of its declarations, and of the line behind them
abbrev pub frames_of : Script → TextSoFar
frames_of script = and_line (header_written script.version) script.frames_line (frames_words script.frames)

abbrev pub stock_in : Script → TextSoFar
stock_in script = stock_written script.version script.frames script.frames_line script.loan script.loan_line script.warn script.critical

abbrev pub declared_in : Script → TextSoFar
declared_in script = declared_written script.version (stock_in script) script.objects script.actors

abbrev pub steps_in : Script → TextSoFar
steps_in script = and_line (declared_in script) 0 (codes "steps" ∷ [])

-- The script keeps all limits, and each of its lines has its number and its length in the text; byte lists have bytes.
pub record HasText (script : Script) : Type 0 where
  pub fits : Fits script
  pub sound : is_sound script ≡ true
  pub frames : fits_in (header_written script.version) script.frames_line (frames_words script.frames) ≡ true
  pub loan : loan_fits (frames_of script) script.loan_line script.loan ≡ true
  pub levels : levels_fit (and_loan (frames_of script) script.loan_line script.loan) script.frames script.warn script.critical ≡ true
  pub objects : all_fit (λ object. object.number) (object_words script.version) (stock_in script) script.objects ≡ true
  pub actors : all_fit (λ actor. actor.number) (actor_words (object_names script.objects)) (objects_written script.version (stock_in script) script.objects) script.actors ≡ true
  pub steps : fits_in (declared_in script) (declared_in script).next (codes "steps" ∷ []) ≡ true
  pub lines : all_fit (λ line. line.number) (line_words (object_names script.objects) (actor_names script.actors)) (steps_in script) script.lines ≡ true
  pub bytes : list_all (λ line. has_bytes line.action) script.lines ≡ true
  pub short : length (script_text script) ≤ 4194304
