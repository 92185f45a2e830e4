-- The frames that a call brought: how they are spelled, and which have a text.
use Rattle.std.specs.Prelude.{ℕ, ◌==◌, ◌||◌, Bool, true, cond, List, ◌∷◌, Result, Ok, codes, drop, get_or, decimal}
use Rattle.std.specs.Str.{bytes_eq}
use Rattle.up_model.specs.declared.entry.Brought.{Brought}
use Rattle.up_model.specs.declared.entry.Brought.TheVariants.{Nothing, Frames, Scanned}
use Rattle.up_words.specs.ReadSteps.{◌>>=◌, check}
use Rattle.up_words.specs.Numbers.{number_between}
use Rattle.up_words.specs.declared.fault.Why.{Why}
use Rattle.up_words.specs.declared.fault.Why.TheVariants.{Word}
use Rattle.up_fields.specs.Limits.{all_counts}
use Rattle.up_fields.specs.Allowed.{lies}

-- the frames that a call brought: none yet, so many, or a scan
abbrev pub frames_text : Brought → List ℕ
frames_text Nothing = codes "-"
frames_text (Frames count) = 102 ∷ decimal count
frames_text Scanned = codes "s"

-- the word is of the form of frames
abbrev pub is_frames : List ℕ → Bool
is_frames word = bytes_eq word (codes "-") || (bytes_eq word (codes "s") || get_or word 0 0 == 102)

-- so many frames, at least one
abbrev pub frame_count_in : List ℕ → Result Brought Why
frame_count_in word = do
  shaped ← check Word (get_or word 0 0 == 102)
  count ← number_between 1 all_counts (drop 1 word)
  Ok (Frames count)

-- the frames that a call brought
abbrev pub frames_in : List ℕ → Result Brought Why
frames_in word =
    cond (bytes_eq word (codes "-")) (Ok Nothing)
    (cond (bytes_eq word (codes "s")) (Ok Scanned) (frame_count_in word))

-- where frames were brought, they are at least one
abbrev pub frames_lie : Brought → Bool
frames_lie (Frames count) = lies 1 all_counts count
frames_lie _ = true
