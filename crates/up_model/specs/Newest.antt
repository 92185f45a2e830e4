-- The newest byte over an image: what was written last, whatever was supplied or evicted since.
use Rattle.std.specs.Prelude.{ℕ, cond, Option, Some, None, List, [], ◌∷◌}
use Rattle.up_model.specs.Attempts.{page_of, attempt}
use Rattle.up_model.specs.Deeds.{writes, written, blanks}
use Rattle.up_model.specs.declared.entry.Birth.{Birth}
use Rattle.up_model.specs.declared.entry.Entry.{Entry}

abbrev pub byte_or : ℕ → Option ℕ → ℕ
byte_or other None = other
byte_or other (Some byte) = byte

-- the byte of the last write that has x, or 0 where a growth of its page or a zero call over it is later; without any of them
-- the image's byte. It doesn't look at supplies, evictions, begins or ends.
abbrev pub newest : (ℕ → ℕ) → Birth → List Entry → ℕ → ℕ
newest image birth [] x = image x
newest image birth (e ∷ before) x =
    cond (writes before e (page_of x)) (byte_or (newest image birth before x) (written (attempt before e) x))
    (cond (blanks birth before e (page_of x)) 0 (newest image birth before x))
