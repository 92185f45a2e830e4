-- What reading and writing say of one another.
use Rattle.std.specs.Prelude.{◌≡◌, ℕ, ◌++◌, true, List, [], Ok}
use Rattle.up_text.specs.Allowed.{have_texts, are_within}
use Rattle.up_text.specs.Text.{text}
use Rattle.up_text.specs.Reading.{journals_of}
use Rattle.up_text.specs.Versions.{Versioned}

-- the text of journals within the limits is read as these journals
abbrev pub ReadsItsText : Type 0
ReadsItsText = (journals : Versioned) → are_within journals ≡ true → journals_of (text journals) ≡ Ok journals

-- no other text is read as them
abbrev pub ReadsOnlyItsText : Type 0
ReadsOnlyItsText = (bytes : List ℕ) (journals : Versioned) → journals_of bytes ≡ Ok journals → bytes ≡ text journals

-- what was read keeps the limits
abbrev pub ReadsWithinLimits : Type 0
ReadsWithinLimits = (bytes : List ℕ) (journals : Versioned) → journals_of bytes ≡ Ok journals → are_within journals ≡ true

-- Where a text of journals, of whatever length, begins with the text of others, these are the same journals of the same version, and nothing is left over.
-- Their numbers, names and byte lists are such as the grammar has; their names may be the same, and there may be as many of them as one likes.
abbrev pub NoTextBeginsAnother : Type 0
NoTextBeginsAnother = (first second : Versioned) (rest : List ℕ) → have_texts first ≡ true → have_texts second ≡ true → text first ++ rest ≡ text second → (first ≡ second) × (rest ≡ [])
