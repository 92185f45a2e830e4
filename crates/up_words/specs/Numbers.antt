-- Numbers in a text.
use Rattle.std.specs.Prelude.{ℕ, ◌+◌, ◌-◌, ◌*◌, ◌==◌, ◌&&◌, Bool, true, false, cond, min, List, [], ◌∷◌, Option, Some, None, Result, Ok, nat_le}
use Rattle.up_words.specs.ReadSteps.{◌>>=◌, check, or_why}
use Rattle.up_words.specs.declared.fault.Why.{Why}
use Rattle.up_words.specs.declared.fault.Why.TheVariants as why

abbrev pub is_digit : ℕ → Bool
is_digit byte = nat_le 48 byte && nat_le byte 57

-- the number that these digits go on from n to, which may not pass the limit
unfoldable pub digits_from : ℕ → ℕ → List ℕ → Option ℕ
digits_from limit n [] = Some n
digits_from limit n (byte ∷ bytes) =
    cond (is_digit byte && nat_le (n * 10 + (byte - 48)) limit) (digits_from limit (n * 10 + (byte - 48)) bytes) None

-- the word is empty, or begins with a needless zero
abbrev pub has_bad_front : List ℕ → Bool
has_bad_front [] = true
has_bad_front (byte ∷ []) = false
has_bad_front (byte ∷ next ∷ bytes) = byte == 48

-- the number that a word spells, at most the limit
abbrev pub number : ℕ → List ℕ → Option ℕ
number limit word = cond (has_bad_front word) None (digits_from limit 0 word)

-- the number that these digits go on from n to, or the most where it is greater
unfoldable pub digits_up_to : ℕ → ℕ → List ℕ → Option ℕ
digits_up_to most n [] = Some n
digits_up_to most n (byte ∷ bytes) = cond (is_digit byte) (digits_up_to most (min (n * 10 + (byte - 48)) most) bytes) None

-- the number that a word spells, or the most where it is greater: no number has too many digits for it
abbrev pub number_up_to : ℕ → List ℕ → Option ℕ
number_up_to most word = cond (has_bad_front word) None (digits_up_to most 0 word)

-- a field of a line: a number within these bounds
abbrev pub number_between : ℕ → ℕ → List ℕ → Result ℕ Why
number_between low high word = do
  n ← or_why why.Number (number high word)
  large ← check why.Number (nat_le low n)
  Ok n
