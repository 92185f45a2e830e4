-- The bytes of frames, and the returns of frames to their bank.
use Rattle.std.specs.Prelude.{◌≡◌, ℕ, ◌+◌, ◌==◌, List, [], ◌∷◌, ◌++◌, length, take, drop, replicate, nat_lt, if◌then◌else◌}

-- the bytes of a frame that was never set
unfoldable pub zero_bytes : List ℕ
zero_bytes = replicate 4096 0

-- the bytes after others were written from a place on
abbrev pub written : List ℕ → ℕ → List ℕ → List ℕ
written old at new = take at old ++ (new ++ drop (at + length new) old)

-- a frame that came home, and its bytes
pub record Given : Type 0 where
  pub number : ℕ
  pub bytes : List ℕ

-- the bytes with which a frame came home last, by its bank's returns, the newest first: zeros where it never did
abbrev pub bytes_of : List Given → ℕ → List ℕ
bytes_of [] number = zero_bytes
bytes_of (g ∷ before) number = if g.number == number then g.bytes else bytes_of before number

-- the returns after some are those before with newer ones
pub record Extends (before after : List Given) : Type 0 where
  pub newer : List Given
  pub is : after ≡ newer ++ before

-- the newest return is of this frame with these bytes, and came after all that were known
pub record Brings (before after : List Given) (number : ℕ) (bytes : List ℕ) : Type 0 where
  pub others : List Given
  pub is : after ≡ record { number = number; bytes = bytes } ∷ (others ++ before)

-- of two seats' returns, the ones of which there are more: all seats know parts of one history
abbrev pub longer : List Given → List Given → List Given
longer a b = if nat_lt (length a) (length b) then b else a
