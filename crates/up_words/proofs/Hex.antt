-- A hexadecimal digit is read from its text alone.
use Rattle.std.proofs.Common.{◌≡◌, ℕ, ◌+◌, ◌-◌, ◌<◌, ◌≤◌, Bool, true, false, ◌&&◌, cond, ltb, leb, ◌⊎◌, inl, inr, ⊎_elim, Some, None, refl, sym, ap, ◌∙◌, arith}
use Rattle.std.proofs.lemmas.Bool.{lt-ltb, le-ltb, le-leb, lt-leb, leb-true, cases_lt}
use Rattle.up_words.specs.Numbers.{is_digit}
use Rattle.up_words.specs.Runs.{hex, hex_value}
use Rattle.up_words.proofs.Decimals.{both, parts_of, some_is}

-- a digit below 10 is one of the bytes from 0 to 9
hex_low : (d : ℕ) → d < 10 → hex d ≡ 48 + d
hex_low d low = rw (lt-ltb d 10 low) refl

-- a digit from 10 on is one of the bytes from a to f
hex_high : (d : ℕ) → 10 ≤ d → hex d ≡ 87 + d
hex_high d high = rw (le-ltb d 10 high) refl

-- a digit's text is no less than the byte of 0
pub hex_least : (d : ℕ) → 48 ≤ hex d
hex_least d = by (ltb d 10)
  where
    by : (low : Bool) → 48 ≤ cond low (48 + d) (87 + d)
    by true = omega arith
    by false = omega arith

-- the value of a byte from 0 to 9
value_low : (byte : ℕ) → 48 ≤ byte → byte ≤ 57 → hex_value byte ≡ Some (byte - 48)
value_low byte least most = rw (both (leb 48 byte) (leb byte 57) (le-leb 48 byte least) (le-leb byte 57 most)) refl

-- the value of a byte from a to f
value_high : (byte : ℕ) → 97 ≤ byte → byte ≤ 102 → hex_value byte ≡ Some (byte - 97 + 10)
value_high byte least most =
    rw (le-leb 48 byte (omega arith), lt-leb byte 57 (omega arith), le-leb 97 byte least, le-leb byte 102 most) refl

-- a digit's text is read as the digit
pub hex_again : (d : ℕ) → d < 16 → hex_value (hex d) ≡ Some d
hex_again d within = ⊎_elim low high (cases_lt d 10)
  where
    low : d < 10 → hex_value (hex d) ≡ Some d
    low less = let same : 48 + d - 48 ≡ d = omega arith in
        ap hex_value (hex_low d less) ∙ value_low (48 + d) (omega arith) (omega arith) ∙ ap (λ (n : ℕ). Some n) same

    high : 10 ≤ d → hex_value (hex d) ≡ Some d
    high more = let same : 87 + d - 97 + 10 ≡ d = omega arith in
        ap hex_value (hex_high d more) ∙ value_high (87 + d) (omega arith) (omega arith) ∙ ap (λ (n : ℕ). Some n) same

-- the test by which a byte's value was found
test_of : (first second : Bool) (x y d : ℕ) → cond first (Some x) (cond second (Some y) None) ≡ Some d → ((first ≡ true) × (x ≡ d)) ⊎ ((second ≡ true) × (y ≡ d))
test_of true second x y d e = inl (refl, some_is x d e)
test_of false true x y d e = inr (refl, some_is y d e)
test_of false false x y d e = absurd cc

-- no other byte is read as the digit
pub hex_takes : (byte d : ℕ) → hex_value byte ≡ Some d → (byte ≡ hex d) × (d < 16)
hex_takes byte d e = ⊎_elim low high (test_of (is_digit byte) (leb 97 byte && leb byte 102) (byte - 48) (byte - 97 + 10) d e)
  where
    low : (is_digit byte ≡ true) × (byte - 48 ≡ d) → (byte ≡ hex d) × (d < 16)
    low h =
        let p = parts_of (leb 48 byte) (leb byte 57) h.0 in
        let least = leb-true 48 byte p.0 in
        let most = leb-true byte 57 p.1 in
        let same : byte ≡ 48 + d = omega (arith, h.1) in
        (same ∙ sym (hex_low d (omega (arith, h.1))), omega (arith, h.1))

    high : (leb 97 byte && leb byte 102 ≡ true) × (byte - 97 + 10 ≡ d) → (byte ≡ hex d) × (d < 16)
    high h =
        let p = parts_of (leb 97 byte) (leb byte 102) h.0 in
        let least = leb-true 97 byte p.0 in
        let most = leb-true byte 102 p.1 in
        let same : byte ≡ 87 + d = omega (arith, h.1) in
        (same ∙ sym (hex_high d (omega (arith, h.1))), omega (arith, h.1))
