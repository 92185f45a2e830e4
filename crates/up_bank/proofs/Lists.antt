-- Lists of views and of slots by index, and bits of words by number of frame.
use Rattle.std.proofs.Common.{◌≡◌, ◌≢◌, ℕ, zero, suc, ◌+◌, ◌-◌, ◌*◌, ◌/◌, ◌%◌, ◌^◌, ◌<◌, ◌⊎◌, List, [], ◌∷◌, ◌++◌, length, get_or, set, sym, refl, ap, ◌∙◌, subst, inl, inr, ⊎_elim, arith, get_or-set_same, get_or-set_other}
use Rattle.std.specs.Int.{bit_at, w64}
use Rattle.std.specs.Prelude.{bit_and, bit_or}
use Rattle.std.proofs.lemmas.Nat.Bits.{bit_at_set_same, bit_at_set_other, bit_at_clear_same, bit_at_clear_other, bit_at_ones}
use mathlib.Core.Logic.{dite}
use mathlib.Core.Option.{some, some-injective, some-ne-none}
use native.Mathlib.Decide.{ℕ_discrete}
use lib.ListN.{get_elem?}
use Rattle.up_bank.specs.Bytes.{Given, Extends}
use Rattle.up_bank.specs.SeatSteps.{mask_of}
use Rattle.up_bank.specs.Banked.{home_bit, empty_bit}

module _ {A : Type 0} where
  -- an index at which something stands is below the length
  pub within : (l : List A) (j : ℕ) (a : A) → get_elem? l j ≡ some a → j < length l
  within [] j a e = absurd (some-ne-none a (sym e))
  within (x ∷ xs) zero a e = omega arith
  within (x ∷ xs) (suc j) a e = let h = within xs j a e in omega arith

  -- what stands in a list that got one more at its end
  pub at_end : (l : List A) (a b : A) (j : ℕ) → get_elem? (l ++ a ∷ []) j ≡ some b → (get_elem? l j ≡ some b) ⊎ ((j ≡ length l) × (a ≡ b))
  at_end [] a b zero e = inr (refl, some-injective a b e)
  at_end [] a b (suc j) e = absurd (some-ne-none b (sym e))
  at_end (x ∷ xs) a b zero e = inl e
  at_end (x ∷ xs) a b (suc j) e = ⊎_elim (λ (h : get_elem? xs j ≡ some b). inl h) (λ (h : (j ≡ length xs) × (a ≡ b)). let same : suc j ≡ length (x ∷ xs) = ap suc h.0 in inr (same, h.1)) (at_end xs a b j e)

pub at_yes : {P : Type 0} (d : Dec P) → P → (x y : ℕ) → dite d (λ _. x) (λ _. y) ≡ x
at_yes (yes p) h x y = refl
at_yes (no n) h x y = absurd (n h)

pub at_no : {P : Type 0} (d : Dec P) → (P → ⊥) → (x y : ℕ) → dite d (λ _. x) (λ _. y) ≡ y
at_no (yes p) h x y = absurd (h p)
at_no (no n) h x y = refl

-- a function with one value changed
pub put : (ℕ → ℕ) → ℕ → ℕ → ℕ → ℕ
put f k x q = dite (ℕ_discrete q k) (λ _. x) (λ _. f q)

pub put_here : (f : ℕ → ℕ) (k x : ℕ) → put f k x k ≡ x
unfolding put
put_here f k x = at_yes (ℕ_discrete k k) refl x (f k)

pub put_else : (f : ℕ → ℕ) (k x q : ℕ) → q ≢ k → put f k x q ≡ f q
unfolding put
put_else f k x q other = at_no (ℕ_discrete q k) other x (f q)

-- returns that are no fewer
pub extends_none : (gs : List Given) → Extends gs gs
extends_none gs = record { newer = []; is = refl }

-- the bit 1 of a frame's word
abbrev pub bit_of : ℕ → ℕ
bit_of number = 1 * 2 ^ (number % 64) % 2 ^ 64

-- a word whose bits are as before, but for the frame's
abbrev pub OthersStay : ℕ → ℕ → ℕ → Type 0
OthersStay number was now = (i : ℕ) → i < 64 → i ≢ number % 64 → bit_at now i ≡ bit_at was i

pub clear_stays : (was number : ℕ) → OthersStay number was (bit_and was (mask_of number))
clear_stays was number i small other = bit_at_clear_other w64 was (number % 64) (omega arith) i small other

pub clear_here : (was number : ℕ) → bit_at (bit_and was (mask_of number)) (number % 64) ≡ 0
clear_here was number = bit_at_clear_same w64 was (number % 64) (omega arith)

pub set_stays : (was number : ℕ) → OthersStay number was (bit_or was (bit_of number))
set_stays was number i small other = bit_at_set_other w64 was (number % 64) (omega arith) i other

pub set_one : (was number : ℕ) → bit_at (bit_or was (bit_of number)) (number % 64) ≡ 1
set_one was number = bit_at_set_same w64 was (number % 64) (omega arith)

masks_apart : (q k : ℕ) → mask_of q ≡ mask_of k → q % 64 ≢ k % 64 → ⊥
masks_apart q k e other = let ones : ℕ = 2 ^ 64 - 1 in
    let here : bit_at (bit_and ones (mask_of q)) (q % 64) ≡ 0 = clear_here ones q in
    let there : bit_at (bit_and ones (mask_of k)) (q % 64) ≡ bit_at ones (q % 64) = clear_stays ones k (q % 64) (omega arith) other in
    let one : bit_at ones (q % 64) ≡ 1 = bit_at_ones 64 (q % 64) (omega arith) in
    let same : bit_at (bit_and ones (mask_of q)) (q % 64) ≡ bit_at (bit_and ones (mask_of k)) (q % 64) = ap (λ (m : ℕ). bit_at (bit_and ones m) (q % 64)) e in
    let wrong : bit_at ones (q % 64) ≡ 0 = sym there ∙ (sym same ∙ here) in absurd (omega arith)

-- a mask and a word tell their frame
pub one_mask : (q k : ℕ) → q / 64 * 2 ≡ k / 64 * 2 → mask_of q ≡ mask_of k → q ≡ k
one_mask q k word e = dite (ℕ_discrete (q % 64) (k % 64)) (λ (bit : q % 64 ≡ k % 64). let same : q ≡ k = omega arith in same) (λ other. absurd (masks_apart q k e other))

-- one bit of one word changes at most
pub bits_else : (words : List ℕ) (i now b j c : ℕ) → i < length words → ((e : ℕ) → e < 64 → e ≢ b → bit_at now e ≡ bit_at (get_or words i 0) e) → c < 64 → (j ≡ i → c ≢ b)
    → bit_at (get_or (set words i now) j 0) c ≡ bit_at (get_or words j 0) c
bits_else words i now b j c inside stay small other = dite (ℕ_discrete j i)
    (λ (same : j ≡ i). subst (λ (z : ℕ). bit_at (get_or (set words i now) z 0) c ≡ bit_at (get_or words z 0) c) (sym same)
    (ap (λ (n : ℕ). bit_at n c) (get_or-set_same words i now 0 inside) ∙ stay c small (other same)))
    (λ (far : j ≢ i). ap (λ (n : ℕ). bit_at n c) (get_or-set_other words i j now 0 far))

-- the frame's word of the home bitmap becomes another whose other bits stay
module _ (words : List ℕ) (k now : ℕ) (inside : k / 64 * 2 + 1 < length words) where
  pub homes_else : (q : ℕ) → OthersStay k (get_or words (k / 64 * 2) 0) now → q ≢ k → home_bit (set words (k / 64 * 2) now) q ≡ home_bit words q
  homes_else q stay other = bits_else words (k / 64 * 2) now (k % 64) (q / 64 * 2) (q % 64) (omega arith) stay (omega arith) (λ same bit. other (omega arith))

  pub home_here : home_bit (set words (k / 64 * 2) now) k ≡ bit_at now (k % 64)
  home_here = ap (λ (n : ℕ). bit_at n (k % 64)) (get_or-set_same words (k / 64 * 2) now 0 (omega arith))

  pub empties_apart : (q : ℕ) → empty_bit (set words (k / 64 * 2) now) q ≡ empty_bit words q
  empties_apart q = let far : q / 64 * 2 + 1 ≢ k / 64 * 2 = omega arith in ap (λ (n : ℕ). bit_at n (q % 64)) (get_or-set_other words (k / 64 * 2) (q / 64 * 2 + 1) now 0 far)

  pub empties_else : (q : ℕ) → OthersStay k (get_or words (k / 64 * 2 + 1) 0) now → q ≢ k → empty_bit (set words (k / 64 * 2 + 1) now) q ≡ empty_bit words q
  empties_else q stay other = bits_else words (k / 64 * 2 + 1) now (k % 64) (q / 64 * 2 + 1) (q % 64) inside stay (omega arith) (λ same bit. other (omega arith))

  pub empty_here : empty_bit (set words (k / 64 * 2 + 1) now) k ≡ bit_at now (k % 64)
  empty_here = ap (λ (n : ℕ). bit_at n (k % 64)) (get_or-set_same words (k / 64 * 2 + 1) now 0 inside)

  pub homes_apart : (q : ℕ) → home_bit (set words (k / 64 * 2 + 1) now) q ≡ home_bit words q
  homes_apart q = let far : q / 64 * 2 ≢ k / 64 * 2 + 1 = omega arith in ap (λ (n : ℕ). bit_at n (q % 64)) (get_or-set_other words (k / 64 * 2 + 1) (q / 64 * 2) now 0 far)
