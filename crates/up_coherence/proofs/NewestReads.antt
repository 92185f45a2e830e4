-- What a read answers over a coherent site is newest.
use Rattle.std.proofs.Common.{◌≡◌, ℕ, ◌+◌, ◌<◌, Some, None, is_some, true, List, [], ◌∷◌, length, slice_get, zero, suc, refl, ap, sym, ◌∙◌, arith}
use Rattle.std.proofs.lemmas.Option.{slice_get-get_or}
use Rattle.up_model.specs.Value.{value}
use Rattle.up_model.specs.Newest.{newest}
use Rattle.up_model.specs.Legal.{Legal}
use Rattle.up_model.specs.declared.entry.Birth.{Birth}
use Rattle.up_model.specs.declared.entry.Entry.{Entry}
use Rattle.up_model.proofs.ReadBytes.{reads_whole, reads_values}
use Rattle.up_coherence.specs.Coherent.{Coherent, newest_from, GivesNewest}
use Rattle.up_coherence.proofs.Pages.{byte_there}

byte_is : (m n : ℕ) → Some m ≡ Some n → m ≡ n
byte_is m n is = ap (λ o. elim o [ Some k ↦ k | None ↦ m ]) is

-- a list is the newest bytes where each of its bytes is
list_is : (image : ℕ → ℕ) (birth : Birth) (h : List Entry) (bytes : List ℕ) (x n : ℕ) → length bytes ≡ n →
    ((i : ℕ) → i < n → slice_get bytes i ≡ Some (newest image birth h (x + i))) → bytes ≡ newest_from image birth h x n
list_is image birth h [] x zero long each = refl
list_is image birth h [] x (suc n) long each = absurd (omega arith)
list_is image birth h (byte ∷ rest) x zero long each = absurd (omega arith)
list_is image birth h (byte ∷ rest) x (suc n) long each =
    let start : x + 0 ≡ x = omega arith in
    let first : byte ≡ newest image birth h x = byte_is byte _ (each 0 (omega arith) ∙ ap (λ (y : ℕ). Some (newest image birth h y)) start) in
    let later : rest ≡ newest_from image birth h (x + 1) n = list_is image birth h rest (x + 1) n (omega arith)
    (λ i low. let next : x + suc i ≡ x + 1 + i = omega arith in each (suc i) (omega arith) ∙ ap (λ (y : ℕ). Some (newest image birth h y)) next) in
    ap (λ (b : ℕ). b ∷ rest) first ∙ ap (λ (l : List ℕ). newest image birth h x ∷ l) later

pub reads_newest : (image : ℕ → ℕ) (birth : Birth) (e : Entry) (h : List Entry) (disk : ℕ → ℕ) (hands : ℕ → ℕ → ℕ) → Legal birth (e ∷ h) →
    Coherent image birth h disk hands → GivesNewest image birth e h
reads_newest image birth e h disk hands legal was a bytes tried is =
    let long : length bytes ≡ a.len = reads_whole birth e h legal a bytes tried is in
    list_is image birth h bytes a.off a.len long (λ i low.
    let has : slice_get bytes i ≡ value birth h (a.off + i) = reads_values birth e h legal a bytes tried is i low in
    let inside : i < length bytes = omega arith in
    let some : is_some (value birth h (a.off + i)) ≡ true = ap is_some (sym has ∙ slice_get-get_or bytes i 0 inside) in
    has ∙ was.bytes (a.off + i) (sym (byte_there birth h legal.0 (a.off + i)) ∙ some))
