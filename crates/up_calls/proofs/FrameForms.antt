-- Frames are read from their text, and from no other, and their text is a word.
use Rattle.std.proofs.Common.{◌≡◌, ℕ, ◌<◌, true, false, ⊎_elim, eqb, leb, cond, List, [], ◌∷◌, get_or, drop, Result, Ok, refl, ap, ◌∙◌, arith, sym}
use Rattle.std.specs.Fmt.{decimal}
use Rattle.std.specs.Prelude.{codes}
use Rattle.std.specs.Str.{bytes_eq}
use Rattle.std.proofs.lemmas.Bool.{leb-true, eqb-true, and_parts}
use Rattle.up_model.specs.declared.entry.Brought.{Brought}
use Rattle.up_model.specs.declared.entry.Brought.TheVariants.{Nothing, Frames, Scanned}
use Rattle.up_words.specs.Words.{is_word}
use Rattle.up_words.specs.Numbers.{number_between}
use Rattle.up_words.specs.declared.fault.Why.{Why}
use Rattle.up_words.specs.declared.fault.Why.TheVariants as why
use Rattle.up_words.proofs.Decimals.{then_ok, ok_is}
use Rattle.up_fields.specs.Limits.{all_counts}
use Rattle.up_calls.specs.Frames.{frames_text, is_frames, frame_count_in, frames_in, frames_lie}
use Rattle.up_fields.proofs.Values.{bind_ok, either, same_word, number_again, number_takes, number_bytes, make_word}
use Rattle.up_fields.proofs.Bounds.{number_within}

-- frames, both ways
pub frames_shown : (brought : Brought) → is_frames (frames_text brought) ≡ true
frames_shown Nothing = refl
frames_shown (Frames count) = refl
frames_shown Scanned = refl

pub frames_again : (brought : Brought) → frames_lie brought ≡ true → frames_in (frames_text brought) ≡ Ok brought
frames_again Nothing e = refl
frames_again (Frames count) e = rw (number_again 1 all_counts count (omega arith) e) refl
frames_again Scanned e = refl

pub frames_word : (brought : Brought) → frames_lie brought ≡ true → is_word (frames_text brought) ≡ true
frames_word Nothing e = refl
frames_word (Frames count) e = make_word (102 ∷ decimal count) (omega arith) (number_bytes count (omega (arith, leb-true count all_counts (and_parts (leb 1 count) (leb count all_counts) e).1)))
frames_word Scanned e = refl

front_one : (word : List ℕ) (byte : ℕ) → 0 < byte → get_or word 0 0 ≡ byte → word ≡ byte ∷ drop 1 word
front_one [] byte some e = absurd (omega (arith, e))
front_one (b ∷ bytes) byte some e = ap (λ (c : ℕ). c ∷ bytes) e

pub frames_takes : (word : List ℕ) (brought : Brought) → frames_in word ≡ Ok brought → word ≡ frames_text brought
frames_takes word brought e = ⊎_elim nothing others (either (bytes_eq word (codes "-")) (Ok Nothing) (cond (bytes_eq word (codes "s")) (Ok Scanned) (frame_count_in word)) (Ok brought) e)
  where
    nothing : (bytes_eq word (codes "-") ≡ true) × (◌≡◌ {A = Result Brought Why} (Ok Nothing) (Ok brought)) → word ≡ frames_text brought
    nothing p = same_word word (codes "-") p.0 ∙ ap frames_text (ok_is Nothing brought p.1)

    scanned : (bytes_eq word (codes "s") ≡ true) × (◌≡◌ {A = Result Brought Why} (Ok Scanned) (Ok brought)) → word ≡ frames_text brought
    scanned p = same_word word (codes "s") p.0 ∙ ap frames_text (ok_is Scanned brought p.1)

    counted : (bytes_eq word (codes "s") ≡ false) × (frame_count_in word ≡ Ok brought) → word ≡ frames_text brought
    counted p =
        let shaped = then_ok why.Word (eqb (get_or word 0 0) 102) _ brought p.1 in
        let count = bind_ok (number_between 1 all_counts (drop 1 word)) _ brought shaped.1 in
        front_one word 102 (omega arith) (eqb-true (get_or word 0 0) 102 shaped.0)
        ∙ ap (λ (bytes : List ℕ). 102 ∷ bytes) (number_takes 1 all_counts count.0 (drop 1 word) (omega arith) count.1)
        ∙ ap frames_text (ok_is (Frames count.0) brought count.2)

    others : (bytes_eq word (codes "-") ≡ false) × (cond (bytes_eq word (codes "s")) (Ok Scanned) (frame_count_in word) ≡ Ok brought) → word ≡ frames_text brought
    others p = ⊎_elim scanned counted (either (bytes_eq word (codes "s")) (Ok Scanned) (frame_count_in word) (Ok brought) p.1)

pub frames_within : (word : List ℕ) (brought : Brought) → frames_in word ≡ Ok brought → frames_lie brought ≡ true
frames_within word brought e = ⊎_elim nothing others (either (bytes_eq word (codes "-")) (Ok Nothing) (cond (bytes_eq word (codes "s")) (Ok Scanned) (frame_count_in word)) (Ok brought) e)
  where
    nothing : (bytes_eq word (codes "-") ≡ true) × (◌≡◌ {A = Result Brought Why} (Ok Nothing) (Ok brought)) → frames_lie brought ≡ true
    nothing p = ap frames_lie (sym (ok_is Nothing brought p.1))

    scanned : (bytes_eq word (codes "s") ≡ true) × (◌≡◌ {A = Result Brought Why} (Ok Scanned) (Ok brought)) → frames_lie brought ≡ true
    scanned p = ap frames_lie (sym (ok_is Scanned brought p.1))

    counted : (bytes_eq word (codes "s") ≡ false) × (frame_count_in word ≡ Ok brought) → frames_lie brought ≡ true
    counted p =
        let shaped = then_ok why.Word (eqb (get_or word 0 0) 102) _ brought p.1 in
        let count = bind_ok (number_between 1 all_counts (drop 1 word)) _ brought shaped.1 in
        ap frames_lie (sym (ok_is (Frames count.0) brought count.2)) ∙ number_within 1 all_counts count.0 (drop 1 word) (omega arith) count.1

    others : (bytes_eq word (codes "-") ≡ false) × (cond (bytes_eq word (codes "s")) (Ok Scanned) (frame_count_in word) ≡ Ok brought) → frames_lie brought ≡ true
    others p = ⊎_elim scanned counted (either (bytes_eq word (codes "s")) (Ok Scanned) (frame_count_in word) (Ok brought) p.1)
