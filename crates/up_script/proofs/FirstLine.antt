-- The first line of a script, and the version that it says.
use Rattle.std.proofs.Common.{◌≡◌, Bool, true, false, ◌||◌, ◌&&◌, not, ⊎_elim, cond, ℕ, ◌≤◌, eqb, length, List, Some, None, refl, sym, subst, arith}
use Rattle.std.specs.Prelude.{codes}
use Rattle.std.specs.Str.{bytes_eq}
use Rattle.std.proofs.lemmas.Bool.{eqb-true}
use Rattle.up_words.proofs.Decimals.{some_is}
use Rattle.up_fields.proofs.Listed.{is_free}
use Rattle.up_fields.proofs.Values.{none_some, either, same_word}
use Rattle.up_script.specs.Versions.{is_version, first_line, version_in}

-- a version that was read is one, and the line is that version's
pub record Says (line : List ℕ) (version : ℕ) : Type 0 where
  pub known : is_version version ≡ true
  pub whole : line ≡ first_line version

pub says : (line : List ℕ) (version : ℕ) → version_in line ≡ Some version → Says line version
says line version e = ⊎_elim one other (either (bytes_eq line (codes "pagerd-script 1")) (Some 1) _ (Some version) e)
  where
    one : (bytes_eq line (codes "pagerd-script 1") ≡ true) × (Some 1 ≡ Some version) → Says line version
    one p = subst (Says line) (some_is 1 version p.1) (record { known = refl; whole = same_word line (codes "pagerd-script 1") p.0 })

    other : (bytes_eq line (codes "pagerd-script 1") ≡ false) × (cond (bytes_eq line (codes "pagerd-script 2")) (Some 2) None ≡ Some version) → Says line version
    other p = ⊎_elim two none (either (bytes_eq line (codes "pagerd-script 2")) (Some 2) None (Some version) p.1)
      where
        two : (bytes_eq line (codes "pagerd-script 2") ≡ true) × (Some 2 ≡ Some version) → Says line version
        two q = subst (Says line) (some_is 2 version q.1) (record { known = refl; whole = same_word line (codes "pagerd-script 2") q.0 })

        none : (bytes_eq line (codes "pagerd-script 2") ≡ false) × (None ≡ Some version) → Says line version
        none q = absurd (none_some version q.1)

-- the first line of a version says it
pub record SaysAgain (version : ℕ) : Type 0 where
  pub free : is_free 10 (first_line version) ≡ true
  pub short : length (first_line version) ≤ 4096
  pub again : version_in (first_line version) ≡ Some version

pub first_again : (version : ℕ) → is_version version ≡ true → SaysAgain version
first_again version known = by (eqb version 1) (eqb version 2) refl refl known
  where
    by : (a b : Bool) → eqb version 1 ≡ a → eqb version 2 ≡ b → (a || b) ≡ true → SaysAgain version
    by true b p q k = subst SaysAgain (sym (eqb-true version 1 p)) (record { free = refl; short = omega arith; again = refl })
    by false true p q k = subst SaysAgain (sym (eqb-true version 2 q)) (record { free = refl; short = omega arith; again = refl })
    by false false p q k = absurd cc

-- an object is numbered only where objects have a mode
pub within_version : (modes numbered : Bool) → (modes || not (modes && numbered)) ≡ true
within_version true numbered = refl
within_version false numbered = refl
