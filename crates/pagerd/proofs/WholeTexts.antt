-- What is read of a source that tells what it has left.
use Rattle.std.proofs.Common.{◌≡◌, ℕ, ◌+◌, ◌≤◌, ◌++◌, nat_le, length-append, true, false, Option, Some, None, Ok, List, length, refl, ap, sym, subst, ◌∙◌, arith}
use mathlib.Core.Bool.{true≢false}
use Rattle.std.proofs.lemmas.Bool.Decides.{nat_tests}
use Rattle.std.proofs.lemmas.List.{append-nil}
use Rattle.up_script.specs.Reading.{script_of}
use Rattle.up_script.specs.declared.script.Script.{Script}
use Rattle.up_text.specs.Limits.{longest_text}
use Rattle.up_text.specs.Reading.{journals_of}
use Rattle.up_text.specs.Versions.{Versioned}
use Rattle.pagerd.specs.Outputs.{WasRead, longest_script}
use Rattle.pagerd.specs.Top.{IsScript, HasJournals}

le_from : (limit : ℕ) (bytes : List ℕ) → nat_le (length bytes) limit ≡ true → length bytes ≤ limit
le_from limit bytes p = grind (arith, nat_tests)

too_long : (limit : ℕ) (all bytes rest : List ℕ) → all ≡ bytes ++ rest → nat_le (length bytes) limit ≡ false →
    nat_le (length all) limit ≡ false
too_long limit all bytes rest is p =
    let sum : length all ≡ length bytes + length rest = ap length is
    ∙ length-append bytes rest in grind (arith, nat_tests)

-- what was read within the limit is all that the source had
read_whole : (limit : ℕ) (all : List ℕ) (now : Option (List ℕ)) (bytes : List ℕ) →
    nat_le (length bytes) limit ≡ true → WasRead limit (Some all) now bytes → bytes ≡ all
read_whole limit all None bytes fits r = absurd r.given
read_whole limit all (Some rest) bytes fits r =
    sym (r.given ∙ ap (λ (xs : List ℕ). bytes ++ xs) (r.whole (le_from limit bytes fits)) ∙ append-nil bytes)

-- what was read of bytes that fit the limit is these bytes
all_read : (limit : ℕ) (all : List ℕ) (now : Option (List ℕ)) (bytes : List ℕ) →
    nat_le (length all) limit ≡ true → WasRead limit (Some all) now bytes → bytes ≡ all
all_read limit all None bytes fits r = absurd r.given
all_read limit all (Some rest) bytes fits r =
    elim (nat_le (length bytes) limit) as (λ b. nat_le (length bytes) limit ≡ b → bytes ≡ all) [
      | true ↦ λ q. read_whole limit all (Some rest) bytes q r
      | false ↦ λ q. absurd (true≢false (sym fits ∙ too_long limit all bytes rest r.given q))
    ] refl

same_read : (limit : ℕ) (left : Option (List ℕ)) (all : List ℕ) (now : Option (List ℕ)) (bytes : List ℕ) →
    left ≡ Some all → nat_le (length all) limit ≡ true → WasRead limit left now bytes → bytes ≡ all
same_read limit left all now bytes told fits r =
    all_read limit all now bytes fits (subst (λ before. WasRead limit before now bytes) told r)

-- a text that spells something isn't too long
script_fits : (bytes : List ℕ) (script : Script) → script_of bytes ≡ Ok script →
    nat_le (length bytes) longest_script ≡ true
script_fits bytes script e =
    elim (nat_le (length bytes) longest_script)
    as (λ b. nat_le (length bytes) longest_script ≡ b → b ≡ true) [
      | true ↦ λ q. refl
      | false ↦ λ long. let both = rw long at e in cc
    ] refl

journals_fit : (bytes : List ℕ) (journals : Versioned) → journals_of bytes ≡ Ok journals →
    nat_le (length bytes) longest_text ≡ true
journals_fit bytes journals e =
    elim (nat_le (length bytes) longest_text) as (λ b. nat_le (length bytes) longest_text ≡ b → b ≡ true) [
      | true ↦ λ q. refl
      | false ↦ λ long. let both = rw long at e in cc
    ] refl

-- what was read from a source that has a script left is that script
pub script_read : (left now : Option (List ℕ)) (bytes : List ℕ) (s : IsScript left) →
    WasRead longest_script left now bytes → script_of bytes ≡ Ok s.script
script_read left now bytes s r =
    ap script_of (same_read longest_script left s.bytes now bytes s.told (script_fits s.bytes s.script s.spelled) r)
    ∙ s.spelled

-- the same of journals
pub journals_read : (left now : Option (List ℕ)) (bytes : List ℕ) (journals : Versioned) →
    HasJournals left journals → WasRead longest_text left now bytes → journals_of bytes ≡ Ok journals
journals_read left now bytes journals s r =
    ap journals_of (same_read longest_text left s.bytes now bytes s.told (journals_fit s.bytes journals s.spelled) r)
    ∙ s.spelled

-- what was read and spells something is what the source had
spells_left : (limit : ℕ) (left now : Option (List ℕ)) (all bytes : List ℕ) → left ≡ Some all →
    nat_le (length bytes) limit ≡ true → WasRead limit left now bytes → left ≡ Some bytes
spells_left limit left now all bytes told fits r =
    let read : WasRead limit (Some all) now bytes = subst (λ before. WasRead limit before now bytes) told r in
    told ∙ ap (λ (b : List ℕ). Some b) (sym (read_whole limit all now bytes fits read))

pub script_left : (left now : Option (List ℕ)) (all bytes : List ℕ) (script : Script) → left ≡ Some all →
    script_of bytes ≡ Ok script → WasRead longest_script left now bytes → left ≡ Some bytes
script_left left now all bytes script told spelled r =
    spells_left longest_script left now all bytes told (script_fits bytes script spelled) r

pub journals_left : (left now : Option (List ℕ)) (all bytes : List ℕ) (journals : Versioned) →
    left ≡ Some all → journals_of bytes ≡ Ok journals → WasRead longest_text left now bytes →
    left ≡ Some bytes
journals_left left now all bytes journals told spelled r =
    spells_left longest_text left now all bytes told (journals_fit bytes journals spelled) r
