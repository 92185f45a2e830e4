-- Journals with a first fault aren't legal.
use Rattle.std.proofs.Common.{◌≡◌, sym, ap, subst, ◌∙◌, ℕ, zero, suc, List, [], ◌∷◌, ◌++◌, Option, Some, None, reverse, take, drop, slice_get, length}
use Rattle.std.proofs.lemmas.List.{take-append-drop, reverse-append, append_assoc}
use Rattle.std.proofs.lemmas.Grind.{reverse_onto}
use mathlib.Core.Bool.{true≢false}
use Rattle.std.proofs.lemmas.Option.{none-some, same_Some, slice_get_within}
use Rattle.up_model.specs.Legal.{Legal}
use Rattle.up_model.specs.declared.entry.Birth.{Birth}
use Rattle.up_model.specs.declared.entry.Entry.{Entry}
use Rattle.up_model.specs.declared.entry.Reply.{Reply}
use Rattle.up_text.specs.declared.journals.Named.{Named}
use Rattle.up_check.specs.Faults.{IsFault, IsFirstFault, IsFirst, AreLegal, AreLegalBelow, first_entries}

-- what stood first in a legal journal was legal
legal_before : (birth : Birth) (since h : List Entry) → Legal birth (since ++ h) → Legal birth h
legal_before birth [] h legal = legal
legal_before birth (e ∷ since) h legal = legal_before birth since h legal.0

drop_here : (xs : List Entry) (n : ℕ) (x : Entry) → slice_get xs n ≡ Some x → drop n xs ≡ x ∷ drop (suc n) xs
drop_here [] n x e = absurd (none-some x e)
drop_here (y ∷ ys) zero x e = ap (λ z. z ∷ ys) (same_Some y x e)
drop_here (y ∷ ys) (suc n) x e = drop_here ys n x e

-- a journal up to an entry
up_to_entry : (xs : List Entry) (n : ℕ) (x : Entry) → slice_get xs n ≡ Some x → reverse xs ≡ reverse (drop (suc n) xs) ++ x ∷ first_entries xs n
up_to_entry xs n x e =
    ap reverse (sym (take-append-drop n xs) ∙ ap (λ later. take n xs ++ later) (drop_here xs n x e))
    ∙ reverse-append (take n xs) (x ∷ drop (suc n) xs)
    ∙ ap (λ later. later ++ first_entries xs n) (reverse_onto (drop (suc n) xs) x [])
    ∙ append_assoc (reverse (drop (suc n) xs)) (x ∷ []) (first_entries xs n)

-- an entry at fault makes no legal journal
at_fault : (birth : Birth) (h : List Entry) (e : Entry) (expected : Option Reply) → IsFault birth h e expected → Legal birth (e ∷ h) → ⊥
at_fault birth h e None fault legal = true≢false (sym legal.1 ∙ fault)
at_fault birth h e (Some expected) fault legal = fault.2 (legal.2 ∙ sym fault.1)

-- no legal journal has an entry at fault
pub no_fault : (birth : Birth) (entries : List Entry) (place : ℕ) (expected : Option Reply) → IsFirstFault birth entries place expected → Legal birth (reverse entries) → ⊥
no_fault birth entries place expected first legal =
    at_fault birth (first_entries entries place) first.entry expected first.fault
    (legal_before birth (reverse (drop (suc place) entries)) (first.entry ∷ first_entries entries place)
    (subst (Legal birth) (up_to_entry entries place first.entry first.stands) legal))

pub no_first : (journals : List Named) (number place : ℕ) (expected : Option Reply) → IsFirst journals number place expected → AreLegal journals → ⊥
no_first journals number place expected first legal =
    no_fault first.journal.birth first.journal.entries place expected first.first (legal number first.journal first.stands)

-- where all journals up to the last are legal, all are
pub all_legal : (journals : List Named) → AreLegalBelow (length journals) journals → AreLegal journals
all_legal journals below k journal stands = below k journal (slice_get_within journals k journal stands) stands
