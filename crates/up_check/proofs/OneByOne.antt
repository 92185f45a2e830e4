-- Entries that are replayed one by one, the oldest first.
use Rattle.std.proofs.Common.{◌≡◌, ℕ, ◌+◌, Option, Some, List, [], ◌∷◌, ◌++◌, reverse, take, slice_get, sym, subst, ap, ◌∙◌}
use Rattle.std.proofs.lemmas.List.{take_more, reverse-append}
use Rattle.std.proofs.lemmas.Option.{slice_get_within, get_or_from_slice_get}
use Rattle.up_model.specs.Legal.{Legal}
use Rattle.up_model.specs.declared.entry.Birth.{Birth}
use Rattle.up_model.specs.declared.entry.Entry.{Entry}
use Rattle.up_model.specs.declared.entry.Reply.{Reply}
use Rattle.up_core.specs.Enough.{SameButFrames}
use Rattle.up_check.specs.Faults.{IsFirstFault, first_entries}
use Rattle.up_check.specs.Replaying.{Replays}
use Rattle.up_check.specs.declared.judging.Judged.TheVariants.{Right, Fault}
use Rattle.up_check.specs.declared.replay.MadeAgain.TheVariants.{Judged as JudgedAgain}

more_entries : (xs : List Entry) (n : ℕ) (x : Entry) → slice_get xs n ≡ Some x → first_entries xs (n + 1) ≡ x ∷ first_entries xs n
more_entries xs n x is =
    ap reverse (take_more xs n x (slice_get_within xs n x is) ∙ ap (λ y. take n xs ++ y ∷ []) (get_or_from_slice_get xs n x x is)) ∙ reverse-append (take n xs) (x ∷ [])

pub legal_next : (birth : Birth) (xs : List Entry) (n : ℕ) (x : Entry) (now : List Entry) → slice_get xs n ≡ Some x → Legal birth (first_entries xs n) → Replays birth (first_entries xs n) x now (JudgedAgain Right) →
    Legal birth (first_entries xs (n + 1))
legal_next birth xs n x now is legal told = subst (Legal birth) (sym (more_entries xs n x is)) (legal, told.0.0, told.0.1)

pub same_next : (birth : Birth) (xs : List Entry) (n : ℕ) (x : Entry) (now : List Entry) → slice_get xs n ≡ Some x → Replays birth (first_entries xs n) x now (JudgedAgain Right) → SameButFrames now (first_entries xs (n + 1))
same_next birth xs n x now is told = subst (SameButFrames now) (sym (more_entries xs n x is)) told.1

pub first_fault : (birth : Birth) (xs : List Entry) (n : ℕ) (x : Entry) (now : List Entry) (expected : Option Reply) → slice_get xs n ≡ Some x → Legal birth (first_entries xs n) →
    Replays birth (first_entries xs n) x now (JudgedAgain (Fault expected)) → IsFirstFault birth xs n expected
first_fault birth xs n x now expected is legal told = record { legal = legal; entry = x; stands = is; fault = told }
