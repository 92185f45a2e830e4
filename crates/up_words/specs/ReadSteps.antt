-- Steps that may find a fault. Each is taken only where all before it went well, so the first fault is the one that is found.
use Rattle.std.specs.Prelude.{◌≡◌, ℕ, ◌+◌, Bool, true, cond, List, [], ◌∷◌, Option, Some, None, Result, Ok, Err}
use Rattle.up_words.specs.declared.fault.Fault.{Fault}
use Rattle.up_words.specs.declared.fault.ReadFault.{ReadFault}
use Rattle.up_words.specs.declared.fault.ReadFault.TheVariants.{Bad, Memory as MemoryFault}
use Rattle.up_words.specs.declared.fault.Stop.{Stop}
use Rattle.up_words.specs.declared.fault.Stop.TheVariants.{Found, Memory}
use Rattle.up_words.specs.declared.fault.Why.{Why}
use Rattle.up_words.specs.declared.fault.Why.TheVariants as why

infixl 10 ◌>>=◌
abbrev pub ◌>>=◌ : {A B E : Type 0} → Result A E → (A → Result B E) → Result B E
(Ok x) >>= f = f x
(Err e) >>= f = Err e

-- goes on only where the condition holds
abbrev pub check : Why → Bool → Result Bool Why
check reason holds = cond holds (Ok true) (Err reason)

-- what was found, or the reason
abbrev pub or_why : {A : Type 0} → Why → Option A → Result A Why
or_why reason None = Err reason
or_why reason (Some x) = Ok x

-- one step after the other over a list
unfoldable pub each : {S X : Type 0} → (S → X → Result S Why) → S → List X → Result S Why
each step s [] = Ok s
each step s (x ∷ xs) = step s x >>= λ t. each step t xs

-- a reason, with the line where it was found
abbrev pub at_line : {A : Type 0} → ℕ → Result A Why → Result A Fault
at_line n (Ok x) = Ok x
at_line n (Err reason) = Err (record { line = n; why = reason })

-- All lines of a text from number n on, as newlines part them. Each is ended by one: what stands behind the last newline is judged by `last`.
unfoldable pub lines_from : {S R : Type 0} → (ℕ → S → List ℕ → Result S Why) → (ℕ → S → List ℕ → Result R Why) → ℕ → S → List (List ℕ) → Result R Fault
lines_from step last n s [] = Err (record { line = n; why = why.Cut })
lines_from step last n s (rest ∷ []) = at_line n (last n s rest)
lines_from step last n s (line ∷ next ∷ lines) = at_line n (step n s line) >>= λ t. lines_from step last (n + 1) t (next ∷ lines)

-- a stop says which reason is found, unless memory ran out
abbrev pub Fails : {Y : Type 0} → Stop → Result Y Why → Type 0
Fails (Found reason) found = found ≡ Err reason
Fails Memory found = Unit {0}

-- what a reader of a part of a line answers, seen by view, is what is found, unless memory ran out
abbrev pub Gives : {X Y : Type 0} → (X → Y) → Result X Stop → Result Y Why → Type 0
Gives view (Ok x) found = found ≡ Ok (view x)
Gives view (Err stop) found = Fails stop found

-- the fault of a text that a stop at this line is
abbrev pub fault_of : ℕ → Stop → ReadFault
fault_of n (Found reason) = Bad n reason
fault_of n Memory = MemoryFault

-- a fault of a text is the one that is found, unless memory ran out
abbrev pub FailsText : {Y : Type 0} → ReadFault → Result Y Fault → Type 0
FailsText (Bad n reason) found = found ≡ Err (record { line = n; why = reason })
FailsText MemoryFault found = Unit {0}

-- what a reader of a text answers, seen by view, is what is found, unless memory ran out
abbrev pub GivesText : {X Y : Type 0} → (X → Y) → Result X ReadFault → Result Y Fault → Type 0
GivesText view (Ok x) found = found ≡ Ok (view x)
GivesText view (Err fault) found = FailsText fault found
