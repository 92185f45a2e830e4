-- A sync's promise over the entries of others.
use Rattle.std.proofs.Common.{◌≡◌, ℕ, ◌<◌, ◌≤◌, ◌&&◌, ◌⊎◌, not, Bool, true, false, cond, max, List, [], ◌∷◌, length, suc, nat_lt, refl, sym, subst, arith, inl, inr}
use Rattle.std.proofs.lemmas.Bool.{false≢true}
use Rattle.std.proofs.lemmas.Bool.Decides.{nat_tests}
use Rattle.up_model.specs.Size.{size}
use Rattle.up_model.specs.Value.{there, settled}
use Rattle.up_model.specs.States.{unclean}
use Rattle.up_model.specs.Legal.{Legal}
use Rattle.up_model.specs.declared.entry.Birth.{Birth}
use Rattle.up_model.specs.declared.entry.Entry.{Entry}
use Rattle.up_model.proofs.Placing.{first_all, first_before}
use Rattle.up_model.proofs.StateParts.{absent_settled}
use Rattle.up_coherence.specs.Durable.{tour_at, stores, flushes, rests_within, reached, durable, Throughout, Syncing}
use Rattle.up_coherence.proofs.Durability.{reached_grows}

-- a page that stayed within the object over one more entry did so before
throughout_less : (birth : Birth) (e : Entry) (h : List Entry) (n p : ℕ) → Throughout birth (e ∷ h) n p → Throughout birth h n p
throughout_less birth e h n p through k from until =
    subst (λ (before : List Entry). p < size birth before) (first_before e h k until) (through k from (omega arith))

-- and lies within it now
throughout_now : (birth : Birth) (h : List Entry) (n p : ℕ) → n ≤ length h → Throughout birth h n p → p < size birth h
throughout_now birth h n p began through =
    subst (λ (now : List Entry). p < size birth now) (first_all h (length h) (omega arith)) (through (length h) began (omega arith))

reached_rest : (store rest : Bool) (long tour old : ℕ) → rest ≡ true → cond rest (suc long) (max (cond store tour 0) old) ≡ suc long
reached_rest store true long tour old is = refl
reached_rest store false long tour old is = absurd (false≢true is)

-- a page that rests within the object was reached now
pub reached_now : (birth : Birth) (h : List Entry) (p : ℕ) → rests_within birth h p ≡ true → reached birth h p ≡ length h
reached_now birth [] p is = refl
reached_now birth (e ∷ before) p is = reached_rest (stores e.call p) (rests_within birth (e ∷ before) p) (length before) (tour_at before e.who) (reached birth before p) is

within_test : (p n : ℕ) → p < n → nat_lt p n ≡ true
within_test p n low = grind (arith, nat_tests)

rests_of : (here rest : Bool) → (here && not rest) ≡ false → (here ≡ false → rest ≡ true) → rest ≡ true
rests_of true true none absent = refl
rests_of true false none absent = absurd (false≢true (sym none))
rests_of false rest none absent = absent refl

-- a page of the object that isn't unclean is settled
pub clean_rests : (birth : Birth) (h : List Entry) → Legal birth h → (p : ℕ) → p < size birth h → unclean birth h p ≡ false → rests_within birth h p ≡ true
clean_rests birth h legal p low none =
    rw (within_test p (size birth h) low) (rests_of (there birth h p) (settled birth h p) none (absent_settled birth h legal p low))

pub clean_reached : (birth : Birth) (h : List Entry) → Legal birth h → (n p : ℕ) → n ≤ length h → Throughout birth h n p → unclean birth h p ≡ false → n ≤ reached birth h p
clean_reached birth h legal n p began through none =
    let now : reached birth h p ≡ length h = reached_now birth h p (clean_rests birth h legal p (throughout_now birth h n p began through) none) in omega arith

by_unclean : (P : Type 0) (b : Bool) → (b ≡ true → P) → (b ≡ false → P) → P
by_unclean P true is none = is refl
by_unclean P false is none = none refl

-- a sync begins with the unclean pages
pub syncing_survey : (birth : Birth) (h : List Entry) → Legal birth h → (left : ℕ → Bool) → ((p : ℕ) → unclean birth h p ≡ true → left p ≡ true) → Syncing birth h (length h) left
syncing_survey birth h legal left all = record {
  began = omega arith;
  pages = λ p through. by_unclean ((left p ≡ true) ⊎ (length h ≤ reached birth h p)) (unclean birth h p)
      (λ is. inl (all p is)) (λ none. inr (clean_reached birth h legal (length h) p (omega arith) through none));
}

-- any entry keeps it
pub syncing_more : (birth : Birth) (e : Entry) (h : List Entry) (n : ℕ) (left : ℕ → Bool) → Syncing birth h n left → Syncing birth (e ∷ h) n left
syncing_more birth e h n left was =
    let began : n ≤ length h = was.began in
    record {
      began = omega arith;
      pages = λ p through. elim (was.pages p (throughout_less birth e h n p through)) [
        | inl waits ↦ inl waits
        | inr low ↦ inr (let grows : reached birth h p ≤ reached birth (e ∷ h) p = reached_grows birth e h p in omega arith)
      ];
    }

-- pages that were reached go out of the set
pub syncing_less : (birth : Birth) (h : List Entry) (n : ℕ) (left less : ℕ → Bool) → Syncing birth h n left →
    ((p : ℕ) → left p ≡ true → (less p ≡ true) ⊎ (n ≤ reached birth h p)) → Syncing birth h n less
syncing_less birth h n left less was goes = record {
  began = was.began;
  pages = λ p through. elim (was.pages p through) [
    | inl waits ↦ goes p waits
    | inr low ↦ inr low
  ];
}

-- where no page of the set is unclean, all was reached
pub syncing_clear : (birth : Birth) (h : List Entry) (n : ℕ) (left : ℕ → Bool) → Legal birth h → Syncing birth h n left → ((p : ℕ) → left p ≡ true → unclean birth h p ≡ false) →
    (p : ℕ) → Throughout birth h n p → n ≤ reached birth h p
syncing_clear birth h n left legal was clear p through = elim (was.pages p through) [
  | inl waits ↦ clean_reached birth h legal n p was.began through (clear p waits)
  | inr low ↦ low
]

durable_flush : (flush : Bool) (fresh old : ℕ) → flush ≡ true → cond flush fresh old ≡ fresh
durable_flush true fresh old is = refl
durable_flush false fresh old is = absurd (false≢true is)

-- and a good sync of the disk makes it durable
pub syncing_flushed : (birth : Birth) (e : Entry) (h : List Entry) (n : ℕ) → flushes e.call ≡ true → ((p : ℕ) → Throughout birth h n p → n ≤ reached birth h p) →
    (p : ℕ) → Throughout birth (e ∷ h) n p → n ≤ durable birth (e ∷ h) p
syncing_flushed birth e h n flushed was p through =
    let fresh : durable birth (e ∷ h) p ≡ reached birth h p = durable_flush (flushes e.call) (reached birth h p) (durable birth h p) flushed in
    let low : n ≤ reached birth h p = was p (throughout_less birth e h n p through) in omega arith
