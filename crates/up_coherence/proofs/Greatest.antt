-- What was reached is the greatest moment that counts.
use Rattle.std.proofs.Common.{◌≡◌, ℕ, ◌<◌, ◌≤◌, ◌==◌, ◌⊎◌, Bool, true, false, cond, max, Option, Some, None, is_some, List, [], ◌∷◌, length, suc, refl, ap, sym, ◌∙◌, subst, arith, inl, inr, ⊎_elim}
use Rattle.std.proofs.lemmas.Bool.{false≢true, cases_lt}
use Rattle.std.proofs.lemmas.Bool.Decides.{nat_tests}
use Rattle.up_model.specs.Positions.{first_of, entry_at}
use Rattle.up_model.specs.declared.entry.Birth.{Birth}
use Rattle.up_model.specs.declared.entry.Entry.{Entry}
use Rattle.up_model.proofs.Bools.{nat_eq_true, nat_eq-same}
use Rattle.up_model.proofs.Placing.{first_all, first_before}
use Rattle.up_coherence.specs.Durable.{tour_at, stores, rests_within, reached, Counts}
use Rattle.up_coherence.proofs.Firmness.{by_who}
use Rattle.up_coherence.proofs.Durability.{reached_grows}
use Rattle.up_coherence.proofs.SyncPromise.{reached_now}
use Rattle.up_coherence.proofs.LastRest.{reached_stored}

entry_is : (e other : Entry) → Some e ≡ Some other → e ≡ other
entry_is e other is = ap (λ (o : Option Entry). elim o [ Some x ↦ x | None ↦ e ]) is

own_position : (length_before position : ℕ) (e entry : Entry) (rest : Option Entry) → (length_before == position) ≡ true → cond (length_before == position) (Some e) rest ≡ Some entry → e ≡ entry
own_position n position e entry rest here is = entry_is e entry (sym (ap (λ (b : Bool). cond b (Some e) rest) here) ∙ is)

other_position : (n position : ℕ) (e : Entry) (rest : Option Entry) → (n == position) ≡ false → cond (n == position) (Some e) rest ≡ rest
other_position n position e rest away = ap (λ (b : Bool). cond b (Some e) rest) away

none_entry : (entry : Entry) → None ≡ Some entry → ⊥
none_entry entry is = false≢true (ap is_some is)

below : (n position : ℕ) → (n == position) ≡ false → position < suc n → position < n
below n position away low = grind (arith, nat_tests)

pub reached_greatest : (birth : Birth) (h : List Entry) (p k : ℕ) → Counts birth h p k → k ≤ reached birth h p
reached_greatest birth [] p k (inl rests) = rests.0
reached_greatest birth [] p k (inr stored) = absurd (none_entry stored.entry stored.stands)
reached_greatest birth (e ∷ before) p k (inl rests) = ⊎_elim
    (λ low.
    let early : k ≤ length before = omega arith in
    let old : k ≤ reached birth before p = reached_greatest birth before p k (inl (early, subst (λ (now : List Entry). rests_within birth now p ≡ true) (first_before e before k early) rests.1)) in
    let grows : reached birth before p ≤ reached birth (e ∷ before) p = reached_grows birth e before p in omega arith)
    (λ last.
    let now : rests_within birth (e ∷ before) p ≡ true = subst (λ (now : List Entry). rests_within birth now p ≡ true) (first_all (e ∷ before) k last) rests.1 in
    let is : reached birth (e ∷ before) p ≡ suc (length before) = reached_now birth (e ∷ before) p now in
    let within : k ≤ suc (length before) = rests.0 in omega arith)
    (cases_lt k (suc (length before)))
reached_greatest birth (e ∷ before) p k (inr stored) = by_who (k ≤ reached birth (e ∷ before) p) (length before) stored.position
    (λ here.
    let same : e ≡ stored.entry = own_position (length before) stored.position e stored.entry (entry_at before stored.position) here stored.stands in
    let place : length before ≡ stored.position = nat_eq_true (length before) stored.position here in
    let start : first_of (e ∷ before) stored.position ≡ before = ap (first_of (e ∷ before)) (sym place) ∙ first_before e before (length before) (omega arith) ∙ first_all before (length before) (omega arith) in
    let tour : tour_at before stored.entry.who ≡ k = ap (λ (now : List Entry). tour_at now stored.entry.who) (sym start) ∙ stored.begun in
    let mine : tour_at before e.who ≡ k = ap (λ (x : Entry). tour_at before x.who) same ∙ tour in
    let is : stores e.call p ≡ true = ap (λ (x : Entry). stores x.call p) same ∙ stored.stored in
    let low : tour_at before e.who ≤ reached birth (e ∷ before) p = reached_stored birth e before p is in omega arith)
    (λ away.
    let early : stored.position < length before = below (length before) stored.position away stored.early in
    let old : k ≤ reached birth before p = reached_greatest birth before p k (inr (record {
      position = stored.position;
      entry = stored.entry;
      early = early;
      stands = sym (other_position (length before) stored.position e (entry_at before stored.position) away) ∙ stored.stands;
      stored = stored.stored;
      begun = ap (λ (now : List Entry). tour_at now stored.entry.who) (sym (first_before e before stored.position (omega arith))) ∙ stored.begun;
    })) in
    let grows : reached birth before p ≤ reached birth (e ∷ before) p = reached_grows birth e before p in omega arith)

-- what counted before counts still
counts_more : (birth : Birth) (e : Entry) (before : List Entry) (p k : ℕ) → Counts birth before p k → Counts birth (e ∷ before) p k
counts_more birth e before p k (inl rests) =
    let low : k ≤ length before = rests.0 in
    inl (omega arith, subst (λ (now : List Entry). rests_within birth now p ≡ true) (sym (first_before e before k low)) rests.1)
counts_more birth e before p k (inr stored) =
    let early : stored.position < length before = stored.early in
    let away : (length before == stored.position) ≡ false = grind (arith, nat_tests) in
    inr (record {
      position = stored.position;
      entry = stored.entry;
      early = omega arith;
      stands = other_position (length before) stored.position e (entry_at before stored.position) away ∙ stored.stands;
      stored = stored.stored;
      begun = ap (λ (now : List Entry). tour_at now stored.entry.who) (first_before e before stored.position (omega arith)) ∙ stored.begun;
    })

-- the entry's own writeback
counts_own : (birth : Birth) (e : Entry) (before : List Entry) (p : ℕ) → stores e.call p ≡ true → Counts birth (e ∷ before) p (tour_at before e.who)
counts_own birth e before p is =
    let here : (length before == length before) ≡ true = nat_eq-same (length before) in
    let start : first_of (e ∷ before) (length before) ≡ before = first_before e before (length before) (omega arith) ∙ first_all before (length before) (omega arith) in
    inr (record {
      position = length before;
      entry = e;
      early = omega arith;
      stands = ap (λ (b : Bool). cond b (Some e) (entry_at before (length before))) here;
      stored = is;
      begun = ap (λ (now : List Entry). tour_at now e.who) start;
    })

-- the later of two moments that count counts
later_counts : (P : ℕ → Type 0) (store : Bool) (tour old : ℕ) → (store ≡ true → P tour) → (old ≡ 0) ⊎ P old → (max (cond store tour 0) old ≡ 0) ⊎ P (max (cond store tour 0) old)
later_counts P true tour old new was = ⊎_elim
    (λ less. let is : old ≡ max tour old = omega arith in by_old is less was)
    (λ more. let is : tour ≡ max tour old = omega arith in inr (subst P is (new refl)))
    (cases_lt tour old)
  where
    by_old : old ≡ max tour old → tour < old → (old ≡ 0) ⊎ P old → (max tour old ≡ 0) ⊎ P (max tour old)
    by_old is less (inl none) = absurd (omega arith)
    by_old is less (inr counts) = inr (subst P is counts)
later_counts P false tour old new (inl none) = inl (omega arith)
later_counts P false tour old new (inr counts) = let is : old ≡ max 0 old = omega arith in inr (subst P is counts)

pub reached_counts : (birth : Birth) (h : List Entry) (p : ℕ) → (reached birth h p ≡ 0) ⊎ Counts birth h p (reached birth h p)
reached_counts birth [] p = inl refl
reached_counts birth (e ∷ before) p =
    elim (rests_within birth (e ∷ before) p) as (λ b. rests_within birth (e ∷ before) p ≡ b →
    (cond b (suc (length before)) (max (cond (stores e.call p) (tour_at before e.who) 0) (reached birth before p)) ≡ 0)
    ⊎ Counts birth (e ∷ before) p (cond b (suc (length before)) (max (cond (stores e.call p) (tour_at before e.who) 0) (reached birth before p)))) [
      | true ↦ λ rests. inr (inl (omega arith, subst (λ (now : List Entry). rests_within birth now p ≡ true) (sym (first_all (e ∷ before) (suc (length before)) (omega arith))) rests))
      | false ↦ λ away. later_counts (Counts birth (e ∷ before) p) (stores e.call p) (tour_at before e.who) (reached birth before p)
          (counts_own birth e before p) (lifted (reached_counts birth before p))
    ] refl
  where
    lifted : (reached birth before p ≡ 0) ⊎ Counts birth before p (reached birth before p) → (reached birth before p ≡ 0) ⊎ Counts birth (e ∷ before) p (reached birth before p)
    lifted (inl none) = inl none
    lifted (inr counts) = inr (counts_more birth e before p (reached birth before p) counts)
