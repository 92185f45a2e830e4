-- Dates of blocks and copies over one more entry.
use Rattle.std.proofs.Common.{◌≡◌, ℕ, ◌<◌, ◌≤◌, ◌==◌, ◌&&◌, ◌⊎◌, Bool, true, false, cond, max, Option, List, [], ◌∷◌, length, suc, nat_lt, refl, ap, sym, ◌∙◌, subst, arith, inl, inr}
use Rattle.std.proofs.lemmas.Bool.{false≢true}
use Rattle.std.proofs.lemmas.Bool.Decides.{nat_tests}
use Rattle.up_model.specs.Answered.{is_begin}
use Rattle.up_model.specs.Attempts.{page_of, accepts}
use Rattle.up_model.specs.Size.{size}
use Rattle.up_model.specs.Value.{there, settled}
use Rattle.up_model.specs.States.{unclean}
use Rattle.up_model.specs.Newest.{newest}
use Rattle.up_model.specs.declared.entry.Birth.{Birth}
use Rattle.up_model.specs.declared.entry.Entry.{Entry}
use Rattle.up_model.proofs.Bools.{and_left, and_right, nat_eq_true}
use Rattle.up_model.proofs.Placing.{first_all, first_before}
use Rattle.up_claims.specs.Claimed.{next_claim, claim_of, in_back, has_copied}
use Rattle.up_claims.specs.declared.claim.Claim.{Claim}
use Rattle.up_coherence.specs.Coherent.{Firm, Coherent}
use Rattle.up_coherence.specs.Durable.{tour_at, stores, flushes, rests_within, reached, durable, Dated, Lasting}
use Rattle.up_coherence.proofs.Pages.{unclean_parts}
use Rattle.up_coherence.proofs.Firmness.{false_by, apart_true, back_holds, copied_back, own_claim, other_claim, by_who}

-- tours, and what was reached, lie within the journal
pub tour_within : (h : List Entry) (who : ℕ) → tour_at h who ≤ length h
tour_within [] who = omega arith
tour_within (e ∷ before) who =
    let rest : tour_at before who ≤ length before = tour_within before who in
    elim ((e.who == who) && (is_begin e.call && accepts e.reply)) as (λ b. cond b (length before) (tour_at before who) ≤ suc (length before)) [
      | true ↦ omega arith
      | false ↦ omega arith
    ]

least_of : (store rest : Bool) (long tour old : ℕ) → tour ≤ long → old ≤ long → cond rest (suc long) (max (cond store tour 0) old) ≤ suc long
least_of store true long tour old a b = omega arith
least_of true false long tour old a b = omega arith
least_of false false long tour old a b = omega arith

pub reached_within : (birth : Birth) (h : List Entry) (p : ℕ) → reached birth h p ≤ length h
reached_within birth [] p = omega arith
reached_within birth (e ∷ before) p =
    least_of (stores e.call p) (rests_within birth (e ∷ before) p) (length before) (tour_at before e.who) (reached birth before p) (tour_within before e.who) (reached_within birth before p)

grows_by : (store rest : Bool) (long tour old : ℕ) → old ≤ long → old ≤ cond rest (suc long) (max (cond store tour 0) old)
grows_by store true long tour old b = omega arith
grows_by true false long tour old b = omega arith
grows_by false false long tour old b = omega arith

-- what was reached never falls
pub reached_grows : (birth : Birth) (e : Entry) (h : List Entry) (p : ℕ) → reached birth h p ≤ reached birth (e ∷ h) p
reached_grows birth e h p = grows_by (stores e.call p) (rests_within birth (e ∷ h) p) (length h) (tour_at h e.who) (reached birth h p) (reached_within birth h p)

pub durable_reached : (birth : Birth) (h : List Entry) (p : ℕ) → durable birth h p ≤ reached birth h p
durable_reached birth [] p = omega arith
durable_reached birth (e ∷ before) p =
    let rest : durable birth before p ≤ reached birth before p = durable_reached birth before p in
    let grows : reached birth before p ≤ reached birth (e ∷ before) p = reached_grows birth e before p in
    elim (flushes e.call) as (λ b. cond b (reached birth before p) (durable birth before p) ≤ reached birth (e ∷ before) p) [
      | true ↦ grows
      | false ↦ omega arith
    ]

pub durable_grows : (birth : Birth) (e : Entry) (h : List Entry) (p : ℕ) → durable birth h p ≤ durable birth (e ∷ h) p
durable_grows birth e h p =
    let rest : durable birth h p ≤ reached birth h p = durable_reached birth h p in
    elim (flushes e.call) as (λ b. durable birth h p ≤ cond b (reached birth h p) (durable birth h p)) [
      | true ↦ rest
      | false ↦ omega arith
    ]

-- a date stays over one more entry, and for another content with the same bytes
pub dated_more : (image : ℕ → ℕ) (birth : Birth) (e : Entry) (h : List Entry) (p low lower : ℕ) (content other : ℕ → ℕ) → lower ≤ low →
    ((x : ℕ) → page_of x ≡ p → other x ≡ content x) → Dated image birth h p low content → Dated image birth (e ∷ h) p lower other
dated_more image birth e h p low lower content other less same was =
    let until : was.moment ≤ length h = was.until in
    let since : low ≤ was.moment = was.since in
    record {
      moment = was.moment;
      since = omega arith;
      until = omega arith;
      bytes = λ x within. same x within ∙ was.bytes x within ∙ ap (λ (before : List Entry). newest image birth before x) (sym (first_before e h was.moment until));
    }

pub dated_same : (image : ℕ → ℕ) (birth : Birth) (h : List Entry) (p low lower : ℕ) (content other : ℕ → ℕ) → lower ≤ low →
    ((x : ℕ) → page_of x ≡ p → other x ≡ content x) → Dated image birth h p low content → Dated image birth h p lower other
dated_same image birth h p low lower content other less same was =
    let since : low ≤ was.moment = was.since in
    record { moment = was.moment; since = omega arith; until = was.until; bytes = λ x within. same x within ∙ was.bytes x within }

-- what is newest now has the date of now
pub dated_now : (image : ℕ → ℕ) (birth : Birth) (h : List Entry) (p low : ℕ) (content : ℕ → ℕ) → low ≤ length h →
    ((x : ℕ) → page_of x ≡ p → content x ≡ newest image birth h x) → Dated image birth h p low content
dated_now image birth h p low content less is = record {
  moment = length h;
  since = less;
  until = omega arith;
  bytes = λ x within. is x within ∙ ap (λ (now : List Entry). newest image birth now x) (sym (first_all h (length h) (omega arith)));
}

-- what an entry does to blocks, to what a stop leaves, and to its actor's copy
pub record Lasts (image : ℕ → ℕ) (birth : Birth) (e : Entry) (h : List Entry) (disk after : ℕ → ℕ) (hands hold : ℕ → ℕ → ℕ) (leaves remain : ℕ → (ℕ → ℕ) → Type 0) (next : Option Claim) : Type 0 where
  pub is : next_claim e.call e.reply (claim_of h e.who) ≡ next
  pub blocks : (p : ℕ) → (((x : ℕ) → page_of x ≡ p → after x ≡ disk x) × (stores e.call p ≡ false))
      ⊎ (((x : ℕ) → page_of x ≡ p → after x ≡ hands e.who x) × (has_copied (claim_of h e.who) p ≡ true))
  pub left : (p : ℕ) (content : ℕ → ℕ) → remain p content → ((flushes e.call ≡ false) × leaves p content)
      ⊎ ((((x : ℕ) → page_of x ≡ p → content x ≡ disk x)) ⊎ ((flushes e.call ≡ false) × (((x : ℕ) → page_of x ≡ p → content x ≡ hands e.who x) × (has_copied (claim_of h e.who) p ≡ true))))
  pub copied : (p : ℕ) → has_copied next p ≡ true → Dated image birth (e ∷ h) p (tour_at (e ∷ h) e.who) (hold e.who)
  pub above : (p : ℕ) → in_back next p ≡ true → reached birth (e ∷ h) p ≤ tour_at (e ∷ h) e.who
  pub same_hand : (who x : ℕ) → (e.who == who) ≡ false → hold who x ≡ hands who x

pub stored_low : (store : Bool) (tour old : ℕ) → old ≤ tour → max (cond store tour 0) old ≤ tour
stored_low true tour old less = omega arith
stored_low false tour old less = omega arith

unstored_low : (store : Bool) (tour old : ℕ) → store ≡ false → max (cond store tour 0) old ≤ old
unstored_low true tour old none = absurd (false≢true (sym none))
unstored_low false tour old none = omega arith

-- the block now: settled and newest, as it was, or a copy
now_by : (image : ℕ → ℕ) (birth : Birth) (e : Entry) (h : List Entry) (disk after' : ℕ → ℕ) (hands hold : ℕ → ℕ → ℕ) (leaves : ℕ → (ℕ → ℕ) → Type 0) (p : ℕ) (rest : Bool) →
    rests_within birth (e ∷ h) p ≡ rest → Coherent image birth (e ∷ h) after' hold → Lasting image birth h disk hands leaves →
    (((x : ℕ) → page_of x ≡ p → after' x ≡ disk x) × (stores e.call p ≡ false)) ⊎ (((x : ℕ) → page_of x ≡ p → after' x ≡ hands e.who x) × (has_copied (claim_of h e.who) p ≡ true)) →
    Dated image birth (e ∷ h) p (cond rest (suc (length h)) (max (cond (stores e.call p) (tour_at h e.who) 0) (reached birth h p))) after'
now_by image birth e h disk after' hands hold leaves p true is now was block = dated_now image birth (e ∷ h) p (suc (length h)) after' (omega arith) (λ x within.
    let low : p < size birth (e ∷ h) = let first : nat_lt p (size birth (e ∷ h)) ≡ true = and_left _ _ is in grind (arith, nat_tests) in
    now.blocks x (subst (λ (q : ℕ). q < size birth (e ∷ h)) (sym within) low)
    (subst (λ (q : ℕ). settled birth (e ∷ h) q ≡ true) (sym within) (and_right (nat_lt p (size birth (e ∷ h))) _ is)))
now_by image birth e h disk after' hands hold leaves p false is now was (inl same) =
    dated_more image birth e h p (reached birth h p) (max (cond (stores e.call p) (tour_at h e.who) 0) (reached birth h p)) disk after'
    (unstored_low (stores e.call p) (tour_at h e.who) (reached birth h p) same.1) same.0 (was.now p)
now_by image birth e h disk after' hands hold leaves p false is now was (inr copy) =
    dated_more image birth e h p (tour_at h e.who) (max (cond (stores e.call p) (tour_at h e.who) 0) (reached birth h p)) (hands e.who) after'
    (stored_low (stores e.call p) (tour_at h e.who) (reached birth h p) (was.above e.who p (copied_back (claim_of h e.who) p copy.1))) copy.0 (was.copied e.who p copy.1)

flush_low : (flush : Bool) (fresh old : ℕ) → old ≤ fresh → cond flush fresh old ≤ fresh
flush_low true fresh old less = omega arith
flush_low false fresh old less = less

kept_low : (flush : Bool) (fresh old : ℕ) → flush ≡ false → cond flush fresh old ≤ old
kept_low true fresh old none = absurd (false≢true (sym none))
kept_low false fresh old none = omega arith

left_by : (image : ℕ → ℕ) (birth : Birth) (e : Entry) (h : List Entry) (disk : ℕ → ℕ) (hands : ℕ → ℕ → ℕ) (leaves : ℕ → (ℕ → ℕ) → Type 0) (p : ℕ) (content : ℕ → ℕ) →
    Lasting image birth h disk hands leaves →
    ((flushes e.call ≡ false) × leaves p content) ⊎ ((((x : ℕ) → page_of x ≡ p → content x ≡ disk x)) ⊎ ((flushes e.call ≡ false) × (((x : ℕ) → page_of x ≡ p → content x ≡ hands e.who x) × (has_copied (claim_of h e.who) p ≡ true)))) →
    Dated image birth (e ∷ h) p (durable birth (e ∷ h) p) content
left_by image birth e h disk hands leaves p content was (inl old) =
    dated_more image birth e h p (durable birth h p) (durable birth (e ∷ h) p) content content (kept_low (flushes e.call) (reached birth h p) (durable birth h p) old.0) (λ x within. refl) (was.left p content old.1)
left_by image birth e h disk hands leaves p content was (inr (inl block)) =
    dated_more image birth e h p (reached birth h p) (durable birth (e ∷ h) p) disk content (flush_low (flushes e.call) (reached birth h p) (durable birth h p) (durable_reached birth h p)) block (was.now p)
left_by image birth e h disk hands leaves p content was (inr (inr copy)) =
    let low : reached birth h p ≤ tour_at h e.who = was.above e.who p (copied_back (claim_of h e.who) p copy.1.1) in
    let less : durable birth h p ≤ reached birth h p = durable_reached birth h p in
    let kept : durable birth (e ∷ h) p ≤ durable birth h p = kept_low (flushes e.call) (reached birth h p) (durable birth h p) copy.0 in
    dated_more image birth e h p (tour_at h e.who) (durable birth (e ∷ h) p) (hands e.who) content (omega arith) copy.1.0 (was.copied e.who p copy.1.1)

-- the tour of another actor is as it was
pub other_tour : (e : Entry) (h : List Entry) (who : ℕ) → (e.who == who) ≡ false → tour_at (e ∷ h) who ≡ tour_at h who
other_tour e h who differs = rw differs refl

-- what another actor writes back isn't reached by this entry
pub above_by : (store rest : Bool) (long tour old now : ℕ) → rest ≡ false → store ≡ false → old ≤ now → cond rest long (max (cond store tour 0) old) ≤ now
above_by store true long tour old now unrest none less = absurd (false≢true (sym unrest))
above_by true false long tour old now unrest none less = absurd (false≢true (sym none))
above_by false false long tour old now unrest none less = omega arith

pub unrested : (birth : Birth) (h : List Entry) (p : ℕ) → unclean birth h p ≡ true → rests_within birth h p ≡ false
unrested birth h p is = false_by (rests_within birth h p) (λ rests.
    apart_true _ (unclean_parts (there birth h p) (settled birth h p) is).1 (and_right (nat_lt p (size birth h)) _ rests))

stored_only : (image : ℕ → ℕ) (birth : Birth) (e : Entry) (h : List Entry) (disk after' : ℕ → ℕ) (hands : ℕ → ℕ → ℕ) (who p : ℕ) → Firm birth h → (e.who == who) ≡ false → in_back (claim_of h who) p ≡ true →
    (((x : ℕ) → page_of x ≡ p → after' x ≡ disk x) × (stores e.call p ≡ false)) ⊎ (((x : ℕ) → page_of x ≡ p → after' x ≡ hands e.who x) × (has_copied (claim_of h e.who) p ≡ true)) →
    stores e.call p ≡ false
stored_only image birth e h disk after' hands who p firm differs back (inl same) = same.1
stored_only image birth e h disk after' hands who p firm differs back (inr copy) = absurd (apart_true _
    (firm.apart e.who who p differs (back_holds (claim_of h e.who) p (copied_back (claim_of h e.who) p copy.1))) (back_holds (claim_of h who) p back))

pub lasting_more : (image : ℕ → ℕ) (birth : Birth) (e : Entry) (h : List Entry) (disk after' : ℕ → ℕ) (hands hold : ℕ → ℕ → ℕ) (leaves remain : ℕ → (ℕ → ℕ) → Type 0) (next : Option Claim) →
    Firm birth h → Lasting image birth h disk hands leaves → Coherent image birth (e ∷ h) after' hold → Lasts image birth e h disk after' hands hold leaves remain next →
    Lasting image birth (e ∷ h) after' hold remain
lasting_more image birth e h disk after' hands hold leaves remain next firm was now lasts = record {
  now = λ p. now_by image birth e h disk after' hands hold leaves p (rests_within birth (e ∷ h) p) refl now was (lasts.blocks p);
  left = λ p content remains. left_by image birth e h disk hands leaves p content was (lasts.left p content remains);
  copied = λ who p is. by_who (Dated image birth (e ∷ h) p (tour_at (e ∷ h) who) (hold who)) e.who who
      (λ mine. subst (λ (n : ℕ). Dated image birth (e ∷ h) p (tour_at (e ∷ h) n) (hold n)) (nat_eq_true e.who who mine)
      (lasts.copied p (sym (ap (λ c. has_copied c p) (own_claim e h who next lasts.is mine)) ∙ is)))
      (λ theirs. let old : has_copied (claim_of h who) p ≡ true = sym (ap (λ c. has_copied c p) (other_claim e h who theirs)) ∙ is in
      subst (λ (t : ℕ). Dated image birth (e ∷ h) p t (hold who)) (sym (other_tour e h who theirs))
      (dated_more image birth e h p (tour_at h who) (tour_at h who) (hands who) (hold who) (omega arith) (λ x within. lasts.same_hand who x theirs) (was.copied who p old)));
  above = λ who p is. by_who (reached birth (e ∷ h) p ≤ tour_at (e ∷ h) who) e.who who
      (λ mine. subst (λ (n : ℕ). reached birth (e ∷ h) p ≤ tour_at (e ∷ h) n) (nat_eq_true e.who who mine)
      (lasts.above p (sym (ap (λ c. in_back c p) (own_claim e h who next lasts.is mine)) ∙ is)))
      (λ theirs. let old : in_back (claim_of h who) p ≡ true = sym (ap (λ c. in_back c p) (other_claim e h who theirs)) ∙ is in
      subst (λ (t : ℕ). reached birth (e ∷ h) p ≤ t) (sym (other_tour e h who theirs))
      (above_by (stores e.call p) (rests_within birth (e ∷ h) p) (suc (length h)) (tour_at h e.who) (reached birth h p) (tour_at h who)
      (unrested birth (e ∷ h) p (now.firm.back who p is)) (stored_only image birth e h disk after' hands who p firm theirs old (lasts.blocks p)) (was.above who p old)));
}
