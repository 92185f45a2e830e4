-- A page that was stored was reached at the begin of its writeback.
use Rattle.std.proofs.Common.{◌≡◌, ℕ, ◌≤◌, ◌==◌, true, false, Option, Some, None, List, ◌∷◌, suc, refl, ap, sym, ◌∙◌, subst, arith, inl, inr, ◌&&◌, not, ◌⊎◌, Bool}
use Rattle.std.proofs.lemmas.Bool.{false≢true}
use Rattle.up_model.specs.Answered.{is_begin}
use Rattle.up_model.specs.declared.entry.Birth.{Birth}
use Rattle.up_model.specs.declared.entry.Entry.{Entry}
use Rattle.up_model.specs.declared.entry.Told.TheVariants as told
use Rattle.up_model.specs.declared.entry.Call.TheVariants.{Supply, Fail, Begin, End, Resize, Tell}
use Rattle.up_model.proofs.Bools.{nat_eq_true, nat_eq-same}
use Rattle.up_claims.specs.Claimed.{next_claim, with_copy, with_store, without_fetch, given_number, claim_of, has_stored, one_page}
use Rattle.up_claims.specs.declared.claim.Claim.{Claim}
use Rattle.up_claims.specs.declared.claim.Claim.TheVariants.{Fetch, Back}
use Rattle.up_coherence.specs.Durable.{tour_at, stores, reached, Syncing}
use Rattle.up_coherence.specs.StepPremises.{made}
use Rattle.up_coherence.specs.Histories.{Leaves, Made, QuietMade, SyncMade, ResizeMade, FailMade, FetchMade, SupplyMade, BeginMade, CopyMade, StoreMade, StoreFailMade, EndMade, Ran, Starts, Goes}
use Rattle.up_coherence.proofs.Firmness.{apart_true, own_claim, other_claim, by_who, quiet_claim}
use Rattle.up_coherence.proofs.CoherentSteps.{none_stored, stored_more, store_less}
use Rattle.up_coherence.proofs.Durability.{reached_grows, other_tour}
use Rattle.up_coherence.proofs.SyncPromise.{syncing_less}
use Rattle.up_coherence.proofs.Runs.{same_tour, quiet_begins_none}
use Rattle.up_coherence.proofs.LastRest.{reached_stored}

abbrev StoredReached : Birth → List Entry → Type 0
StoredReached birth h = (who p : ℕ) → has_stored (claim_of h who) p ≡ true → tour_at h who ≤ reached birth h p

stored_step : (birth : Birth) (e : Entry) (h : List Entry) (next : Option Claim) → next_claim e.call e.reply (claim_of h e.who) ≡ next →
    ((p : ℕ) → has_stored next p ≡ true → tour_at (e ∷ h) e.who ≤ reached birth (e ∷ h) p) → StoredReached birth h → StoredReached birth (e ∷ h)
stored_step birth e h next is own was who p has = by_who (tour_at (e ∷ h) who ≤ reached birth (e ∷ h) p) e.who who
    (λ mine. subst (λ (n : ℕ). tour_at (e ∷ h) n ≤ reached birth (e ∷ h) p) (nat_eq_true e.who who mine)
    (own p (sym (ap (λ c. has_stored c p) (own_claim e h who next is mine)) ∙ has)))
    (λ theirs.
    let old : tour_at h who ≤ reached birth h p = was who p (sym (ap (λ c. has_stored c p) (other_claim e h who theirs)) ∙ has) in
    let grows : reached birth h p ≤ reached birth (e ∷ h) p = reached_grows birth e h p in
    let same : tour_at (e ∷ h) who ≡ tour_at h who = other_tour e h who theirs in omega arith)

-- what its actor had stored before
kept_stored : (birth : Birth) (e : Entry) (h : List Entry) (p : ℕ) → is_begin e.call ≡ false → StoredReached birth h → has_stored (claim_of h e.who) p ≡ true → tour_at (e ∷ h) e.who ≤ reached birth (e ∷ h) p
kept_stored birth e h p none was has =
    let old : tour_at h e.who ≤ reached birth h p = was e.who p has in
    let grows : reached birth h p ≤ reached birth (e ∷ h) p = reached_grows birth e h p in
    let same : tour_at (e ∷ h) e.who ≡ tour_at h e.who = same_tour e h e.who none in omega arith

stored_made : (image : ℕ → ℕ) (birth : Birth) (e : Entry) (h : List Entry) (disk after' : ℕ → ℕ) (hands hold : ℕ → ℕ → ℕ) (leaves remain : Leaves) →
    StoredReached birth h → Made image birth h disk hands leaves e after' hold remain → StoredReached birth (e ∷ h)
stored_made image birth e0 h disk after0 hands hold0 leaves remain0 was (QuietMade e remain quiet unflushed bound) =
    stored_step birth e h (claim_of h e.who) (quiet_claim e.call e.reply (claim_of h e.who) quiet) (λ p has. kept_stored birth e h p (quiet_begins_none e.call quiet) was has) was
stored_made image birth e0 h disk after0 hands hold0 leaves remain0 was (SyncMade who epoch reply remain bound) =
    stored_step birth (made who epoch (Tell (told.Flushed true)) reply) h (claim_of h who) refl (λ p has. kept_stored birth (made who epoch (Tell (told.Flushed true)) reply) h p refl was has) was
stored_made image birth e0 h disk after0 hands hold0 leaves remain0 was (ResizeMade who epoch pages reply below) =
    stored_step birth (made who epoch (Resize pages) reply) h (claim_of h who) refl (λ p has. kept_stored birth (made who epoch (Resize pages) reply) h p refl was has) was
stored_made image birth e0 h disk after0 hands hold0 leaves remain0 was (FailMade who epoch range code reply) =
    stored_step birth (made who epoch (Fail range code) reply) h (without_fetch (claim_of h who)) refl
    (λ p has. kept_stored birth (made who epoch (Fail range code) reply) h p refl was (store_less (claim_of h who) p has)) was
stored_made image birth e0 h disk after0 hands hold0 leaves remain0 was (FetchMade who epoch page ok reply hold remain low absent free reads same bound) =
    stored_step birth (made who epoch (Tell (told.Fetched page ok)) reply) h (Some (Fetch page ok)) refl (λ p has. absurd (false≢true has)) was
stored_made image birth e0 h disk after0 hands hold0 leaves remain0 was (SupplyMade who epoch page bytes brought reply claim brings) =
    stored_step birth (made who epoch (Supply (one_page page.0) bytes brought) reply) h None (ap without_fetch claim) (λ p has. absurd (false≢true has)) was
stored_made image birth e0 h disk after0 hands hold0 leaves remain0 was (BeginMade who epoch range zero reply accepted all free) =
    stored_step birth (made who epoch (Begin range zero) reply) h (Some (Back range (given_number reply) false 0)) (rw accepted refl) (λ p has. absurd (apart_true _ (none_stored range p) has)) was
stored_made image birth e0 h disk after0 hands hold0 leaves remain0 was (CopyMade who epoch range number reply hold claim copied same) =
    stored_step birth (made who epoch (Tell (told.Copied range)) reply) h (Some (Back range number true 0)) (ap with_copy claim) (λ p has. absurd (apart_true _ (none_stored range p) has)) was
stored_made image birth e0 h disk after0 hands hold0 leaves remain0 was (StoreMade who epoch page range number stored reply after' remain claim at_page over puts elsewhere bound) =
    stored_step birth (made who epoch (Tell (told.Stored page true)) reply) h (Some (Back range number true (suc stored))) (ap with_store claim)
    (λ p has. elim (stored_more range stored page.0 p at_page has) [
      | inl here ↦
          let is : stores (Tell (told.Stored page true)) p ≡ true = subst (λ (q : ℕ). (q == p) ≡ true) here (nat_eq-same p) in
          let low : tour_at h who ≤ reached birth (made who epoch (Tell (told.Stored page true)) reply ∷ h) p = reached_stored birth (made who epoch (Tell (told.Stored page true)) reply) h p is in
          let same : tour_at (made who epoch (Tell (told.Stored page true)) reply ∷ h) who ≡ tour_at h who = same_tour (made who epoch (Tell (told.Stored page true)) reply) h who refl in
          subst (λ (t : ℕ). t ≤ reached birth (made who epoch (Tell (told.Stored page true)) reply ∷ h) p) (sym same) low
      | inr before ↦ kept_stored birth (made who epoch (Tell (told.Stored page true)) reply) h p refl was (ap (λ c. has_stored c p) claim ∙ before)
    ]) was
stored_made image birth e0 h disk after0 hands hold0 leaves remain0 was (StoreFailMade who epoch page range number stored reply after' remain claim over puts elsewhere bound) =
    stored_step birth (made who epoch (Tell (told.Stored page false)) reply) h None refl (λ p has. absurd (false≢true has)) was
stored_made image birth e0 h disk after0 hands hold0 leaves remain0 was (EndMade who epoch range number reply claim) =
    stored_step birth (made who epoch (End range number) reply) h None refl (λ p has. absurd (false≢true has)) was

pub ran_stored : (image : ℕ → ℕ) (birth : Birth) (h : List Entry) (disk : ℕ → ℕ) (hands : ℕ → ℕ → ℕ) (leaves : Leaves) → Ran image birth h disk hands leaves → StoredReached birth h
ran_stored image birth h0 disk0 hands0 leaves0 (Starts hands leaves only) = λ who p has. absurd (false≢true has)
ran_stored image birth h0 disk0 hands0 leaves0 (Goes e before was_disk after' was_hands hold was_leaves remain ran legal made_it) =
    stored_made image birth e before was_disk after' was_hands hold was_leaves remain (ran_stored image birth before was_disk was_hands was_leaves ran) made_it

goes_out : (P : Type 0) (left stored : Bool) → left ≡ true → (stored ≡ true → P) → ((left && not stored) ≡ true) ⊎ P
goes_out P true true is reached_it = inr (reached_it refl)
goes_out P true false is reached_it = inl refl
goes_out P false stored is reached_it = absurd (false≢true is)

pub sync_leaves : (image : ℕ → ℕ) (birth : Birth) (h : List Entry) (disk : ℕ → ℕ) (hands : ℕ → ℕ → ℕ) (leaves : Leaves) → Ran image birth h disk hands leaves →
    (who n : ℕ) (left : ℕ → Bool) → n ≤ tour_at h who → Syncing birth h n left → Syncing birth h n (λ p. left p && not (has_stored (claim_of h who) p))
sync_leaves image birth h disk hands leaves ran who n left low was =
    syncing_less birth h n left (λ p. left p && not (has_stored (claim_of h who) p)) was
    (λ p waits. goes_out (n ≤ reached birth h p) (left p) (has_stored (claim_of h who) p) waits
    (λ has. let after' : tour_at h who ≤ reached birth h p = ran_stored image birth h disk hands leaves ran who p has in omega arith))
