-- A site stays coherent over an entry.
use Rattle.std.proofs.Common.{◌≡◌, ℕ, ◌==◌, true, false, Option, Some, List, ◌∷◌, ap, sym, ◌∙◌, subst}
use Rattle.up_model.specs.Attempts.{page_of}
use Rattle.up_model.specs.Size.{cuts}
use Rattle.up_model.specs.Deeds.{supplies, supplied, begins, ends}
use Rattle.up_model.specs.Value.{there, begun, settled}
use Rattle.up_model.specs.Newest.{newest}
use Rattle.up_model.specs.declared.entry.Birth.{Birth}
use Rattle.up_model.specs.declared.entry.Entry.{Entry}
use Rattle.up_model.proofs.Bools.{nat_eq_true}
use Rattle.up_claims.specs.Claimed.{next_claim, claim_of, holds, fetched, in_back, has_copied, has_stored}
use Rattle.up_claims.specs.declared.claim.Claim.{Claim}
use Rattle.up_coherence.specs.Coherent.{Firm, FetchStands, Coherent}
use Rattle.up_coherence.proofs.Pages.{bytes_kept, blocks_kept, fetch_stays, newest_stays}
use Rattle.up_coherence.proofs.Firmness.{fetched_holds, back_holds, copied_back, stored_back, own_claim, other_claim, by_who}

-- an entry neither supplies, begins, ends nor cuts off a page
pub record Spared (birth : Birth) (e : Entry) (h : List Entry) (p : ℕ) : Type 0 where
  pub unsupplied : supplies e p ≡ false
  pub unbegun : begins e p ≡ false
  pub unended : ends e p ≡ false
  pub uncut : cuts birth h e p ≡ false

-- what a step has to show of bytes, of its own actor's next claim, and of the pages that others claim
pub record Moves (image : ℕ → ℕ) (birth : Birth) (e : Entry) (h : List Entry) (disk after : ℕ → ℕ) (hands hold : ℕ → ℕ → ℕ) (next : Option Claim) : Type 0 where
  pub firm : Firm birth (e ∷ h)
  pub is : next_claim e.call e.reply (claim_of h e.who) ≡ next
  pub given : (x : ℕ) → supplies e (page_of x) ≡ true → there birth h (page_of x) ≡ false → supplied e.call x ≡ Some (newest image birth h x)
  pub same : (x : ℕ) → settled birth h (page_of x) ≡ true → after x ≡ disk x
  pub ended : (x : ℕ) → ends e (page_of x) ≡ true → begun birth h (page_of x) ≡ true → settled birth h (page_of x) ≡ false → after x ≡ newest image birth h x
  pub fetch : (p : ℕ) → fetched next p ≡ true → FetchStands image birth (e ∷ h) (hold e.who) p
  pub copies : (x : ℕ) → has_copied next (page_of x) ≡ true → begun birth (e ∷ h) (page_of x) ≡ true → hold e.who x ≡ newest image birth (e ∷ h) x
  pub stored : (x : ℕ) → has_stored next (page_of x) ≡ true → begun birth (e ∷ h) (page_of x) ≡ true → after x ≡ newest image birth (e ∷ h) x
  pub spared : (who p : ℕ) → (e.who == who) ≡ false → holds (claim_of h who) p ≡ true → Spared birth e h p
  pub same_hand : (who x : ℕ) → (e.who == who) ≡ false → holds (claim_of h who) (page_of x) ≡ true → hold who x ≡ hands who x
  pub same_disk : (who x : ℕ) → (e.who == who) ≡ false → in_back (claim_of h who) (page_of x) ≡ true → after x ≡ disk x

pub coherent_more : (image : ℕ → ℕ) (birth : Birth) (e : Entry) (h : List Entry) (disk after' : ℕ → ℕ) (hands hold : ℕ → ℕ → ℕ) (next : Option Claim) →
    Coherent image birth h disk hands → Moves image birth e h disk after' hands hold next → Coherent image birth (e ∷ h) after' hold
coherent_more image birth e h disk after' hands hold next was moves = record {
  firm = moves.firm;
  bytes = λ x here. bytes_kept image birth e h moves.firm.legal x (was.bytes x) (moves.given x) here;
  blocks = λ x low rests. blocks_kept image birth e h x (disk x) (after' x) (was.blocks x) (moves.same x) (moves.ended x) low rests;
  fetch = λ who p is. by_who (FetchStands image birth (e ∷ h) (hold who) p) e.who who
      (λ mine. subst (λ (n : ℕ). FetchStands image birth (e ∷ h) (hold n) p) (nat_eq_true e.who who mine)
      (moves.fetch p (sym (ap (λ c. fetched c p) (own_claim e h who next moves.is mine)) ∙ is)))
      (λ theirs. let old : fetched (claim_of h who) p ≡ true = sym (ap (λ c. fetched c p) (other_claim e h who theirs)) ∙ is in
      let had = fetched_holds (claim_of h who) p old in
      let spared = moves.spared who p theirs had in
      fetch_stays image birth e h moves.firm.legal p (hands who) (hold who) spared.unsupplied spared.unended spared.uncut
      (λ x within. moves.same_hand who x theirs (subst (λ (q : ℕ). holds (claim_of h who) q ≡ true) (sym within) had)) (was.fetch who p old));
  copies = λ who x is begun_now. by_who (hold who x ≡ newest image birth (e ∷ h) x) e.who who
      (λ mine. subst (λ (n : ℕ). hold n x ≡ newest image birth (e ∷ h) x) (nat_eq_true e.who who mine)
      (moves.copies x (sym (ap (λ c. has_copied c (page_of x)) (own_claim e h who next moves.is mine)) ∙ is) begun_now))
      (λ theirs. let old : has_copied (claim_of h who) (page_of x) ≡ true = sym (ap (λ c. has_copied c (page_of x)) (other_claim e h who theirs)) ∙ is in
      let had = back_holds (claim_of h who) (page_of x) (copied_back (claim_of h who) (page_of x) old) in
      newest_stays image birth e h x (hands who x) (hold who x) (moves.spared who (page_of x) theirs had).unbegun (moves.same_hand who x theirs had)
      (was.copies who x old) begun_now);
  stored = λ who x is begun_now. by_who (after' x ≡ newest image birth (e ∷ h) x) e.who who
      (λ mine. moves.stored x (sym (ap (λ c. has_stored c (page_of x)) (own_claim e h who next moves.is mine)) ∙ is) begun_now)
      (λ theirs. let old : has_stored (claim_of h who) (page_of x) ≡ true = sym (ap (λ c. has_stored c (page_of x)) (other_claim e h who theirs)) ∙ is in
      let in_it = stored_back (claim_of h who) (page_of x) old in
      let had = back_holds (claim_of h who) (page_of x) in_it in
      newest_stays image birth e h x (disk x) (after' x) (moves.spared who (page_of x) theirs had).unbegun (moves.same_disk who x theirs in_it)
      (was.stored who x old) begun_now);
}
