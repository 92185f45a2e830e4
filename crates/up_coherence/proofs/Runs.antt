-- Every list of such entries stays coherent and dated.
use Rattle.std.proofs.Common.{◌≡◌, ℕ, ◌*◌, ◌≤◌, ◌==◌, ◌&&◌, ◌⊎◌, Bool, true, false, cond, max, Option, Some, None, is_some, List, [], ◌∷◌, length, suc, refl, ap, sym, ◌∙◌, subst, arith, inl, inr}
use Rattle.std.proofs.lemmas.Bool.{false≢true}
use Rattle.std.proofs.lemmas.Bool.Decides.{nat_tests}
use Rattle.up_num.specs.Span.{covers}
use Rattle.up_model.specs.Answered.{is_begin}
use Rattle.up_model.specs.Attempts.{page_of, accepts}
use Rattle.up_model.specs.Value.{there, settled, byte_or_zero}
use Rattle.up_model.specs.Legal.{Legal}
use Rattle.up_model.specs.declared.entry.Birth.{Birth}
use Rattle.up_model.specs.declared.entry.Entry.{Entry}
use Rattle.up_model.specs.declared.entry.Told.TheVariants as told
use Rattle.up_model.specs.declared.entry.Call.{Call}
use Rattle.up_model.specs.declared.entry.Call.TheVariants.{Begin, Tell}
use Rattle.up_model.proofs.Bools.{nat_eq_true, nat_eq-same}
use Rattle.up_model.proofs.Equations.{value_none}
use Rattle.up_claims.specs.Claimed.{next_claim, with_copy, with_store, without_fetch, given_number, claim_of, in_back, has_copied}
use Rattle.up_claims.specs.declared.claim.Claim.{Claim}
use Rattle.up_claims.specs.declared.claim.Claim.TheVariants.{Fetch, Back}
use Rattle.up_coherence.specs.Coherent.{Coherent, ReadsNewest}
use Rattle.up_coherence.specs.Durable.{tour_at, stores, flushes, rests_within, reached, durable, Dated, Lasting}
use Rattle.up_coherence.specs.StepPremises.{is_quiet, made, StoresHand, StoresElsewhere}
use Rattle.up_coherence.specs.Histories.{Leaves, Left, IsBlock, Made, QuietMade, SyncMade, ResizeMade, FailMade, FetchMade, SupplyMade, BeginMade, CopyMade, StoreMade, StoreFailMade, EndMade, Ran, Starts, Goes}
use Rattle.up_coherence.proofs.Pages.{newest_kept, unclean_parts}
use Rattle.up_coherence.proofs.Firmness.{copied_back, own_claim, by_who, quiet_claim}
use Rattle.up_coherence.proofs.CoherentSteps.{coherent_quiet, coherent_resize, coherent_fail, coherent_fetched, coherent_supply, coherent_begin, coherent_copied, coherent_stored, coherent_store_failed, coherent_end}
use Rattle.up_coherence.proofs.NewestReads.{reads_newest}
use Rattle.up_coherence.proofs.Durability.{tour_within, reached_within, durable_reached, dated_more, dated_same, dated_now, Lasts, unrested, lasting_more, stored_low, above_by}

-- the site before its first entry
pub coherent_first : (image : ℕ → ℕ) (birth : Birth) (hands : ℕ → ℕ → ℕ) → Coherent image birth [] image hands
coherent_first image birth hands = record {
  firm = record {
    legal = tt;
    apart = λ who other p differs has. absurd (false≢true has);
    within = λ who p has. absurd (false≢true has);
    back = λ who p has. absurd (false≢true has);
  };
  bytes = λ x here. absurd (false≢true (ap is_some (sym (value_none birth (4096 * page_of x))) ∙ here));
  blocks = λ x low rests. refl;
  fetch = λ who p is. absurd (false≢true is);
  copies = λ who x is. absurd (false≢true is);
  stored = λ who x is. absurd (false≢true is);
}

pub lasting_first : (image : ℕ → ℕ) (birth : Birth) (hands : ℕ → ℕ → ℕ) (leaves : ℕ → (ℕ → ℕ) → Type 0) → ((p : ℕ) (content : ℕ → ℕ) → leaves p content → IsBlock image p content) →
    Lasting image birth [] image hands leaves
lasting_first image birth hands leaves only = record {
  now = λ p. dated_now image birth [] p 0 image (omega arith) (λ x within. refl);
  left = λ p content remains. dated_now image birth [] p 0 content (omega arith) (only p content remains);
  copied = λ who p is. absurd (false≢true is);
  above = λ who p is. absurd (false≢true is);
}

-- an actor's tour stays where the entry is no begin
pub same_tour : (e : Entry) (h : List Entry) (who : ℕ) → is_begin e.call ≡ false → tour_at (e ∷ h) who ≡ tour_at h who
same_tour e h who none = tour_by (e.who == who) (is_begin e.call) none
  where
    tour_by : (mine begin : Bool) → begin ≡ false → cond (mine && (begin && accepts e.reply)) (length h) (tour_at h who) ≡ tour_at h who
    tour_by true true is = absurd (false≢true (sym is))
    tour_by true false is = refl
    tour_by false begin is = refl

reached_low : (store rest : Bool) (long tour old now : ℕ) → rest ≡ false → (max (cond store tour 0) old ≤ now) → cond rest long (max (cond store tour 0) old) ≤ now
reached_low store true long tour old now unrest less = absurd (false≢true (sym unrest))
reached_low store false long tour old now unrest less = less

-- an entry whose actor's claim goes on or goes, and which is neither a begin nor a copy
pub goes_on : (image : ℕ → ℕ) (birth : Birth) (e : Entry) (h : List Entry) (disk after' : ℕ → ℕ) (hands hold : ℕ → ℕ → ℕ) (leaves remain : ℕ → (ℕ → ℕ) → Type 0) (next : Option Claim) →
    Lasting image birth h disk hands leaves → Coherent image birth (e ∷ h) after' hold → next_claim e.call e.reply (claim_of h e.who) ≡ next → is_begin e.call ≡ false →
    ((p : ℕ) → has_copied next p ≡ true → has_copied (claim_of h e.who) p ≡ true) → ((p : ℕ) → in_back next p ≡ true → in_back (claim_of h e.who) p ≡ true) →
    ((x : ℕ) → has_copied next (page_of x) ≡ true → hold e.who x ≡ hands e.who x) →
    ((p : ℕ) → (((x : ℕ) → page_of x ≡ p → after' x ≡ disk x) × (stores e.call p ≡ false)) ⊎ (((x : ℕ) → page_of x ≡ p → after' x ≡ hands e.who x) × (has_copied (claim_of h e.who) p ≡ true))) →
    ((p : ℕ) (content : ℕ → ℕ) → remain p content → ((flushes e.call ≡ false) × leaves p content)
    ⊎ ((((x : ℕ) → page_of x ≡ p → content x ≡ disk x)) ⊎ ((flushes e.call ≡ false) × (((x : ℕ) → page_of x ≡ p → content x ≡ hands e.who x) × (has_copied (claim_of h e.who) p ≡ true))))) →
    ((who x : ℕ) → (e.who == who) ≡ false → hold who x ≡ hands who x) → Lasts image birth e h disk after' hands hold leaves remain next
goes_on image birth e h disk after' hands hold leaves remain next was now is no_begin copied backs own blocks left others = record {
  is = is;
  blocks = blocks;
  left = left;
  copied = λ p has. subst (λ (t : ℕ). Dated image birth (e ∷ h) p t (hold e.who)) (sym (same_tour e h e.who no_begin))
      (dated_more image birth e h p (tour_at h e.who) (tour_at h e.who) (hands e.who) (hold e.who) (omega arith)
      (λ x within. own x (subst (λ (q : ℕ). has_copied next q ≡ true) (sym within) has)) (was.copied e.who p (copied p has)));
  above = λ p has.
      let mine : in_back (claim_of (e ∷ h) e.who) p ≡ true = ap (λ c. in_back c p) (own_claim e h e.who next is (nat_eq-same e.who)) ∙ has in
      subst (λ (t : ℕ). reached birth (e ∷ h) p ≤ t) (sym (same_tour e h e.who no_begin))
      (reached_low (stores e.call p) (rests_within birth (e ∷ h) p) (suc (length h)) (tour_at h e.who) (reached birth h p) (tour_at h e.who)
      (unrested birth (e ∷ h) p (now.firm.back e.who p mine)) (stored_low (stores e.call p) (tour_at h e.who) (reached birth h p) (was.above e.who p (backs p has))));
  same_hand = others;
}

pub quiet_begins_none : (call : Call) → is_quiet call ≡ true → is_begin call ≡ false
quiet_begins_none (Begin range zero) quiet = absurd (false≢true quiet)
quiet_begins_none _ quiet = refl

pub quiet_stores_none : (call : Call) (p : ℕ) → is_quiet call ≡ true → stores call p ≡ false
quiet_stores_none (Tell (told.Stored page ok)) p quiet = absurd (false≢true quiet)
quiet_stores_none (Tell (told.Fetched page ok)) p quiet = refl
quiet_stores_none (Tell (told.Copied range)) p quiet = refl
quiet_stores_none (Tell (told.Flushed ok)) p quiet = refl
quiet_stores_none (Tell (told.Busy pages claim)) p quiet = refl
quiet_stores_none _ p quiet = refl

pub less_copied : (claim : Option Claim) (p : ℕ) → has_copied (without_fetch claim) p ≡ true → has_copied claim p ≡ true
less_copied None p is = is
less_copied (Some (Fetch page ok)) p is = absurd (false≢true is)
less_copied (Some (Back range number copied stored)) p is = is

pub less_back : (claim : Option Claim) (p : ℕ) → in_back (without_fetch claim) p ≡ true → in_back claim p ≡ true
less_back None p is = is
less_back (Some (Fetch page ok)) p is = absurd (false≢true is)
less_back (Some (Back range number copied stored)) p is = is

-- coherent and dated
pub record Stays (image : ℕ → ℕ) (birth : Birth) (h : List Entry) (disk : ℕ → ℕ) (hands : ℕ → ℕ → ℕ) (leaves : ℕ → (ℕ → ℕ) → Type 0) : Type 0 where
  pub coherent : Coherent image birth h disk hands
  pub lasting : Lasting image birth h disk hands leaves

stays_by : (image : ℕ → ℕ) (birth : Birth) (e : Entry) (h : List Entry) (disk after' : ℕ → ℕ) (hands hold : ℕ → ℕ → ℕ) (leaves remain : ℕ → (ℕ → ℕ) → Type 0) (next : Option Claim) →
    Stays image birth h disk hands leaves → Coherent image birth (e ∷ h) after' hold → Lasts image birth e h disk after' hands hold leaves remain next → Stays image birth (e ∷ h) after' hold remain
stays_by image birth e h disk after' hands hold leaves remain next was now lasts =
    record { coherent = now; lasting = lasting_more image birth e h disk after' hands hold leaves remain next was.coherent.firm was.lasting now lasts }

-- the block of a store: the copy in its page, as it was in others
pub store_blocks : (image : ℕ → ℕ) (birth : Birth) (h : List Entry) (disk after' : ℕ → ℕ) (hand : ℕ → ℕ) (claim : Option Claim) (page p : ℕ) (ok : Bool) → StoresHand after' hand page → StoresElsewhere disk after' page →
    has_copied claim page ≡ true → (((x : ℕ) → page_of x ≡ p → after' x ≡ disk x) × ((ok && (page == p)) ≡ false)) ⊎ (((x : ℕ) → page_of x ≡ p → after' x ≡ hand x) × (has_copied claim p ≡ true))
store_blocks image birth h disk after' hand claim page p ok puts elsewhere copied = by_who _ page p
    (λ here. let same : page ≡ p = nat_eq_true page p here in
    inr ((λ x within. puts x (within ∙ sym same)), subst (λ (q : ℕ). has_copied claim q ≡ true) same copied))
    (λ away. inl ((λ x within. elsewhere x (let other : (page_of x == page) ≡ false = grind (arith, nat_tests) in other)), rw away (none_of ok)))
  where
    none_of : (b : Bool) → (b && false) ≡ false
    none_of true = refl
    none_of false = refl

pub store_left : (leaves remain : ℕ → (ℕ → ℕ) → Type 0) (disk : ℕ → ℕ) (hand : ℕ → ℕ) (claim : Option Claim) (page : ℕ) → has_copied claim page ≡ true →
    ((p : ℕ) (content : ℕ → ℕ) → remain p content → leaves p content ⊎ ((p ≡ page) × IsBlock hand p content)) → (p : ℕ) (content : ℕ → ℕ) → remain p content →
    ((false ≡ false) × leaves p content) ⊎ ((((x : ℕ) → page_of x ≡ p → content x ≡ disk x)) ⊎ ((false ≡ false) × (((x : ℕ) → page_of x ≡ p → content x ≡ hand x) × (has_copied claim p ≡ true))))
store_left leaves remain disk hand claim page copied bound p content remains = elim (bound p content remains) [
  | inl old ↦ inl (refl, old)
  | inr new ↦ inr (inr (refl, (new.1, subst (λ (q : ℕ). has_copied claim q ≡ true) (sym new.0) copied)))
]

pub stays_made : (image : ℕ → ℕ) (birth : Birth) (e : Entry) (h : List Entry) (disk after' : ℕ → ℕ) (hands hold : ℕ → ℕ → ℕ) (leaves remain : Leaves) →
    Stays image birth h disk hands (Left leaves) → Legal birth (e ∷ h) → Made image birth h disk hands leaves e after' hold remain → Stays image birth (e ∷ h) after' hold (Left remain)
stays_made image birth e0 h disk after0 hands hold0 leaves remain0 was legal (QuietMade e remain quiet unflushed bound) =
    let now : Coherent image birth (e ∷ h) disk hands = coherent_quiet image birth e h disk hands legal quiet was.coherent in
    stays_by image birth e h disk disk hands hands (Left leaves) (Left remain) (claim_of h e.who) was now
    (goes_on image birth e h disk disk hands hands (Left leaves) (Left remain) (claim_of h e.who) was.lasting now (quiet_claim e.call e.reply (claim_of h e.who) quiet) (quiet_begins_none e.call quiet)
    (λ p is. is) (λ p is. is) (λ x is. refl) (λ p. inl ((λ x within. refl), quiet_stores_none e.call p quiet)) (λ p content remains. inl (unflushed, bound p content remains)) (λ other x differs. refl))
stays_made image birth e0 h disk after0 hands hold0 leaves remain0 was legal (SyncMade who epoch reply remain bound) =
    let now = coherent_quiet image birth (made who epoch (Tell (told.Flushed true)) reply) h disk hands legal refl was.coherent in
    stays_by image birth _ h disk disk hands hands (Left leaves) (Left remain) (claim_of h who) was now
    (goes_on image birth _ h disk disk hands hands (Left leaves) (Left remain) (claim_of h who) was.lasting now refl refl
    (λ p is. is) (λ p is. is) (λ x is. refl) (λ p. inl ((λ x within. refl), refl)) (λ p content remains. inr (inl (bound p content remains))) (λ other x differs. refl))
stays_made image birth e0 h disk after0 hands hold0 leaves remain0 was legal (ResizeMade who epoch pages reply below) =
    let now = coherent_resize image birth h disk hands who epoch pages reply legal below was.coherent in
    stays_by image birth _ h disk disk hands hands (Left leaves) (Left leaves) (claim_of h who) was now
    (goes_on image birth _ h disk disk hands hands (Left leaves) (Left leaves) (claim_of h who) was.lasting now refl refl
    (λ p is. is) (λ p is. is) (λ x is. refl) (λ p. inl ((λ x within. refl), refl)) (λ p content remains. inl (refl, remains)) (λ other x differs. refl))
stays_made image birth e0 h disk after0 hands hold0 leaves remain0 was legal (FailMade who epoch range code reply) =
    let now = coherent_fail image birth h disk hands who epoch range code reply legal was.coherent in
    stays_by image birth _ h disk disk hands hands (Left leaves) (Left leaves) (without_fetch (claim_of h who)) was now
    (goes_on image birth _ h disk disk hands hands (Left leaves) (Left leaves) (without_fetch (claim_of h who)) was.lasting now refl refl
    (less_copied (claim_of h who)) (less_back (claim_of h who)) (λ x is. refl) (λ p. inl ((λ x within. refl), refl)) (λ p content remains. inl (refl, remains)) (λ other x differs. refl))
stays_made image birth e0 h disk after0 hands hold0 leaves remain0 was legal (FetchMade who epoch page ok reply hold remain low absent free reads same bound) =
    let now = coherent_fetched image birth h disk hands hold who epoch page ok reply legal low absent free reads same was.coherent in
    stays_by image birth _ h disk disk hands hold (Left leaves) (Left remain) (Some (Fetch page ok)) was now
    (goes_on image birth _ h disk disk hands hold (Left leaves) (Left remain) (Some (Fetch page ok)) was.lasting now refl refl
    (λ p is. absurd (false≢true is)) (λ p is. absurd (false≢true is)) (λ x is. absurd (false≢true is)) (λ p. inl ((λ x within. refl), refl)) (λ p content remains. inl (refl, bound p content remains)) same)
stays_made image birth e0 h disk after0 hands hold0 leaves remain0 was legal (SupplyMade who epoch page bytes brought reply claim brings) =
    let now = coherent_supply image birth h disk hands who epoch page bytes brought reply legal claim brings was.coherent in
    stays_by image birth _ h disk disk hands hands (Left leaves) (Left leaves) None was now
    (goes_on image birth _ h disk disk hands hands (Left leaves) (Left leaves) None was.lasting now (ap without_fetch claim) refl
    (λ p is. absurd (false≢true is)) (λ p is. absurd (false≢true is)) (λ x is. refl) (λ p. inl ((λ x within. refl), refl)) (λ p content remains. inl (refl, remains)) (λ other x differs. refl))
stays_made image birth e0 h disk after0 hands hold0 leaves remain0 was legal (BeginMade who epoch range zero reply accepted all free) =
    let now : Coherent image birth (made who epoch (Begin range zero) reply ∷ h) disk hands = coherent_begin image birth h disk hands who epoch range zero reply legal accepted all free was.coherent in
    let is : next_claim (Begin range zero) reply (claim_of h who) ≡ Some (Back range (given_number reply) false 0) = rw accepted refl in
    let begun_at : tour_at (made who epoch (Begin range zero) reply ∷ h) who ≡ length h = rw (nat_eq-same who, accepted) refl in
    stays_by image birth (made who epoch (Begin range zero) reply) h disk disk hands hands (Left leaves) (Left leaves) (Some (Back range (given_number reply) false 0)) was now (record {
      is = is;
      blocks = λ p. inl ((λ x within. refl), refl);
      left = λ p content remains. inl (refl, remains);
      copied = λ p has. absurd (false≢true has);
      above = λ p has.
          let mine : in_back (claim_of (made who epoch (Begin range zero) reply ∷ h) who) p ≡ true = ap (λ c. in_back c p) (own_claim (made who epoch (Begin range zero) reply) h who _ is (nat_eq-same who)) ∙ has in
          subst (λ (t : ℕ). reached birth (made who epoch (Begin range zero) reply ∷ h) p ≤ t) (sym begun_at)
          (above_by false (rests_within birth (made who epoch (Begin range zero) reply ∷ h) p) (suc (length h)) (tour_at h who) (reached birth h p) (length h)
          (unrested birth (made who epoch (Begin range zero) reply ∷ h) p (now.firm.back who p mine)) refl (reached_within birth h p));
      same_hand = λ other x differs. refl;
    })
stays_made image birth e0 h disk after0 hands hold0 leaves remain0 was legal (CopyMade who epoch range number reply hold claim copied same) =
    let now = coherent_copied image birth h disk hands hold who epoch range number reply legal claim copied same was.coherent in
    let e' : Entry = made who epoch (Tell (told.Copied range)) reply in
    stays_by image birth (made who epoch (Tell (told.Copied range)) reply) h disk disk hands hold (Left leaves) (Left leaves) (Some (Back range number true 0)) was now (record {
      is = ap with_copy claim;
      blocks = λ p. inl ((λ x within. refl), refl);
      left = λ p content remains. inl (refl, remains);
      copied = λ p has.
          let tour : tour_at h who ≤ length h = tour_within h who in
          subst (λ (t : ℕ). Dated image birth (made who epoch (Tell (told.Copied range)) reply ∷ h) p t (hold who)) (sym (same_tour (made who epoch (Tell (told.Copied range)) reply) h who refl))
          (dated_now image birth (made who epoch (Tell (told.Copied range)) reply ∷ h) p (tour_at h who) (hold who) (omega arith) (λ x within.
          let over : covers range (page_of x) ≡ true = subst (λ (q : ℕ). covers range q ≡ true) (sym within) has in
          let mine : in_back (claim_of h who) (page_of x) ≡ true = ap (λ c. in_back c (page_of x)) claim ∙ over in
          let here = (unclean_parts (there birth h (page_of x)) (settled birth h (page_of x)) (was.coherent.firm.back who (page_of x) mine)).0 in
          copied x over ∙ ap byte_or_zero (was.coherent.bytes x here) ∙ sym (newest_kept image birth (made who epoch (Tell (told.Copied range)) reply) h x refl)));
      above = λ p has.
          let back : in_back (claim_of h who) p ≡ true = ap (λ c. in_back c p) claim ∙ has in
          let mine : in_back (claim_of (made who epoch (Tell (told.Copied range)) reply ∷ h) who) p ≡ true =
          ap (λ c. in_back c p) (own_claim (made who epoch (Tell (told.Copied range)) reply) h who (Some (Back range number true 0)) (ap with_copy claim) (nat_eq-same who)) ∙ has in
          subst (λ (t : ℕ). reached birth (made who epoch (Tell (told.Copied range)) reply ∷ h) p ≤ t) (sym (same_tour (made who epoch (Tell (told.Copied range)) reply) h who refl))
          (above_by false (rests_within birth (made who epoch (Tell (told.Copied range)) reply ∷ h) p) (suc (length h)) (tour_at h who) (reached birth h p) (tour_at h who)
          (unrested birth (made who epoch (Tell (told.Copied range)) reply ∷ h) p (now.firm.back who p mine)) refl (was.lasting.above who p back));
      same_hand = same;
    })
stays_made image birth e0 h disk after0 hands hold0 leaves remain0 was legal (StoreMade who epoch page range number stored reply after' remain claim at_page over puts elsewhere bound) =
    let now = coherent_stored image birth h disk after' hands who epoch page range number stored reply legal claim at_page over puts elsewhere was.coherent in
    let copied : has_copied (claim_of h who) page.0 ≡ true = ap (λ c. has_copied c page.0) claim ∙ over in
    stays_by image birth _ h disk after' hands hands (Left leaves) (Left remain) (Some (Back range number true (suc stored))) was now
    (goes_on image birth _ h disk after' hands hands (Left leaves) (Left remain) (Some (Back range number true (suc stored))) was.lasting now (ap with_store claim) refl
    (λ p is. ap (λ c. has_copied c p) claim ∙ is) (λ p is. ap (λ c. in_back c p) claim ∙ is) (λ x is. refl)
    (λ p. store_blocks image birth h disk after' (hands who) (claim_of h who) page.0 p true puts elsewhere copied)
    (store_left (Left leaves) (Left remain) disk (hands who) (claim_of h who) page.0 copied bound) (λ other x differs. refl))
stays_made image birth e0 h disk after0 hands hold0 leaves remain0 was legal (StoreFailMade who epoch page range number stored reply after' remain claim over puts elsewhere bound) =
    let now = coherent_store_failed image birth h disk after' hands who epoch page range number true stored reply legal claim over elsewhere was.coherent in
    let copied : has_copied (claim_of h who) page.0 ≡ true = ap (λ c. has_copied c page.0) claim ∙ over in
    stays_by image birth _ h disk after' hands hands (Left leaves) (Left remain) None was now
    (goes_on image birth _ h disk after' hands hands (Left leaves) (Left remain) None was.lasting now refl refl
    (λ p is. absurd (false≢true is)) (λ p is. absurd (false≢true is)) (λ x is. refl)
    (λ p. elim puts [
      | inl new ↦ store_blocks image birth h disk after' (hands who) (claim_of h who) page.0 p false new elsewhere copied
      | inr old ↦ inl ((λ x within. by_who (after' x ≡ disk x) (page_of x) page.0 (λ here. old x (nat_eq_true (page_of x) page.0 here)) (λ away. elsewhere x away)), refl)
    ])
    (store_left (Left leaves) (Left remain) disk (hands who) (claim_of h who) page.0 copied bound) (λ other x differs. refl))
stays_made image birth e0 h disk after0 hands hold0 leaves remain0 was legal (EndMade who epoch range number reply claim) =
    let now = coherent_end image birth h disk hands who epoch range number number reply legal claim was.coherent in
    stays_by image birth _ h disk disk hands hands (Left leaves) (Left leaves) None was now
    (goes_on image birth _ h disk disk hands hands (Left leaves) (Left leaves) None was.lasting now refl refl
    (λ p is. absurd (false≢true is)) (λ p is. absurd (false≢true is)) (λ x is. refl) (λ p. inl ((λ x within. refl), refl)) (λ p content remains. inl (refl, remains)) (λ other x differs. refl))

pub ran_stays : (image : ℕ → ℕ) (birth : Birth) (h : List Entry) (disk : ℕ → ℕ) (hands : ℕ → ℕ → ℕ) (leaves : Leaves) → Ran image birth h disk hands leaves → Stays image birth h disk hands (Left leaves)
ran_stays image birth h0 disk0 hands0 leaves0 (Starts hands leaves only) = record { coherent = coherent_first image birth hands; lasting = lasting_first image birth hands (Left leaves) only }
ran_stays image birth h0 disk0 hands0 leaves0 (Goes e before was_disk after' was_hands hold was_leaves remain ran legal made_it) =
    stays_made image birth e before was_disk after' was_hands hold was_leaves remain (ran_stays image birth before was_disk was_hands was_leaves ran) legal made_it

pub ran_coherent : (image : ℕ → ℕ) (birth : Birth) (h : List Entry) (disk : ℕ → ℕ) (hands : ℕ → ℕ → ℕ) (leaves : Leaves) → Ran image birth h disk hands leaves → Coherent image birth h disk hands
ran_coherent image birth h disk hands leaves ran = (ran_stays image birth h disk hands leaves ran).coherent

pub ran_reads : (image : ℕ → ℕ) (birth : Birth) (h : List Entry) (disk : ℕ → ℕ) (hands : ℕ → ℕ → ℕ) (leaves : Leaves) → Ran image birth h disk hands leaves → ReadsNewest image birth h
ran_reads image birth h0 disk0 hands0 leaves0 (Starts hands leaves only) = tt
ran_reads image birth h0 disk0 hands0 leaves0 (Goes e before was_disk after' was_hands hold was_leaves remain ran legal made_it) =
    (ran_reads image birth before was_disk was_hands was_leaves ran, reads_newest image birth e before was_disk was_hands legal (ran_coherent image birth before was_disk was_hands was_leaves ran))

pub ran_dated : (image : ℕ → ℕ) (birth : Birth) (h : List Entry) (disk : ℕ → ℕ) (hands : ℕ → ℕ → ℕ) (leaves : Leaves) → Ran image birth h disk hands leaves →
    (p : ℕ) (content : ℕ → ℕ) → Left leaves p content → Dated image birth h p (durable birth h p) content
ran_dated image birth h disk hands leaves ran = (ran_stays image birth h disk hands leaves ran).lasting.left

-- so are the block and a copy, which a stop within a step may leave
pub ran_block : (image : ℕ → ℕ) (birth : Birth) (h : List Entry) (disk : ℕ → ℕ) (hands : ℕ → ℕ → ℕ) (leaves : Leaves) → Ran image birth h disk hands leaves →
    (p : ℕ) → Dated image birth h p (durable birth h p) disk
ran_block image birth h disk hands leaves ran p =
    dated_same image birth h p (reached birth h p) (durable birth h p) disk disk (durable_reached birth h p) (λ x within. refl) ((ran_stays image birth h disk hands leaves ran).lasting.now p)

pub ran_copy : (image : ℕ → ℕ) (birth : Birth) (h : List Entry) (disk : ℕ → ℕ) (hands : ℕ → ℕ → ℕ) (leaves : Leaves) → Ran image birth h disk hands leaves →
    (who p : ℕ) → has_copied (claim_of h who) p ≡ true → Dated image birth h p (durable birth h p) (hands who)
ran_copy image birth h disk hands leaves ran who p has =
    let stays = (ran_stays image birth h disk hands leaves ran).lasting in
    let less : durable birth h p ≤ reached birth h p = durable_reached birth h p in
    let above : reached birth h p ≤ tour_at h who = stays.above who p (copied_back (claim_of h who) p has) in
    dated_same image birth h p (tour_at h who) (durable birth h p) (hands who) (hands who) (omega arith) (λ x within. refl) (stays.copied who p has)
