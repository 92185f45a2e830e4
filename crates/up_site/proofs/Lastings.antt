-- Dates of blocks, of what a stop may leave and of copies over one more entry, by the kind of entry. What a
-- stop may leave is any test.
use Rattle.std.proofs.Common.{◌≡◌, ℕ, ◌≤◌, ◌==◌, ◌⊎◌, Bool, true, false, Option, Some, None, List, ◌∷◌}
use Rattle.std.proofs.Common.{length, suc, refl, ap, sym, ◌∙◌, subst, arith, inl, inr}
use Rattle.std.proofs.lemmas.Bool.{false≢true}
use Rattle.std.proofs.lemmas.Bool.Decides.{nat_tests}
use Rattle.up_num.specs.Span.{Span, covers}
use Rattle.up_num.specs.declared.pages.PageNo.{PageNo}
use Rattle.up_model.specs.Answered.{is_begin}
use Rattle.up_model.specs.Attempts.{page_of, accepts}
use Rattle.up_model.specs.Value.{there, settled, byte_or_zero}
use Rattle.up_model.specs.declared.entry.Birth.{Birth}
use Rattle.up_model.specs.declared.entry.Entry.{Entry}
use Rattle.up_model.specs.declared.entry.Reply.{Reply}
use Rattle.up_model.specs.declared.entry.Told.TheVariants as told
use Rattle.up_model.specs.declared.entry.Call.TheVariants.{Begin, Tell}
use Rattle.up_model.proofs.Bools.{nat_eq_true, nat_eq-same}
use Rattle.up_claims.specs.Claimed.{next_claim, with_copy, with_store, given_number, claim_of, in_back}
use Rattle.up_claims.specs.Claimed.{has_copied}
use Rattle.up_claims.specs.declared.claim.Claim.{Claim}
use Rattle.up_claims.specs.declared.claim.Claim.TheVariants.{Back}
use Rattle.up_coherence.specs.Coherent.{Firm, Coherent}
use Rattle.up_coherence.specs.Durable.{tour_at, stores, flushes, rests_within, reached, durable}
use Rattle.up_coherence.specs.Durable.{Dated, Lasting}
use Rattle.up_coherence.specs.StepPremises.{is_quiet, made, CopiesBytes, StoresHand, StoresElsewhere, SameHands}
use Rattle.up_coherence.specs.Histories.{IsBlock}
use Rattle.up_coherence.proofs.Pages.{newest_kept, unclean_parts}
use Rattle.up_coherence.proofs.Firmness.{copied_back, own_claim, by_who, quiet_claim}
use Rattle.up_coherence.proofs.Durability.{tour_within, reached_within, durable_reached}
use Rattle.up_coherence.proofs.Durability.{dated_same, dated_now, unrested, lasting_more, above_by}
use Rattle.up_coherence.proofs.Runs.{goes_on, same_tour, quiet_begins_none, quiet_stores_none, store_blocks}
use Rattle.up_coherence.proofs.Runs.{store_left}

-- what a stop may leave: a test of contents for each page
abbrev pub Leaving : Type 1
Leaving = ℕ → (ℕ → ℕ) → Type 0

-- no more may be left
abbrev pub AddsNo : Leaving → Leaving → Type 0
AddsNo leaves remain = (p : ℕ) (content : ℕ → ℕ) → remain p content → leaves p content

-- an entry that concerns no claim: nothing more may be left, or only the blocks
pub lasting_quiet : (image : ℕ → ℕ) (birth : Birth) (e : Entry) (h : List Entry) (disk : ℕ → ℕ) (hands : ℕ
    → ℕ → ℕ) (leaves remain : Leaving)
    → Firm birth h → Lasting image birth h disk hands leaves → Coherent image birth (e ∷ h) disk hands →
    is_quiet e.call ≡ true
    → ((p : ℕ) (content : ℕ → ℕ) → remain p content → ((flushes e.call ≡ false) × leaves p content) ⊎
    IsBlock disk p content)
    → Lasting image birth (e ∷ h) disk hands remain
lasting_quiet image birth e h disk hands leaves remain firm was now quiet bound =
    lasting_more image birth e h disk disk hands hands leaves remain (claim_of h e.who) firm was now
    (goes_on image birth e h disk disk hands hands leaves remain (claim_of h e.who) was now (quiet_claim
    e.call e.reply (claim_of h e.who) quiet)
    (quiet_begins_none e.call quiet) (λ p is. is) (λ p is. is) (λ x is. refl) (λ p. inl (
      (λ x within.
          refl),
      quiet_stores_none e.call p quiet,
    ))
    (λ p content remains. elim (bound p content remains) [
      | inl old ↦ inl old
      | inr block ↦ inr (inl
          block)
    ]) (λ other x differs. refl))

-- an entry that neither begins, stores nor syncs, and whose actor copied nothing more
pub lasting_calm : (image : ℕ → ℕ) (birth : Birth) (e : Entry) (h : List Entry) (disk : ℕ → ℕ) (hands hold
    : ℕ → ℕ → ℕ) (leaves remain : Leaving) (next : Option Claim)
    → Firm birth h → Lasting image birth h disk hands leaves → Coherent image birth (e ∷ h) disk hold
    → next_claim e.call e.reply (claim_of h e.who) ≡ next → is_begin e.call ≡ false → ((p : ℕ) → stores
    e.call p ≡ false) → flushes e.call ≡ false
    → ((p : ℕ) → has_copied next p ≡ true → has_copied (claim_of h e.who) p ≡ true)
    → ((p : ℕ) → in_back next p ≡ true → in_back (claim_of h e.who) p ≡ true)
    → ((x : ℕ) → has_copied next (page_of x) ≡ true → hold e.who x ≡ hands e.who x) → AddsNo leaves remain
    → ((who x : ℕ) → (e.who == who) ≡ false → hold who x ≡ hands who x) → Lasting image birth (e ∷ h) disk
    hold remain
lasting_calm image birth e h disk hands hold leaves remain next firm was now is no_begin none unflushed
    copied backs own bound others =
    lasting_more image birth e h disk disk hands hold leaves remain next firm was now
    (goes_on image birth e h disk disk hands hold leaves remain next was now is no_begin copied backs own
    (λ p. inl ((λ x within. refl), none p)) (λ p content remains. inl (unflushed, bound p content remains))
    others)

-- the same where its actor's claim goes, or a page was fetched
pub lasting_gone : (image : ℕ → ℕ) (birth : Birth) (e : Entry) (h : List Entry) (disk : ℕ → ℕ) (hands hold
    : ℕ → ℕ → ℕ) (leaves remain : Leaving) (next : Option Claim)
    → Firm birth h → Lasting image birth h disk hands leaves → Coherent image birth (e ∷ h) disk hold
    → next_claim e.call e.reply (claim_of h e.who) ≡ next → ((p : ℕ) → in_back next p ≡ false) → is_begin
    e.call ≡ false
    → ((p : ℕ) → stores e.call p ≡ false) → flushes e.call ≡ false → AddsNo leaves remain
    → ((who x : ℕ) → (e.who == who) ≡ false → hold who x ≡ hands who x) → Lasting image birth (e ∷ h) disk
    hold remain
lasting_gone image birth e h disk hands hold leaves remain next firm was now is gone no_begin none
    unflushed bound others =
    lasting_calm image birth e h disk hands hold leaves remain next firm was now is no_begin none unflushed
    (λ p has. absurd (false≢true (sym (gone p) ∙ copied_back next p has))) (λ p has. absurd (false≢true
    (sym (gone p) ∙ has)))
    (λ x has. absurd (false≢true (sym (gone (page_of x)) ∙ copied_back next (page_of x) has))) bound others

-- a writeback begins
pub lasting_begun : (image : ℕ → ℕ) (birth : Birth) (h : List Entry) (disk : ℕ → ℕ) (hands hold : ℕ → ℕ →
    ℕ) (leaves : Leaving)
    (who epoch : ℕ) (range : Span) (zero : Bool) (reply : Reply) → Firm birth h → Lasting image birth h
    disk hands leaves
    → Coherent image birth (made who epoch (Begin range zero) reply ∷ h) disk hold → accepts reply ≡ true →
    SameHands hands hold who
    → Lasting image birth (made who epoch (Begin range zero) reply ∷ h) disk hold leaves
lasting_begun image birth h disk hands hold leaves who epoch range zero reply firm was now accepted same =
    let is : next_claim (Begin range zero) reply (claim_of h who) ≡ Some (Back range (given_number reply)
    false 0) = rw accepted refl in
    let begun_at : tour_at (made who epoch (Begin range zero) reply ∷ h) who ≡ length h = rw (
      nat_eq-same
          who,
      accepted,
    ) refl in
    lasting_more image birth (made who epoch (Begin range zero) reply) h disk disk hands hold leaves leaves
    (Some (Back range (given_number reply) false 0)) firm was now (record {
      is = is;
      blocks = λ p. inl ((λ x within. refl), refl);
      left = λ p content remains. inl (refl, remains);
      copied = λ p has. absurd (false≢true has);
      above = λ p has.
          let mine : in_back (claim_of (made who epoch (Begin range zero) reply ∷ h) who) p ≡ true =
          ap (λ c. in_back c p) (own_claim (made who epoch (Begin range zero) reply) h who _ is
          (nat_eq-same who)) ∙ has in
          subst (λ (t : ℕ). reached birth (made who epoch (Begin range zero) reply ∷ h) p ≤ t) (sym begun_at)
          (above_by false (rests_within birth (made who epoch (Begin range zero) reply ∷ h) p) (suc (length
          h)) (tour_at h who) (reached birth h p) (length h)
          (unrested birth (made who epoch (Begin range zero) reply ∷ h) p (now.firm.back who p mine)) refl
          (reached_within birth h p));
      same_hand = λ other x differs. same other x differs;
    })

-- its pages are copied
pub lasting_copied : (image : ℕ → ℕ) (birth : Birth) (h : List Entry) (disk : ℕ → ℕ) (hands hold : ℕ → ℕ →
    ℕ) (leaves : Leaving)
    (who epoch : ℕ) (range : Span) (number : Option ℕ) (reply : Reply) → Coherent image birth h disk hands
    → Lasting image birth h disk hands leaves
    → Coherent image birth (made who epoch (Tell (told.Copied range)) reply ∷ h) disk hold → claim_of h who
    ≡ Some (Back range number false 0)
    → CopiesBytes birth h (hold who) range → SameHands hands hold who
    → Lasting image birth (made who epoch (Tell (told.Copied range)) reply ∷ h) disk hold leaves
lasting_copied image birth h disk hands hold leaves who epoch range number reply coherent was now claim
    copied same =
    lasting_more image birth (made who epoch (Tell (told.Copied range)) reply) h disk disk hands hold
    leaves leaves (Some (Back range number true 0)) coherent.firm was now (record {
      is = ap with_copy claim;
      blocks = λ p. inl ((λ x within. refl), refl);
      left = λ p content remains. inl (refl, remains);
      copied = λ p has.
          let tour : tour_at h who ≤ length h = tour_within h who in
          subst (λ (t : ℕ). Dated image birth (made who epoch (Tell (told.Copied range)) reply ∷ h) p t
          (hold who)) (sym (same_tour (made who epoch (Tell (told.Copied range)) reply) h who refl))
          (dated_now image birth (made who epoch (Tell (told.Copied range)) reply ∷ h) p (tour_at h who)
          (hold who) (omega arith) (λ x within.
          let over : covers range (page_of x) ≡ true = subst (λ (q : ℕ). covers range q ≡ true) (sym
          within) has in
          let mine : in_back (claim_of h who) (page_of x) ≡ true = ap (λ c. in_back c (page_of x)) claim ∙
          over in
          let here = (unclean_parts (there birth h (page_of x)) (settled birth h (page_of x))
          (coherent.firm.back who (page_of x) mine)).0 in
          copied x over ∙ ap byte_or_zero (coherent.bytes x here) ∙ sym (newest_kept image birth (made who
          epoch (Tell (told.Copied range)) reply) h x refl)));
      above = λ p has.
          let back : in_back (claim_of h who) p ≡ true = ap (λ c. in_back c p) claim ∙ has in
          let mine : in_back (claim_of (made who epoch (Tell (told.Copied range)) reply ∷ h) who) p ≡ true =
          ap (λ c. in_back c p) (own_claim (made who epoch (Tell (told.Copied range)) reply) h who (Some
          (Back range number true 0)) (ap with_copy claim) (nat_eq-same who)) ∙ has in
          subst (λ (t : ℕ). reached birth (made who epoch (Tell (told.Copied range)) reply ∷ h) p ≤ t) (sym
          (same_tour (made who epoch (Tell (told.Copied range)) reply) h who refl))
          (above_by false (rests_within birth (made who epoch (Tell (told.Copied range)) reply ∷ h) p) (suc
          (length h)) (tour_at h who) (reached birth h p) (tour_at h who)
          (unrested birth (made who epoch (Tell (told.Copied range)) reply ∷ h) p (now.firm.back who p
          mine)) refl (was.above who p back));
      same_hand = same;
    })

-- what may be left besides is a copy in its page
abbrev pub AddsCopy : Leaving → Leaving → ℕ → (ℕ → ℕ) → Type 0
AddsCopy leaves remain page hand = (p : ℕ) (content : ℕ → ℕ) → remain p content → leaves p content ⊎ ((p ≡
    page) × IsBlock hand p content)

-- a page of it is stored
pub lasting_stored : (image : ℕ → ℕ) (birth : Birth) (h : List Entry) (disk after' : ℕ → ℕ) (hands hold : ℕ
    → ℕ → ℕ) (leaves remain : Leaving)
    (who epoch : ℕ) (page : PageNo) (range : Span) (number : Option ℕ) (stored : ℕ) (reply : Reply) → Firm
    birth h → Lasting image birth h disk hands leaves
    → Coherent image birth (made who epoch (Tell (told.Stored page true)) reply ∷ h) after' hold → claim_of
    h who ≡ Some (Back range number true stored)
    → covers range page.0 ≡ true → StoresHand after' (hands who) page.0 → StoresElsewhere disk after'
    page.0 → AddsCopy leaves remain page.0 (hands who)
    → ((x : ℕ) → hold who x ≡ hands who x) → SameHands hands hold who
    → Lasting image birth (made who epoch (Tell (told.Stored page true)) reply ∷ h) after' hold remain
lasting_stored image birth h disk after' hands hold leaves remain who epoch page range number stored reply
    firm was now claim over puts elsewhere bound own same =
    let copied : has_copied (claim_of h who) page.0 ≡ true = ap (λ c. has_copied c page.0) claim ∙ over in
    lasting_more image birth (made who epoch (Tell (told.Stored page true)) reply) h disk after' hands hold
    leaves remain (Some (Back range number true (suc stored))) firm was now
    (goes_on image birth (made who epoch (Tell (told.Stored page true)) reply) h disk after' hands hold
    leaves remain (Some (Back range number true (suc stored))) was now (ap with_store claim) refl
    (λ p is. ap (λ c. has_copied c p) claim ∙ is) (λ p is. ap (λ c. in_back c p) claim ∙ is) (λ x is. own x)
    (λ p. store_blocks image birth h disk after' (hands who) (claim_of h who) page.0 p true puts elsewhere
    copied)
    (store_left leaves remain disk (hands who) (claim_of h who) page.0 copied bound) (λ other x differs.
    same other x differs))

-- its store fails: the block is the old one or the copy
pub lasting_store_failed : (image : ℕ → ℕ) (birth : Birth) (h : List Entry) (disk after' : ℕ → ℕ) (hands
    hold : ℕ → ℕ → ℕ) (leaves remain : Leaving)
    (who epoch : ℕ) (page : PageNo) (range : Span) (number : Option ℕ) (stored : ℕ) (reply : Reply) → Firm
    birth h → Lasting image birth h disk hands leaves
    → Coherent image birth (made who epoch (Tell (told.Stored page false)) reply ∷ h) after' hold →
    claim_of h who ≡ Some (Back range number true stored)
    → covers range page.0 ≡ true → StoresHand after' (hands who) page.0 ⊎ StoresHand after' disk page.0 →
    StoresElsewhere disk after' page.0
    → AddsCopy leaves remain page.0 (hands who) → SameHands hands hold who
    → Lasting image birth (made who epoch (Tell (told.Stored page false)) reply ∷ h) after' hold remain
lasting_store_failed image birth h disk after' hands hold leaves remain who epoch page range number stored
    reply firm was now claim over puts elsewhere bound same =
    let copied : has_copied (claim_of h who) page.0 ≡ true = ap (λ c. has_copied c page.0) claim ∙ over in
    lasting_more image birth (made who epoch (Tell (told.Stored page false)) reply) h disk after' hands
    hold leaves remain None firm was now
    (goes_on image birth (made who epoch (Tell (told.Stored page false)) reply) h disk after' hands hold
    leaves remain None was now refl refl
    (λ p is. absurd (false≢true is)) (λ p is. absurd (false≢true is)) (λ x is. absurd (false≢true is))
    (λ p. elim puts [
      | inl new ↦ store_blocks image birth h disk after' (hands who) (claim_of h who) page.0 p false new
          elsewhere copied
      | inr old ↦ inl (
        (λ x within. by_who (after' x ≡ disk x) (page_of x) page.0 (λ here. old x
            (nat_eq_true (page_of x) page.0 here)) (λ away. elsewhere x away)),
        refl,
      )
    ])
    (store_left leaves remain disk (hands who) (claim_of h who) page.0 copied bound) (λ other x differs.
    same other x differs))

-- a copy is dated as what is durable
pub copy_dated : (image : ℕ → ℕ) (birth : Birth) (h : List Entry) (disk : ℕ → ℕ) (hands : ℕ → ℕ → ℕ)
    (leaves : Leaving) → Lasting image birth h disk hands leaves
    → (who p : ℕ) (content : ℕ → ℕ) → has_copied (claim_of h who) p ≡ true → IsBlock (hands who) p content
    → Dated image birth h p (reached birth h p) content
copy_dated image birth h disk hands leaves was who p content has block =
    dated_same image birth h p (tour_at h who) (reached birth h p) (hands who) content (was.above who p
    (copied_back (claim_of h who) p has)) block (was.copied who p has)

-- what may be left within a step: what could be left before, or a copy
pub left_dated : (image : ℕ → ℕ) (birth : Birth) (h : List Entry) (disk : ℕ → ℕ) (hands : ℕ → ℕ → ℕ)
    (leaves remain : Leaving) → Lasting image birth h disk hands leaves
    → (who page : ℕ) → has_copied (claim_of h who) page ≡ true → AddsCopy leaves remain page (hands who)
    → (p : ℕ) (content : ℕ → ℕ) → remain p content → Dated image birth h p (durable birth h p) content
left_dated image birth h disk hands leaves remain was who page has bound p content remains = elim (bound p
    content remains) [
      | inl old ↦ was.left p content old
      | inr new ↦
          let mine : has_copied (claim_of h who) p ≡ true = subst (λ (q : ℕ). has_copied (claim_of h who) q ≡
          true) (sym new.0) has in
          dated_same image birth h p (reached birth h p) (durable birth h p) content content (durable_reached
          birth h p) (λ x within. refl)
          (copy_dated image birth h disk hands leaves was who p content mine new.1)
    ]

differs_there : (page p q : ℕ) → (page == p) ≡ false → q ≡ p → (q == page) ≡ false
differs_there page p q away within = grind (arith, nat_tests)

-- blocks that changed only in a page whose copy is in hand, without an entry
pub lasting_unstored : (image : ℕ → ℕ) (birth : Birth) (h : List Entry) (disk after' : ℕ → ℕ) (hands : ℕ →
    ℕ → ℕ) (leaves remain : Leaving) → Lasting image birth h disk hands leaves
    → (who page : ℕ) → has_copied (claim_of h who) page ≡ true → StoresHand after' (hands who) page ⊎
    StoresHand after' disk page → StoresElsewhere disk after' page
    → AddsCopy leaves remain page (hands who) → Lasting image birth h after' hands remain
lasting_unstored image birth h disk after' hands leaves remain was who page has puts elsewhere bound =
    record {
      now = λ p. by_who (Dated image birth h p (reached birth h p) after') page p
          (λ here. let same : page ≡ p = nat_eq_true page p here in
          let mine : has_copied (claim_of h who) p ≡ true = subst (λ (q : ℕ). has_copied (claim_of h who) q ≡
          true) same has in
          elim puts [
            | inl new ↦ copy_dated image birth h disk hands leaves was who p after' mine (λ x within. new x
                (within ∙ sym same))
            | inr old ↦ dated_same image birth h p (reached birth h p) (reached birth h p) disk after' (omega
                arith) (λ x within. old x (within ∙ sym same)) (was.now p)
          ])
          (λ away. dated_same image birth h p (reached birth h p) (reached birth h p) disk after' (omega
          arith)
          (λ x within. elsewhere x (differs_there page p (page_of x) away within)) (was.now p));
      left = left_dated image birth h disk hands leaves remain was who page has bound;
      copied = was.copied;
      above = was.above;
    }
