-- Each step keeps a site coherent.
use Rattle.std.proofs.Common.{◌≡◌, ℕ, ◌+◌, ◌<◌, ◌==◌, ◌&&◌, ◌⊎◌, Bool, true, false, Option, Some, None, List, ◌∷◌, suc, nat_lt, refl, ap, sym, ◌∙◌, subst, arith, inl, inr, ⊎_elim}
use Rattle.std.proofs.lemmas.Bool.{false≢true, cases_lt}
use Rattle.std.proofs.lemmas.Bool.Decides.{nat_tests}
use Rattle.up_num.specs.Span.{Span, covers}
use Rattle.up_num.specs.declared.pages.PageNo.{PageNo}
use Rattle.up_num.specs.declared.answers.Code.{Code}
use Rattle.up_model.specs.Attempts.{page_of, accepts}
use Rattle.up_model.specs.Size.{size, cuts}
use Rattle.up_model.specs.Deeds.{supplies, begins, ends}
use Rattle.up_model.specs.Value.{there, settled, byte_or_zero}
use Rattle.up_model.specs.States.{unclean}
use Rattle.up_model.specs.Newest.{newest}
use Rattle.up_model.specs.Legal.{Legal}
use Rattle.up_model.specs.declared.entry.Birth.{Birth}
use Rattle.up_model.specs.declared.entry.Entry.{Entry}
use Rattle.up_model.specs.declared.entry.Brought.{Brought}
use Rattle.up_model.specs.declared.entry.Told.TheVariants as told
use Rattle.up_model.specs.declared.entry.Call.TheVariants.{Supply, Fail, Begin, End, Resize, Tell}
use Rattle.up_model.specs.declared.entry.Reply.{Reply}
use Rattle.up_model.proofs.Bools.{and_left, and_right, nat_eq_true, nat_eq-same}
use Rattle.up_model.proofs.StateParts.{absent_settled}
use Rattle.up_claims.specs.Claimed.{next_claim, with_copy, with_store, without_fetch, given_number, claim_of, holds, fetched, in_back, has_copied, has_stored, one_page}
use Rattle.up_claims.specs.declared.claim.Claim.{Claim}
use Rattle.up_claims.specs.declared.claim.Claim.TheVariants.{Fetch, Back}
use Rattle.up_coherence.specs.Coherent.{Firm, FetchStands, Coherent}
use Rattle.up_coherence.specs.StepPremises.{is_quiet, made, Unheld, BelowAll, SameHands, BringsHand, ReadsDisk, CopiesBytes, StoresHand, StoresElsewhere}
use Rattle.up_coherence.proofs.Pages.{fetch_stays, newest_stays, newest_kept, unclean_parts}
use Rattle.up_coherence.proofs.Firmness.{false_by, apart_true, fetched_holds, back_holds, copied_back, by_who, quiet_supply, quiet_begin, quiet_end, quiet_cut, quiet_claim, below_uncut, firm_quiet, firm_supply, firm_fail, firm_resize, firm_copied, firm_stored, firm_end, firm_fetched, firm_begin}
use Rattle.up_coherence.proofs.Coherence.{coherent_more}

-- an entry that neither supplies nor ends a page, where its actor's claim goes on and the disk stays
pub calm : (image : ℕ → ℕ) (birth : Birth) (e : Entry) (h : List Entry) (disk : ℕ → ℕ) (hands : ℕ → ℕ → ℕ) → Firm birth (e ∷ h) →
    next_claim e.call e.reply (claim_of h e.who) ≡ claim_of h e.who → ((p : ℕ) → supplies e p ≡ false) → ((p : ℕ) → begins e p ≡ false) → ((p : ℕ) → ends e p ≡ false) →
    ((who p : ℕ) → holds (claim_of h who) p ≡ true → cuts birth h e p ≡ false) → Coherent image birth h disk hands → Coherent image birth (e ∷ h) disk hands
calm image birth e h disk hands firm is unsupplied unbegun unended uncut was = coherent_more image birth e h disk disk hands hands (claim_of h e.who) was (record {
  firm = firm;
  is = is;
  given = λ x over. absurd (apart_true _ (unsupplied (page_of x)) over);
  same = λ x rests. refl;
  ended = λ x over. absurd (apart_true _ (unended (page_of x)) over);
  fetch = λ p old. fetch_stays image birth e h firm.legal p (hands e.who) (hands e.who) (unsupplied p) (unended p)
      (uncut e.who p (fetched_holds (claim_of h e.who) p old)) (λ x within. refl) (was.fetch e.who p old);
  copies = λ x old begun_now. newest_stays image birth e h x (hands e.who x) (hands e.who x) (unbegun (page_of x)) refl (was.copies e.who x old) begun_now;
  stored = λ x old begun_now. newest_stays image birth e h x (disk x) (disk x) (unbegun (page_of x)) refl (was.stored e.who x old) begun_now;
  spared = λ who p differs has. record { unsupplied = unsupplied p; unbegun = unbegun p; unended = unended p; uncut = uncut who p has };
  same_hand = λ who x differs has. refl;
  same_disk = λ who x differs has. refl;
})

pub coherent_quiet : (image : ℕ → ℕ) (birth : Birth) (e : Entry) (h : List Entry) (disk : ℕ → ℕ) (hands : ℕ → ℕ → ℕ) → Legal birth (e ∷ h) → is_quiet e.call ≡ true →
    Coherent image birth h disk hands → Coherent image birth (e ∷ h) disk hands
coherent_quiet image birth e h disk hands legal quiet was = calm image birth e h disk hands (firm_quiet birth e h legal quiet was.firm)
    (quiet_claim e.call e.reply (claim_of h e.who) quiet)
    (λ p. rw (quiet_supply e.call p quiet) refl) (λ p. rw (quiet_begin e.call p quiet) refl) (λ p. rw (quiet_end e.call p quiet) refl)
    (λ who p has. rw (quiet_cut e.call (size birth h) p quiet) refl) was

pub coherent_resize : (image : ℕ → ℕ) (birth : Birth) (h : List Entry) (disk : ℕ → ℕ) (hands : ℕ → ℕ → ℕ) (who epoch pages : ℕ) (reply : Reply) →
    Legal birth (made who epoch (Resize pages) reply ∷ h) → BelowAll h pages →
    Coherent image birth h disk hands → Coherent image birth (made who epoch (Resize pages) reply ∷ h) disk hands
coherent_resize image birth h disk hands who epoch pages reply legal below was =
    calm image birth (made who epoch (Resize pages) reply) h disk hands (firm_resize birth h who epoch pages reply legal below was.firm) refl
    (λ p. refl) (λ p. refl) (λ p. refl) (λ other p has. below_uncut (size birth h) pages p reply (below other p has)) was

fetch_less : (claim : Option Claim) (p : ℕ) → fetched (without_fetch claim) p ≡ true → fetched claim p ≡ true
fetch_less None p is = is
fetch_less (Some (Fetch page ok)) p is = absurd (false≢true is)
fetch_less (Some (Back range number copied stored)) p is = is

copy_less : (claim : Option Claim) (p : ℕ) → has_copied (without_fetch claim) p ≡ true → has_copied claim p ≡ true
copy_less None p is = is
copy_less (Some (Fetch page ok)) p is = absurd (false≢true is)
copy_less (Some (Back range number copied stored)) p is = is

pub store_less : (claim : Option Claim) (p : ℕ) → has_stored (without_fetch claim) p ≡ true → has_stored claim p ≡ true
store_less None p is = is
store_less (Some (Fetch page ok)) p is = absurd (false≢true is)
store_less (Some (Back range number copied stored)) p is = is

pub coherent_fail : (image : ℕ → ℕ) (birth : Birth) (h : List Entry) (disk : ℕ → ℕ) (hands : ℕ → ℕ → ℕ) (who epoch : ℕ) (range : Span) (code : Code) (reply : Reply) →
    Legal birth (made who epoch (Fail range code) reply ∷ h) →
    Coherent image birth h disk hands → Coherent image birth (made who epoch (Fail range code) reply ∷ h) disk hands
coherent_fail image birth h disk hands who epoch range code reply legal was =
    let e : Entry = made who epoch (Fail range code) reply in
    coherent_more image birth (made who epoch (Fail range code) reply) h disk disk hands hands (without_fetch (claim_of h who)) was (record {
      firm = firm_fail birth h who epoch range code reply legal was.firm;
      is = refl;
      given = λ x over. absurd (false≢true over);
      same = λ x rests. refl;
      ended = λ x over. absurd (false≢true over);
      fetch = λ p is. fetch_stays image birth (made who epoch (Fail range code) reply) h legal p (hands who) (hands who) refl refl refl (λ x within. refl) (was.fetch who p (fetch_less (claim_of h who) p is));
      copies = λ x is begun_now. newest_stays image birth (made who epoch (Fail range code) reply) h x (hands who x) (hands who x) refl refl (was.copies who x (copy_less (claim_of h who) (page_of x) is)) begun_now;
      stored = λ x is begun_now. newest_stays image birth (made who epoch (Fail range code) reply) h x (disk x) (disk x) refl refl (was.stored who x (store_less (claim_of h who) (page_of x) is)) begun_now;
      spared = λ other p differs has. record { unsupplied = refl; unbegun = refl; unended = refl; uncut = refl };
      same_hand = λ other x differs has. refl;
      same_disk = λ other x differs has. refl;
    })

-- one page's range has that page alone
pub one_is : (p q : ℕ) → covers (one_page p) q ≡ true → p ≡ q
one_is p q over = grind (arith, nat_tests)

pub coherent_supply : (image : ℕ → ℕ) (birth : Birth) (h : List Entry) (disk : ℕ → ℕ) (hands : ℕ → ℕ → ℕ) (who epoch : ℕ) (page : PageNo) (bytes : List ℕ) (brought : Brought) (reply : Reply) →
    Legal birth (made who epoch (Supply (one_page page.0) bytes brought) reply ∷ h) → claim_of h who ≡ Some (Fetch page true) → BringsHand bytes (hands who) page.0 →
    Coherent image birth h disk hands → Coherent image birth (made who epoch (Supply (one_page page.0) bytes brought) reply ∷ h) disk hands
coherent_supply image birth h disk hands who epoch page bytes brought reply legal claim brings was =
    let fetch : fetched (claim_of h who) page.0 ≡ true = rw (claim, nat_eq-same page.0) refl in
    coherent_more image birth (made who epoch (Supply (one_page page.0) bytes brought) reply) h disk disk hands hands None was (record {
      firm = firm_supply birth h who epoch (one_page page.0) bytes brought reply legal was.firm;
      is = ap without_fetch claim;
      given = λ x over absent.
          let here : page.0 ≡ page_of x = one_is page.0 (page_of x) (and_left (covers (one_page page.0) (page_of x)) (accepts reply) over) in
          brings x (sym here) ∙ ap Some (read_newest (hands who) page.0 (was.fetch who page.0 fetch) (subst (λ (q : ℕ). there birth h q ≡ false) (sym here) absent) x (sym here));
      same = λ x rests. refl;
      ended = λ x over. absurd (false≢true over);
      fetch = λ p is. absurd (false≢true is);
      copies = λ x is. absurd (false≢true is);
      stored = λ x is. absurd (false≢true is);
      spared = λ other p differs has. record {
        unsupplied = false_by (covers (one_page page.0) p && accepts reply) (λ over.
            let here : page.0 ≡ p = one_is page.0 p (and_left (covers (one_page page.0) p) (accepts reply) over) in
            let mine : holds (claim_of h who) p ≡ true = subst (λ (q : ℕ). holds (claim_of h who) q ≡ true) here (fetched_holds (claim_of h who) page.0 fetch) in
            apart_true _ (was.firm.apart who other p differs mine) has);
        unbegun = refl;
        unended = refl;
        uncut = refl;
      };
      same_hand = λ other x differs has. refl;
      same_disk = λ other x differs has. refl;
    })
  where
    read_newest : (hand : ℕ → ℕ) (p : ℕ) → FetchStands image birth h hand p → there birth h p ≡ false → (x : ℕ) → page_of x ≡ p → hand x ≡ newest image birth h x
    read_newest hand p (inl is) absent x within = absurd (apart_true _ absent (unclean_parts (there birth h p) (settled birth h p) is).0)
    read_newest hand p (inr read) absent x within = read.read x within

pub coherent_fetched : (image : ℕ → ℕ) (birth : Birth) (h : List Entry) (disk : ℕ → ℕ) (hands hold : ℕ → ℕ → ℕ) (who epoch : ℕ) (page : PageNo) (ok : Bool) (reply : Reply) →
    Legal birth (made who epoch (Tell (told.Fetched page ok)) reply ∷ h) → page.0 < size birth h → there birth h page.0 ≡ false → Unheld h page.0 →
    ReadsDisk disk hold who page.0 ok → SameHands hands hold who →
    Coherent image birth h disk hands → Coherent image birth (made who epoch (Tell (told.Fetched page ok)) reply ∷ h) disk hold
coherent_fetched image birth h disk hands hold who epoch page ok reply legal low absent free reads same was =
    coherent_more image birth (made who epoch (Tell (told.Fetched page ok)) reply) h disk disk hands hold (Some (Fetch page ok)) was (record {
      firm = firm_fetched birth h who epoch page ok reply legal low free was.firm;
      is = refl;
      given = λ x over. absurd (false≢true over);
      same = λ x rests. refl;
      ended = λ x over. absurd (false≢true over);
      fetch = λ p is.
          let here : page.0 ≡ p = nat_eq_true page.0 p (and_right ok (page.0 == p) is) in
          let good : ok ≡ true = and_left ok (page.0 == p) is in
          subst (λ (q : ℕ). FetchStands image birth (made who epoch (Tell (told.Fetched page ok)) reply ∷ h) (hold who) q) here
          (fetch_stays image birth (made who epoch (Tell (told.Fetched page ok)) reply) h legal page.0 (hold who) (hold who) refl refl refl (λ x within. refl)
          (inr (record {
            gone = absent;
            read = λ x within. reads good x within ∙ was.blocks x (subst (λ (q : ℕ). q < size birth h) (sym within) low)
                (subst (λ (q : ℕ). settled birth h q ≡ true) (sym within) (absent_settled birth h legal.0 page.0 low absent));
          })));
      copies = λ x is. absurd (false≢true is);
      stored = λ x is. absurd (false≢true is);
      spared = λ other p differs has. record { unsupplied = refl; unbegun = refl; unended = refl; uncut = refl };
      same_hand = λ other x differs has. same other x differs;
      same_disk = λ other x differs has. refl;
    })

pub none_stored : (range : Span) (p : ℕ) → (covers range p && nat_lt p (range.first + 0)) ≡ false
none_stored range p = grind (arith, nat_tests)

pub coherent_begin : (image : ℕ → ℕ) (birth : Birth) (h : List Entry) (disk : ℕ → ℕ) (hands : ℕ → ℕ → ℕ) (who epoch : ℕ) (range : Span) (zero : Bool) (reply : Reply) →
    Legal birth (made who epoch (Begin range zero) reply ∷ h) → accepts reply ≡ true →
    ((p : ℕ) → covers range p ≡ true → unclean birth h p ≡ true) → ((p : ℕ) → covers range p ≡ true → Unheld h p) →
    Coherent image birth h disk hands → Coherent image birth (made who epoch (Begin range zero) reply ∷ h) disk hands
coherent_begin image birth h disk hands who epoch range zero reply legal accepted all free was =
    coherent_more image birth (made who epoch (Begin range zero) reply) h disk disk hands hands (Some (Back range (given_number reply) false 0)) was (record {
      firm = firm_begin birth h who epoch range zero reply legal all free was.firm;
      is = rw accepted refl;
      given = λ x over. absurd (false≢true over);
      same = λ x rests. refl;
      ended = λ x over. absurd (false≢true over);
      fetch = λ p is. absurd (false≢true is);
      copies = λ x is. absurd (false≢true is);
      stored = λ x is. absurd (apart_true _ (none_stored range (page_of x)) is);
      spared = λ other p differs has. record {
        unsupplied = refl;
        unbegun = false_by (covers range p && accepts reply) (λ over. apart_true _ (free p (and_left (covers range p) (accepts reply) over) other) has);
        unended = refl;
        uncut = refl;
      };
      same_hand = λ other x differs has. refl;
      same_disk = λ other x differs has. refl;
    })

pub coherent_copied : (image : ℕ → ℕ) (birth : Birth) (h : List Entry) (disk : ℕ → ℕ) (hands hold : ℕ → ℕ → ℕ) (who epoch : ℕ) (range : Span) (number : Option ℕ) (reply : Reply) →
    Legal birth (made who epoch (Tell (told.Copied range)) reply ∷ h) → claim_of h who ≡ Some (Back range number false 0) → CopiesBytes birth h (hold who) range → SameHands hands hold who →
    Coherent image birth h disk hands → Coherent image birth (made who epoch (Tell (told.Copied range)) reply ∷ h) disk hold
coherent_copied image birth h disk hands hold who epoch range number reply legal claim copied same was =
    coherent_more image birth (made who epoch (Tell (told.Copied range)) reply) h disk disk hands hold (Some (Back range number true 0)) was (record {
      firm = firm_copied birth h who epoch range reply legal was.firm;
      is = ap with_copy claim;
      given = λ x over. absurd (false≢true over);
      same = λ x rests. refl;
      ended = λ x over. absurd (false≢true over);
      fetch = λ p is. absurd (false≢true is);
      copies = λ x is begun_now.
          let mine : in_back (claim_of h who) (page_of x) ≡ true = ap (λ c. in_back c (page_of x)) claim ∙ is in
          let here = (unclean_parts (there birth h (page_of x)) (settled birth h (page_of x)) (was.firm.back who (page_of x) mine)).0 in
          copied x is ∙ ap byte_or_zero (was.bytes x here) ∙ sym (newest_kept image birth (made who epoch (Tell (told.Copied range)) reply) h x refl);
      stored = λ x is. absurd (apart_true _ (none_stored range (page_of x)) is);
      spared = λ other p differs has. record { unsupplied = refl; unbegun = refl; unended = refl; uncut = refl };
      same_hand = λ other x differs has. same other x differs;
      same_disk = λ other x differs has. refl;
    })

-- a page of one actor's writeback is not that of another's
other_page : (birth : Birth) (h : List Entry) → Firm birth h → (who other p q : ℕ) → (who == other) ≡ false → holds (claim_of h who) p ≡ true → holds (claim_of h other) q ≡ true → (q == p) ≡ false
other_page birth h firm who other p q differs mine theirs = false_by (q == p) (λ same.
    apart_true _ (firm.apart who other p differs mine) (subst (λ (r : ℕ). holds (claim_of h other) r ≡ true) (nat_eq_true q p same) theirs))

-- a page that was settled isn't that of a store
settled_page : (birth : Birth) (h : List Entry) (p q : ℕ) → unclean birth h p ≡ true → settled birth h q ≡ true → (q == p) ≡ false
settled_page birth h p q is rests = false_by (q == p) (λ same.
    apart_true _ (unclean_parts (there birth h p) (settled birth h p) is).1 (subst (λ (r : ℕ). settled birth h r ≡ true) (nat_eq_true q p same) rests))

-- one page more is stored: this one, or one that was
pub stored_more : (range : Span) (stored page p : ℕ) → page ≡ range.first + stored → (covers range p && nat_lt p (range.first + suc stored)) ≡ true →
    (p ≡ page) ⊎ ((covers range p && nat_lt p (range.first + stored)) ≡ true)
stored_more range stored page p is has = ⊎_elim
    (λ before. inr (grind (arith, nat_tests)))
    (λ after'. inl (let in_range : p < range.first + suc stored = grind (arith, nat_tests) in omega arith))
    (cases_lt p (range.first + stored))

pub coherent_stored : (image : ℕ → ℕ) (birth : Birth) (h : List Entry) (disk after' : ℕ → ℕ) (hands : ℕ → ℕ → ℕ) (who epoch : ℕ) (page : PageNo) (range : Span) (number : Option ℕ) (stored : ℕ) (reply : Reply) →
    Legal birth (made who epoch (Tell (told.Stored page true)) reply ∷ h) → claim_of h who ≡ Some (Back range number true stored) → page.0 ≡ range.first + stored → covers range page.0 ≡ true →
    StoresHand after' (hands who) page.0 → StoresElsewhere disk after' page.0 →
    Coherent image birth h disk hands → Coherent image birth (made who epoch (Tell (told.Stored page true)) reply ∷ h) after' hands
coherent_stored image birth h disk after' hands who epoch page range number stored reply legal claim at_page over puts elsewhere was =
    let mine : in_back (claim_of h who) page.0 ≡ true = ap (λ c. in_back c page.0) claim ∙ over in
    let held : holds (claim_of h who) page.0 ≡ true = back_holds (claim_of h who) page.0 mine in
    coherent_more image birth (made who epoch (Tell (told.Stored page true)) reply) h disk after' hands hands (Some (Back range number true (suc stored))) was (record {
      firm = firm_stored birth h who epoch page true reply legal was.firm;
      is = ap with_store claim;
      given = λ x given_over. absurd (false≢true given_over);
      same = λ x rests. elsewhere x (settled_page birth h page.0 (page_of x) (was.firm.back who page.0 mine) rests);
      ended = λ x ended_over. absurd (false≢true ended_over);
      fetch = λ p is. absurd (false≢true is);
      copies = λ x is begun_now. newest_stays image birth (made who epoch (Tell (told.Stored page true)) reply) h x (hands who x) (hands who x) refl refl
          (was.copies who x (ap (λ c. has_copied c (page_of x)) claim ∙ is)) begun_now;
      stored = λ x is begun_now. by_who (after' x ≡ newest image birth (made who epoch (Tell (told.Stored page true)) reply ∷ h) x) (page_of x) page.0
          (λ here. let within : page_of x ≡ page.0 = nat_eq_true (page_of x) page.0 here in
          newest_stays image birth (made who epoch (Tell (told.Stored page true)) reply) h x (hands who x) (after' x) refl (puts x within)
          (was.copies who x (ap (λ c. has_copied c (page_of x)) claim ∙ and_left (covers range (page_of x)) _ is)) begun_now)
          (λ away. newest_stays image birth (made who epoch (Tell (told.Stored page true)) reply) h x (disk x) (after' x) refl (elsewhere x away)
          (was.stored who x (ap (λ c. has_stored c (page_of x)) claim ∙ was_stored x away is)) begun_now);
      spared = λ other p differs has. record { unsupplied = refl; unbegun = refl; unended = refl; uncut = refl };
      same_hand = λ other x differs has. refl;
      same_disk = λ other x differs has. elsewhere x (other_page birth h was.firm who other page.0 (page_of x) differs held (back_holds (claim_of h other) (page_of x) has));
    })
  where
    was_stored : (x : ℕ) → (page_of x == page.0) ≡ false → (covers range (page_of x) && nat_lt (page_of x) (range.first + suc stored)) ≡ true →
        (covers range (page_of x) && nat_lt (page_of x) (range.first + stored)) ≡ true
    was_stored x away is = elim (stored_more range stored page.0 (page_of x) at_page is) [
      | inl here ↦ absurd (apart_true _ away (subst (λ (q : ℕ). (page_of x == q) ≡ true) here (nat_eq-same (page_of x))))
      | inr before ↦ before
    ]

pub coherent_store_failed : (image : ℕ → ℕ) (birth : Birth) (h : List Entry) (disk after' : ℕ → ℕ) (hands : ℕ → ℕ → ℕ) (who epoch : ℕ) (page : PageNo) (range : Span) (number : Option ℕ) (copied : Bool) (stored : ℕ) (reply : Reply) →
    Legal birth (made who epoch (Tell (told.Stored page false)) reply ∷ h) → claim_of h who ≡ Some (Back range number copied stored) → covers range page.0 ≡ true → StoresElsewhere disk after' page.0 →
    Coherent image birth h disk hands → Coherent image birth (made who epoch (Tell (told.Stored page false)) reply ∷ h) after' hands
coherent_store_failed image birth h disk after' hands who epoch page range number copied stored reply legal claim over elsewhere was =
    let mine : in_back (claim_of h who) page.0 ≡ true = ap (λ c. in_back c page.0) claim ∙ over in
    let held : holds (claim_of h who) page.0 ≡ true = back_holds (claim_of h who) page.0 mine in
    coherent_more image birth (made who epoch (Tell (told.Stored page false)) reply) h disk after' hands hands None was (record {
      firm = firm_stored birth h who epoch page false reply legal was.firm;
      is = refl;
      given = λ x given_over. absurd (false≢true given_over);
      same = λ x rests. elsewhere x (settled_page birth h page.0 (page_of x) (was.firm.back who page.0 mine) rests);
      ended = λ x ended_over. absurd (false≢true ended_over);
      fetch = λ p is. absurd (false≢true is);
      copies = λ x is. absurd (false≢true is);
      stored = λ x is. absurd (false≢true is);
      spared = λ other p differs has. record { unsupplied = refl; unbegun = refl; unended = refl; uncut = refl };
      same_hand = λ other x differs has. refl;
      same_disk = λ other x differs has. elsewhere x (other_page birth h was.firm who other page.0 (page_of x) differs held (back_holds (claim_of h other) (page_of x) has));
    })

-- after all pages were stored each page of the range was
all_stored : (range : Span) (p : ℕ) → covers range p ≡ true → (covers range p && nat_lt p (range.first + range.count)) ≡ true
all_stored range p over = grind (arith, nat_tests)

pub coherent_end : (image : ℕ → ℕ) (birth : Birth) (h : List Entry) (disk : ℕ → ℕ) (hands : ℕ → ℕ → ℕ) (who epoch : ℕ) (range : Span) (number of : Option ℕ) (reply : Reply) →
    Legal birth (made who epoch (End range of) reply ∷ h) → claim_of h who ≡ Some (Back range number true range.count) →
    Coherent image birth h disk hands → Coherent image birth (made who epoch (End range of) reply ∷ h) disk hands
coherent_end image birth h disk hands who epoch range number of reply legal claim was =
    coherent_more image birth (made who epoch (End range of) reply) h disk disk hands hands None was (record {
      firm = firm_end birth h who epoch range number of true range.count reply legal claim was.firm;
      is = refl;
      given = λ x over. absurd (false≢true over);
      same = λ x rests. refl;
      ended = λ x over begun_now unrested. was.stored who x
          (ap (λ c. has_stored c (page_of x)) claim ∙ all_stored range (page_of x) (and_left (covers range (page_of x)) (accepts reply) over)) begun_now;
      fetch = λ p is. absurd (false≢true is);
      copies = λ x is. absurd (false≢true is);
      stored = λ x is. absurd (false≢true is);
      spared = λ other p differs has. record {
        unsupplied = refl;
        unbegun = refl;
        unended = false_by (covers range p && accepts reply) (λ over.
            let mine : holds (claim_of h who) p ≡ true = ap (λ c. holds c p) claim ∙ and_left (covers range p) (accepts reply) over in
            apart_true _ (was.firm.apart who other p differs mine) has);
        uncut = refl;
      };
      same_hand = λ other x differs has. refl;
      same_disk = λ other x differs has. refl;
    })

pub hands_change : (image : ℕ → ℕ) (birth : Birth) (h : List Entry) (disk : ℕ → ℕ) (hands hold : ℕ → ℕ → ℕ) →
    ((who x : ℕ) → holds (claim_of h who) (page_of x) ≡ true → hold who x ≡ hands who x) → Coherent image birth h disk hands → Coherent image birth h disk hold
hands_change image birth h disk hands hold same was = record {
  firm = was.firm;
  bytes = was.bytes;
  blocks = was.blocks;
  fetch = λ who p is. other_hand who p (fetched_holds (claim_of h who) p is) (was.fetch who p is);
  copies = λ who x is begun_now. same who x (back_holds (claim_of h who) (page_of x) (copied_back (claim_of h who) (page_of x) is)) ∙ was.copies who x is begun_now;
  stored = was.stored;
}
  where
    other_hand : (who p : ℕ) → holds (claim_of h who) p ≡ true → FetchStands image birth h (hands who) p → FetchStands image birth h (hold who) p
    other_hand who p held (inl is) = inl is
    other_hand who p held (inr read) = inr (record {
      gone = read.gone;
      read = λ x within. same who x (subst (λ (q : ℕ). holds (claim_of h who) q ≡ true) (sym within) held) ∙ read.read x within;
    })
