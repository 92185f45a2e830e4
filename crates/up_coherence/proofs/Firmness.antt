-- Claims stay disjoint and within the object, and what is written back stays unclean.
use Rattle.std.proofs.Common.{◌≡◌, ℕ, ◌<◌, ◌==◌, ◌&&◌, ◌⊎◌, Bool, true, false, cond, Option, Some, None, List, ◌∷◌, refl, ap, sym, ◌∙◌, subst, arith, inl, inr}
use Rattle.std.proofs.lemmas.Bool.{false≢true}
use Rattle.std.proofs.lemmas.Bool.Decides.{nat_tests}
use Rattle.up_num.specs.Span.{Span, covers}
use Rattle.up_num.specs.declared.pages.PageNo.{PageNo}
use Rattle.up_num.specs.declared.answers.Code.{Code}
use Rattle.up_model.specs.Attempts.{accepts}
use Rattle.up_model.specs.Size.{size, asks_to_cut, cuts}
use Rattle.up_model.specs.Deeds.{over_supply, over_begin, over_end, ends}
use Rattle.up_model.specs.Value.{there, settled}
use Rattle.up_model.specs.States.{unclean}
use Rattle.up_model.specs.Legal.{Legal}
use Rattle.up_model.specs.declared.entry.Birth.{Birth}
use Rattle.up_model.specs.declared.entry.Entry.{Entry}
use Rattle.up_model.specs.declared.entry.Brought.{Brought}
use Rattle.up_model.specs.declared.entry.Told.{Told}
use Rattle.up_model.specs.declared.entry.Told.TheVariants as told
use Rattle.up_model.specs.declared.entry.Call.{Call}
use Rattle.up_model.specs.declared.entry.Call.TheVariants.{Supply, Fail, Begin, End, Resize, Tell}
use Rattle.up_model.specs.declared.entry.Reply.{Reply}
use Rattle.up_model.proofs.Bools.{and_left, and_right, nat_eq_true}
use Rattle.up_model.proofs.Presence.{stays_within, pages_within}
use Rattle.up_claims.specs.Claimed.{next_claim, told_claim, with_copy, with_store, without_fetch, given_number, claim_of, holds, fetched, in_back, has_copied, has_stored}
use Rattle.up_claims.specs.declared.claim.Claim.{Claim}
use Rattle.up_claims.specs.declared.claim.Claim.TheVariants.{Fetch, Back}
use Rattle.up_coherence.specs.Coherent.{Firm}
use Rattle.up_coherence.specs.StepPremises.{is_quiet, is_quiet_fact, made, Unheld, BelowAll}
use Rattle.up_coherence.proofs.Pages.{unclean_stays, unclean_parts}

pub false_by : (b : Bool) → (b ≡ true → ⊥) → b ≡ false
false_by true never = absurd (never refl)
false_by false never = refl

pub apart_true : (b : Bool) → b ≡ false → b ≡ true → ⊥
apart_true b none is = false≢true (sym none ∙ is)

-- what is fetched, written back, copied or stored is claimed
pub fetched_holds : (claim : Option Claim) (p : ℕ) → fetched claim p ≡ true → holds claim p ≡ true
fetched_holds None p is = absurd (false≢true is)
fetched_holds (Some (Fetch page ok)) p is = and_right ok (page.0 == p) is
fetched_holds (Some (Back range number copied stored)) p is = absurd (false≢true is)

pub back_holds : (claim : Option Claim) (p : ℕ) → in_back claim p ≡ true → holds claim p ≡ true
back_holds None p is = absurd (false≢true is)
back_holds (Some (Fetch page ok)) p is = absurd (false≢true is)
back_holds (Some (Back range number copied stored)) p is = is

pub copied_back : (claim : Option Claim) (p : ℕ) → has_copied claim p ≡ true → in_back claim p ≡ true
copied_back None p is = absurd (false≢true is)
copied_back (Some (Fetch page ok)) p is = absurd (false≢true is)
copied_back (Some (Back range number copied stored)) p is = and_right copied (covers range p) is

pub stored_back : (claim : Option Claim) (p : ℕ) → has_stored claim p ≡ true → in_back claim p ≡ true
stored_back None p is = absurd (false≢true is)
stored_back (Some (Fetch page ok)) p is = absurd (false≢true is)
stored_back (Some (Back range number copied stored)) p is = and_left (covers range p) _ is

-- an actor's claim after an entry of its own, and after one of another
pub own_claim : (e : Entry) (h : List Entry) (who : ℕ) (next : Option Claim) → next_claim e.call e.reply (claim_of h e.who) ≡ next → (e.who == who) ≡ true → claim_of (e ∷ h) who ≡ next
own_claim e h who next is mine =
    let same : e.who ≡ who = nat_eq_true e.who who mine in
    rw mine (subst (λ (n : ℕ). next_claim e.call e.reply (claim_of h n) ≡ next) same is)

pub other_claim : (e : Entry) (h : List Entry) (who : ℕ) → (e.who == who) ≡ false → claim_of (e ∷ h) who ≡ claim_of h who
other_claim e h who other = rw other refl

pub by_who : (P : Type 0) (m n : ℕ) → ((m == n) ≡ true → P) → ((m == n) ≡ false → P) → P
by_who P m n mine other = elim (m == n) as (λ b. (m == n) ≡ b → P) [ true ↦ mine | false ↦ other ] refl

differ_same : (m n k : ℕ) → (m == n) ≡ false → (m == k) ≡ true → (k == n) ≡ false
differ_same m n k one two = grind (arith, nat_tests)

turned : (m n : ℕ) → (m == n) ≡ false → (n == m) ≡ false
turned m n one = grind (arith, nat_tests)

-- what a step has to show of its own actor's next claim, and of the claims of others
pub record FirmMoves (birth : Birth) (e : Entry) (h : List Entry) (next : Option Claim) : Type 0 where
  pub legal : Legal birth (e ∷ h)
  pub is : next_claim e.call e.reply (claim_of h e.who) ≡ next
  pub within : (p : ℕ) → holds next p ≡ true → p < size birth (e ∷ h)
  pub back : (p : ℕ) → in_back next p ≡ true → unclean birth (e ∷ h) p ≡ true
  pub fresh : (p : ℕ) → holds next p ≡ true → (holds (claim_of h e.who) p ≡ true) ⊎ ((who : ℕ) → (e.who == who) ≡ false → holds (claim_of h who) p ≡ false)
  pub unended : (who p : ℕ) → (e.who == who) ≡ false → holds (claim_of h who) p ≡ true → ends e p ≡ false
  pub uncut : (who p : ℕ) → (e.who == who) ≡ false → holds (claim_of h who) p ≡ true → cuts birth h e p ≡ false

-- no other actor has a page of the next claim
fresh_apart : (birth : Birth) (e : Entry) (h : List Entry) (next : Option Claim) → Firm birth h → FirmMoves birth e h next → (other p : ℕ) → (e.who == other) ≡ false →
    holds next p ≡ true → holds (claim_of h other) p ≡ false
fresh_apart birth e h next firm moves other p differs has = elim (moves.fresh p has) [
  | inl mine ↦ firm.apart e.who other p differs mine
  | inr free ↦ free other differs
]

pub firm_more : (birth : Birth) (e : Entry) (h : List Entry) (next : Option Claim) → Firm birth h → FirmMoves birth e h next → Firm birth (e ∷ h)
firm_more birth e h next firm moves = record {
  legal = moves.legal;
  apart = λ who other p differs has. by_who (holds (claim_of (e ∷ h) other) p ≡ false) e.who who
      (λ mine. let away : (e.who == other) ≡ false = differ_same who other e.who differs (let same : e.who ≡ who = nat_eq_true e.who who mine in let is : (who == e.who) ≡ true = grind (arith, nat_tests) in is) in
      ap (λ c. holds c p) (other_claim e h other away)
      ∙ fresh_apart birth e h next firm moves other p away (sym (ap (λ c. holds c p) (own_claim e h who next moves.is mine)) ∙ has))
      (λ theirs. by_who (holds (claim_of (e ∷ h) other) p ≡ false) e.who other
      (λ mine. false_by (holds (claim_of (e ∷ h) other) p) (λ also.
      let there : holds next p ≡ true = sym (ap (λ c. holds c p) (own_claim e h other next moves.is mine)) ∙ also in
      let none : holds (claim_of h who) p ≡ false = fresh_apart birth e h next firm moves who p theirs there in
      apart_true _ none (sym (ap (λ c. holds c p) (other_claim e h who theirs)) ∙ has)))
      (λ away. ap (λ c. holds c p) (other_claim e h other away)
      ∙ firm.apart who other p differs (sym (ap (λ c. holds c p) (other_claim e h who theirs)) ∙ has)));
  within = λ who p has. by_who (p < size birth (e ∷ h)) e.who who
      (λ mine. moves.within p (sym (ap (λ c. holds c p) (own_claim e h who next moves.is mine)) ∙ has))
      (λ theirs. let had : holds (claim_of h who) p ≡ true = sym (ap (λ c. holds c p) (other_claim e h who theirs)) ∙ has in
      stays_within birth e h p (moves.uncut who p theirs had) (firm.within who p had));
  back = λ who p has. by_who (unclean birth (e ∷ h) p ≡ true) e.who who
      (λ mine. moves.back p (sym (ap (λ c. in_back c p) (own_claim e h who next moves.is mine)) ∙ has))
      (λ theirs. let was : in_back (claim_of h who) p ≡ true = sym (ap (λ c. in_back c p) (other_claim e h who theirs)) ∙ has in
      let had : holds (claim_of h who) p ≡ true = back_holds (claim_of h who) p was in
      unclean_stays birth e h moves.legal p (moves.unended who p theirs had) (moves.uncut who p theirs had) (firm.back who p was));
}

-- where the actor's claim goes on, or goes: nothing of it is new
pub record FirmLess (birth : Birth) (e : Entry) (h : List Entry) (next : Option Claim) : Type 0 where
  pub legal : Legal birth (e ∷ h)
  pub is : next_claim e.call e.reply (claim_of h e.who) ≡ next
  pub had : (p : ℕ) → holds next p ≡ true → holds (claim_of h e.who) p ≡ true
  pub was : (p : ℕ) → in_back next p ≡ true → in_back (claim_of h e.who) p ≡ true
  pub unended : (p : ℕ) → in_back next p ≡ true → ends e p ≡ false
  pub others : (who p : ℕ) → (e.who == who) ≡ false → holds (claim_of h who) p ≡ true → ends e p ≡ false
  pub uncut : (who p : ℕ) → holds (claim_of h who) p ≡ true → cuts birth h e p ≡ false

pub firm_less : (birth : Birth) (e : Entry) (h : List Entry) (next : Option Claim) → Firm birth h → FirmLess birth e h next → Firm birth (e ∷ h)
firm_less birth e h next firm less = firm_more birth e h next firm (record {
  legal = less.legal;
  is = less.is;
  within = λ p has. stays_within birth e h p (less.uncut e.who p (less.had p has)) (firm.within e.who p (less.had p has));
  back = λ p has. unclean_stays birth e h less.legal p (less.unended p has) (less.uncut e.who p (back_holds (claim_of h e.who) p (less.was p has))) (firm.back e.who p (less.was p has));
  fresh = λ p has. inl (less.had p has);
  unended = less.others;
  uncut = λ who p other has. less.uncut who p has;
})

-- tests of quiet calls
pub quiet_supply : (call : Call) (p : ℕ) → is_quiet call ≡ true → over_supply call p ≡ false
quiet_supply (Supply range bytes brought) p quiet = absurd (false≢true quiet)
quiet_supply _ p quiet = refl

pub quiet_begin : (call : Call) (p : ℕ) → is_quiet call ≡ true → over_begin call p ≡ false
quiet_begin (Begin range zero) p quiet = absurd (false≢true quiet)
quiet_begin _ p quiet = refl

pub quiet_end : (call : Call) (p : ℕ) → is_quiet call ≡ true → over_end call p ≡ false
quiet_end (End range of) p quiet = absurd (false≢true quiet)
quiet_end _ p quiet = refl

pub quiet_cut : (call : Call) (n p : ℕ) → is_quiet call ≡ true → asks_to_cut call n p ≡ false
quiet_cut (Resize pages) n p quiet = absurd (false≢true quiet)
quiet_cut _ n p quiet = refl

quiet_told : (said : Told) (old : Option Claim) → is_quiet_fact said ≡ true → told_claim said old ≡ old
quiet_told (told.Fetched page ok) old quiet = absurd (false≢true quiet)
quiet_told (told.Copied range) old quiet = absurd (false≢true quiet)
quiet_told (told.Stored page ok) old quiet = absurd (false≢true quiet)
quiet_told (told.Flushed ok) old quiet = refl
quiet_told (told.Busy pages claim) old quiet = refl

pub quiet_claim : (call : Call) (reply : Reply) (old : Option Claim) → is_quiet call ≡ true → next_claim call reply old ≡ old
quiet_claim (Supply range bytes brought) reply old quiet = absurd (false≢true quiet)
quiet_claim (Fail range code) reply old quiet = absurd (false≢true quiet)
quiet_claim (Begin range zero) reply old quiet = absurd (false≢true quiet)
quiet_claim (End range of) reply old quiet = absurd (false≢true quiet)
quiet_claim (Tell said) reply old quiet = quiet_told said old quiet
quiet_claim _ reply old quiet = refl

pub quiet_less : (birth : Birth) (e : Entry) (h : List Entry) → Legal birth (e ∷ h) → is_quiet e.call ≡ true → FirmLess birth e h (claim_of h e.who)
quiet_less birth e h legal quiet = record {
  legal = legal;
  is = quiet_claim e.call e.reply (claim_of h e.who) quiet;
  had = λ p has. has;
  was = λ p has. has;
  unended = λ p has. rw (quiet_end e.call p quiet) refl;
  others = λ who p other has. rw (quiet_end e.call p quiet) refl;
  uncut = λ who p has. rw (quiet_cut e.call (size birth h) p quiet) refl;
}

pub firm_quiet : (birth : Birth) (e : Entry) (h : List Entry) → Legal birth (e ∷ h) → is_quiet e.call ≡ true → Firm birth h → Firm birth (e ∷ h)
firm_quiet birth e h legal quiet firm = firm_less birth e h (claim_of h e.who) firm (quiet_less birth e h legal quiet)

-- a claim that is a fetch goes, any other stays
fetch_goes : (claim : Option Claim) (p : ℕ) → holds (without_fetch claim) p ≡ true → holds claim p ≡ true
fetch_goes None p has = has
fetch_goes (Some (Fetch page ok)) p has = absurd (false≢true has)
fetch_goes (Some (Back range number copied stored)) p has = has

fetch_backs : (claim : Option Claim) (p : ℕ) → in_back (without_fetch claim) p ≡ true → in_back claim p ≡ true
fetch_backs None p has = has
fetch_backs (Some (Fetch page ok)) p has = absurd (false≢true has)
fetch_backs (Some (Back range number copied stored)) p has = has

pub firm_supply : (birth : Birth) (h : List Entry) (who epoch : ℕ) (range : Span) (bytes : List ℕ) (brought : Brought) (reply : Reply) →
    Legal birth (made who epoch (Supply range bytes brought) reply ∷ h) → Firm birth h → Firm birth (made who epoch (Supply range bytes brought) reply ∷ h)
firm_supply birth h who epoch range bytes brought reply legal firm = firm_less birth _ h (without_fetch (claim_of h who)) firm (record {
  legal = legal;
  is = refl;
  had = fetch_goes (claim_of h who);
  was = fetch_backs (claim_of h who);
  unended = λ p has. refl;
  others = λ other p differs has. refl;
  uncut = λ other p has. refl;
})

pub firm_fail : (birth : Birth) (h : List Entry) (who epoch : ℕ) (range : Span) (code : Code) (reply : Reply) →
    Legal birth (made who epoch (Fail range code) reply ∷ h) → Firm birth h → Firm birth (made who epoch (Fail range code) reply ∷ h)
firm_fail birth h who epoch range code reply legal firm = firm_less birth _ h (without_fetch (claim_of h who)) firm (record {
  legal = legal;
  is = refl;
  had = fetch_goes (claim_of h who);
  was = fetch_backs (claim_of h who);
  unended = λ p has. refl;
  others = λ other p differs has. refl;
  uncut = λ other p has. refl;
})

-- a resize cuts off no page below the new size
pub below_uncut : (n pages p : ℕ) (reply : Reply) → p < pages → (asks_to_cut (Resize pages) n p && accepts reply) ≡ false
below_uncut n pages p reply low = let none : asks_to_cut (Resize pages) n p ≡ false = grind (arith, nat_tests) in rw none refl

pub firm_resize : (birth : Birth) (h : List Entry) (who epoch pages : ℕ) (reply : Reply) → Legal birth (made who epoch (Resize pages) reply ∷ h) → BelowAll h pages →
    Firm birth h → Firm birth (made who epoch (Resize pages) reply ∷ h)
firm_resize birth h who epoch pages reply legal below firm = firm_less birth _ h (claim_of h who) firm (record {
  legal = legal;
  is = refl;
  had = λ p has. has;
  was = λ p has. has;
  unended = λ p has. refl;
  others = λ other p differs has. refl;
  uncut = λ other p has. below_uncut (size birth h) pages p reply (below other p has);
})

copy_holds : (claim : Option Claim) (p : ℕ) → holds (with_copy claim) p ≡ true → holds claim p ≡ true
copy_holds None p has = has
copy_holds (Some (Fetch page ok)) p has = has
copy_holds (Some (Back range number copied stored)) p has = has

copy_backs : (claim : Option Claim) (p : ℕ) → in_back (with_copy claim) p ≡ true → in_back claim p ≡ true
copy_backs None p has = has
copy_backs (Some (Fetch page ok)) p has = has
copy_backs (Some (Back range number copied stored)) p has = has

pub firm_copied : (birth : Birth) (h : List Entry) (who epoch : ℕ) (range : Span) (reply : Reply) → Legal birth (made who epoch (Tell (told.Copied range)) reply ∷ h) →
    Firm birth h → Firm birth (made who epoch (Tell (told.Copied range)) reply ∷ h)
firm_copied birth h who epoch range reply legal firm = firm_less birth _ h (with_copy (claim_of h who)) firm (record {
  legal = legal;
  is = refl;
  had = copy_holds (claim_of h who);
  was = copy_backs (claim_of h who);
  unended = λ p has. refl;
  others = λ other p differs has. refl;
  uncut = λ other p has. refl;
})

store_holds : (ok : Bool) (claim : Option Claim) (p : ℕ) → holds (cond ok (with_store claim) None) p ≡ true → holds claim p ≡ true
store_holds false claim p has = absurd (false≢true has)
store_holds true None p has = has
store_holds true (Some (Fetch page ok)) p has = has
store_holds true (Some (Back range number copied stored)) p has = has

store_backs : (ok : Bool) (claim : Option Claim) (p : ℕ) → in_back (cond ok (with_store claim) None) p ≡ true → in_back claim p ≡ true
store_backs false claim p has = absurd (false≢true has)
store_backs true None p has = has
store_backs true (Some (Fetch page ok)) p has = has
store_backs true (Some (Back range number copied stored)) p has = has

pub firm_stored : (birth : Birth) (h : List Entry) (who epoch : ℕ) (page : PageNo) (ok : Bool) (reply : Reply) → Legal birth (made who epoch (Tell (told.Stored page ok)) reply ∷ h) →
    Firm birth h → Firm birth (made who epoch (Tell (told.Stored page ok)) reply ∷ h)
firm_stored birth h who epoch page ok reply legal firm = firm_less birth _ h (cond ok (with_store (claim_of h who)) None) firm (record {
  legal = legal;
  is = refl;
  had = store_holds ok (claim_of h who);
  was = store_backs ok (claim_of h who);
  unended = λ p has. refl;
  others = λ other p differs has. refl;
  uncut = λ other p has. refl;
})

pub firm_end : (birth : Birth) (h : List Entry) (who epoch : ℕ) (range : Span) (number of : Option ℕ) (copied : Bool) (stored : ℕ) (reply : Reply) →
    Legal birth (made who epoch (End range of) reply ∷ h) → claim_of h who ≡ Some (Back range number copied stored) →
    Firm birth h → Firm birth (made who epoch (End range of) reply ∷ h)
firm_end birth h who epoch range number of copied stored reply legal claim firm = firm_less birth _ h None firm (record {
  legal = legal;
  is = refl;
  had = λ p has. absurd (false≢true has);
  was = λ p has. absurd (false≢true has);
  unended = λ p has. absurd (false≢true has);
  others = λ other p differs has. false_by (covers range p && accepts reply) (λ over.
      let mine : holds (claim_of h who) p ≡ true = ap (λ c. holds c p) claim ∙ and_left (covers range p) (accepts reply) over in
      apart_true _ (firm.apart who other p differs mine) has);
  uncut = λ other p has. refl;
})

pub firm_fetched : (birth : Birth) (h : List Entry) (who epoch : ℕ) (page : PageNo) (ok : Bool) (reply : Reply) → Legal birth (made who epoch (Tell (told.Fetched page ok)) reply ∷ h) →
    page.0 < size birth h → Unheld h page.0 → Firm birth h → Firm birth (made who epoch (Tell (told.Fetched page ok)) reply ∷ h)
firm_fetched birth h who epoch page ok reply legal low free firm = firm_more birth _ h (Some (Fetch page ok)) firm (record {
  legal = legal;
  is = refl;
  within = λ p has. subst (λ (q : ℕ). q < size birth h) (nat_eq_true page.0 p has) low;
  back = λ p has. absurd (false≢true has);
  fresh = λ p has. inr (λ other differs. subst (λ (q : ℕ). holds (claim_of h other) q ≡ false) (nat_eq_true page.0 p has) (free other));
  unended = λ other p differs has. refl;
  uncut = λ other p differs has. refl;
})

begun_holds : (b : Bool) (range : Span) (number : Option ℕ) (old : Option Claim) (p : ℕ) (P : Type 0) → (covers range p ≡ true → P) → (holds old p ≡ true → P) →
    holds (cond b (Some (Back range number false 0)) old) p ≡ true → P
begun_holds true range number old p P new kept has = new has
begun_holds false range number old p P new kept has = kept has

begun_backs : (b : Bool) (range : Span) (number : Option ℕ) (old : Option Claim) (p : ℕ) (P : Type 0) → (covers range p ≡ true → P) → (in_back old p ≡ true → P) →
    in_back (cond b (Some (Back range number false 0)) old) p ≡ true → P
begun_backs true range number old p P new kept has = new has
begun_backs false range number old p P new kept has = kept has

pub firm_begin : (birth : Birth) (h : List Entry) (who epoch : ℕ) (range : Span) (zero : Bool) (reply : Reply) → Legal birth (made who epoch (Begin range zero) reply ∷ h) →
    ((p : ℕ) → covers range p ≡ true → unclean birth h p ≡ true) → ((p : ℕ) → covers range p ≡ true → Unheld h p) →
    Firm birth h → Firm birth (made who epoch (Begin range zero) reply ∷ h)
firm_begin birth h who epoch range zero reply legal unclean_all free firm =
    let next : Option Claim = cond (accepts reply) (Some (Back range (given_number reply) false 0)) (claim_of h who) in
    let stays : (p : ℕ) → unclean birth h p ≡ true → unclean birth (made who epoch (Begin range zero) reply ∷ h) p ≡ true =
    λ p is. unclean_stays birth (made who epoch (Begin range zero) reply) h legal p refl refl is in
    firm_more birth _ h (cond (accepts reply) (Some (Back range (given_number reply) false 0)) (claim_of h who)) firm (record {
      legal = legal;
      is = refl;
      within = λ p has. begun_holds (accepts reply) range (given_number reply) (claim_of h who) p (p < size birth h)
          (λ over. pages_within birth h legal.0 p (unclean_parts (there birth h p) (settled birth h p) (unclean_all p over)).0)
          (λ had. firm.within who p had) has;
      back = λ p has. begun_backs (accepts reply) range (given_number reply) (claim_of h who) p (unclean birth (made who epoch (Begin range zero) reply ∷ h) p ≡ true)
          (λ over. stays p (unclean_all p over)) (λ had. stays p (firm.back who p had)) has;
      fresh = λ p has. begun_holds (accepts reply) range (given_number reply) (claim_of h who) p _
          (λ over. inr (λ other differs. free p over other)) (λ had. inl had) has;
      unended = λ other p differs has. refl;
      uncut = λ other p differs has. refl;
    })
