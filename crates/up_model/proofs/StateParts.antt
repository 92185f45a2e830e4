-- How the parts of a page's state go together: a zero page isn't settled, a page that isn't there is, and what a loaned page is.
use Rattle.std.proofs.Common.{◌≡◌, ℕ, ◌<◌, ◌-◌, ◌*◌, ◌&&◌, ◌||◌, not, Bool, true, false, cond, List, [], ◌∷◌, refl, sym, ◌∙◌, subst, arith, inl, inr}
use Rattle.std.specs.Prelude.{nat_le, nat_lt}
use Rattle.std.proofs.lemmas.Bool.{or_cases, or_parts, and_parts, or_from, or_right}
use Rattle.std.proofs.lemmas.Bool.Decides.{nat_tests}
use Rattle.up_model.specs.Attempts.{accepts}
use Rattle.up_model.specs.Size.{size, resized, asks_to_cut, asks_to_grow, grows, range_fits}
use Rattle.up_model.specs.Deeds.{writes, supplies, over_supply, over_dirty, over_end, lets_dirty, ends, pins_one, unpins_one, zeroes, blanks, drops, evicts, moves, of_borrow, says_borrowed, borrows}
use Rattle.up_model.specs.Value.{there, settled, marked}
use Rattle.up_model.specs.States.{plain, unclean, closes, empties}
use Rattle.up_model.specs.Roles.{detached}
use Rattle.up_model.specs.Pins.{pins, loaned, ends_loan}
use Rattle.up_model.specs.Reply.{reply, first_in, absent, is_pinned}
use Rattle.up_model.specs.Legal.{Legal}
use Rattle.up_model.specs.declared.entry.Birth.{Birth}
use Rattle.up_model.specs.declared.entry.Entry.{Entry}
use Rattle.up_model.specs.declared.entry.Call.{Call}
use Rattle.up_model.specs.declared.entry.Call.TheVariants.{Dirty, End, Borrow, Resize}
use Rattle.up_model.specs.declared.entry.Reply.{Reply}
use Rattle.up_model.proofs.Bools.{and_left, and_right, not_true, nat_eq_true, not_false}
use Rattle.up_model.proofs.Equations.{marked_is, settled_is, settled_none, value_none}
use Rattle.up_model.proofs.Passed.{past_where, past_at, past_accepts, past_borrowed, none_in}
use Rattle.up_model.proofs.Presence.{there_after, there_is, pages_within, accepted_reply}
use Rattle.up_model.proofs.Reclaiming.{evicted_page}

never_here : (e m : Bool) → (cond (e && false) false false && m) ≡ true → ⊥
never_here true m is = cc
never_here false m is = cc

-- the tests of an entry, and what held before it: dirtied by a write, by leave or as zeros; taken otherwise; there, marked, closed, settled
plain_step : (write leave blank pin supply take end here mark run rest : Bool) → (supply ≡ true → end ≡ false) → ((here && mark) ≡ true → rest ≡ false) →
    (cond write true (cond supply true (cond blank true (cond (take || (end && ((here && mark) && ((here && not rest) && run)))) false here)))
    && cond blank true (cond (write || pin) false (cond supply (here && mark) mark))) ≡ true →
    cond (write || (leave || blank)) false (cond end (run || rest) rest) ≡ false
plain_step true l b p s t e h m r q no_end was is = refl
plain_step false true b p s t e h m r q no_end was is = refl
plain_step false false true p s t e h m r q no_end was is = refl
plain_step false false false true s t e h m r q no_end was is = let never = and_right _ false is in absurd cc
plain_step false false false false true t e h m r q no_end was is = rw (no_end refl, was is) refl
plain_step false false false false false true e h m r q no_end was is = absurd cc
plain_step false false false false false false e false m r q no_end was is = absurd (never_here e m is)
plain_step false false false false false false e true false r q no_end was is = let never = and_right _ false is in absurd cc
plain_step false false false false false false false true true r q no_end was is = was refl
plain_step false false false false false false true true true true true no_end was is = was refl
plain_step false false false false false false true true true true false no_end was is = absurd cc
plain_step false false false false false false true true true false q no_end was is = was refl

supply_ends_none : (call : Call) (p : ℕ) → over_supply call p ≡ true → over_end call p ≡ false
supply_ends_none (End range of) p is = absurd cc
supply_ends_none _ p is = refl

-- a zero page isn't settled
pub plain_unsettled : (birth : Birth) (h : List Entry) → Legal birth h → (p : ℕ) → plain birth h p ≡ true → settled birth h p ≡ false
plain_unsettled birth [] legal p is = let none = value_none birth (4096 * p) in absurd cc
plain_unsettled birth (e ∷ before) legal p is =
    rw (settled_is birth e before p)
    (plain_step (writes before e p) (lets_dirty e p) (blanks birth before e p) (pins_one e p) (supplies e p) (drops birth before e p) (ends e p)
    (there birth before p) (marked birth before p) (closes birth before e p) (settled birth before p)
    (λ given. rw (supply_ends_none e.call p (and_left _ _ given)) refl) (plain_unsettled birth before legal.0 p)
    (rw (there_is birth e before legal p, marked_is birth e before p) at is))

-- where the object had the page already, unless it grew
pub was_within : (call : Call) (r : Reply) (n p : ℕ) → (asks_to_grow call n p && accepts r) ≡ false → p < resized call r n → p < n
was_within (Resize pages) r n p stays low =
    elim (accepts r) as (λ b. ((nat_le n p && nat_lt p pages) && b) ≡ false → p < cond b pages n → p < n) [
      | true ↦ λ q below. grind (arith, nat_tests)
      | false ↦ λ q below. below
    ] stays low
was_within _ r n p stays low = low

pub cut_beyond : (call : Call) (r : Reply) (n p : ℕ) → (asks_to_cut call n p && accepts r) ≡ true → p < resized call r n → ⊥
cut_beyond (Resize pages) r n p is low =
    elim (accepts r) as (λ b. ((nat_lt p n && nat_le pages p) && b) ≡ true → p < cond b pages n → ⊥) [
      | true ↦ λ q below. grind (arith, nat_tests)
      | false ↦ λ q below. let never = and_right _ false q in absurd cc
    ] is low
cut_beyond _ r n p is low = absurd cc

-- leave to make a page dirty is given to pages that are there
pub leave_there : (birth : Birth) (h : List Entry) (who epoch : ℕ) (call : Call) (p : ℕ) → over_dirty call p ≡ true → accepts (reply birth h who epoch call) ≡ true → there birth h p ≡ true
leave_there birth h who epoch (Dirty range brought) p over is =
    let a = past_where accepts past_accepts (not (range_fits birth h range)) _ _ is in
    let b = past_where accepts past_accepts (not birth.trap) _ _ a.1 in
    let c = past_where accepts past_accepts (detached birth h) _ _ b.1 in
    let d = past_at accepts past_accepts (first_in (absent birth h) range) _ _ c.1 in
    not_false _ (none_in (absent birth h) range p d.0 over)
leave_there birth h who epoch _ p over is = absurd cc

-- what an entry doesn't do to a page
pub record Spares (birth : Birth) (before : List Entry) (e : Entry) (p : ℕ) : Type 0 where
  pub unwritten : writes before e p ≡ false
  pub unasked : lets_dirty e p ≡ false
  pub unpinned : pins_one e p ≡ false
  pub unzeroed : zeroes e p ≡ false
  pub ungrown : grows birth before e p ≡ false
  pub undropped : drops birth before e p ≡ false

-- leave to make a page dirty takes no page away
leave_keeps : (birth : Birth) (before : List Entry) (who epoch : ℕ) (call : Call) (r : Reply) (p : ℕ) → over_dirty call p ≡ true →
    let e : Entry = record { who = who; epoch = epoch; call = call; reply = r } in (drops birth before e p ≡ false) × (ends e p ≡ false)
leave_keeps birth before who epoch (Dirty range brought) r p over = (refl, refl)
leave_keeps birth before who epoch _ r p over = absurd cc

stays_there : (write supply blank taking here : Bool) → taking ≡ false → here ≡ true → cond write true (cond supply true (cond blank true (cond taking false here))) ≡ true
stays_there true s b t h kept here = refl
stays_there false true b t h kept here = refl
stays_there false false true t h kept here = refl
stays_there false false false t h kept here = rw kept here

after_leave : (birth : Birth) (e : Entry) (before : List Entry) → Legal birth (e ∷ before) → (p : ℕ) → lets_dirty e p ≡ true → there_after birth e before p ≡ true
after_leave birth e before legal p is =
    let parts = and_parts (over_dirty e.call p) (accepts e.reply) is in
    let here = leave_there birth before e.who e.epoch e.call p parts.0 (accepted_reply birth e before legal parts.1) in
    let keeps = leave_keeps birth before e.who e.epoch e.call e.reply p parts.0 in
    stays_there (writes before e p) (supplies e p) (blanks birth before e p) (drops birth before e p || empties birth before e p) (there birth before p)
    (or_from _ _ keeps.0 (rw keeps.1 refl)) here

rested : (end run rest : Bool) → rest ≡ true → cond end (run || rest) rest ≡ true
rested true run rest is = or_right run rest is
rested false run rest is = is

-- the tests of an entry, and what held before it
rest_step : (write leave blank supply drop end empty here run rest : Bool) → (leave ≡ true → cond write true (cond supply true (cond blank true (cond (drop || empty) false here))) ≡ true) →
    (drop ≡ true → rest ≡ true) → (empty ≡ true → (end ≡ true) × (run ≡ true)) → (blank ≡ false → here ≡ false → rest ≡ true) →
    cond write true (cond supply true (cond blank true (cond (drop || empty) false here))) ≡ false →
    cond (write || (leave || blank)) false (cond end (run || rest) rest) ≡ true
rest_step true l b s d e m h r q leaving dropping emptying old is = absurd cc
rest_step false l b true d e m h r q leaving dropping emptying old is = absurd cc
rest_step false l true false d e m h r q leaving dropping emptying old is = absurd cc
rest_step false true false false d e m h r q leaving dropping emptying old is = let never = leaving refl in absurd cc
rest_step false false false false true e m h r q leaving dropping emptying old is = rested e r q (dropping refl)
rest_step false false false false false e true h r q leaving dropping emptying old is = let both = emptying refl in rw (both.0, both.1) refl
rest_step false false false false false e false h r q leaving dropping emptying old is = rested e r q (old refl is)

-- a page of the object that isn't there is settled
pub absent_settled : (birth : Birth) (h : List Entry) → Legal birth h → (p : ℕ) → p < size birth h → there birth h p ≡ false → settled birth h p ≡ true
absent_settled birth [] legal p low absent = settled_none birth p
absent_settled birth (e ∷ before) legal p low gone =
    rw (settled_is birth e before p)
    (rest_step (writes before e p) (lets_dirty e p) (blanks birth before e p) (supplies e p) (drops birth before e p) (ends e p) (empties birth before e p)
    (there birth before p) (closes birth before e p) (settled birth before p)
    (after_leave birth e before legal p)
    (λ dropped. elim (or_cases (evicts e p) _ dropped) [
      | inl evicted ↦ (evicted_page birth e before legal p evicted).rests
      | inr cut ↦ absurd (cut_beyond e.call e.reply (size birth before) p cut low)
    ])
    (λ emptied. let parts = and_parts (ends e p) _ emptied in (parts.0, and_right (unclean birth before p) _ (and_right (plain birth before p) _ parts.1)))
    (λ unblanked missing. absent_settled birth before legal.0 p
    (was_within e.call e.reply (size birth before) p (or_parts (zeroes e p) _ unblanked).1 low) missing)
    (sym (there_is birth e before legal p) ∙ gone))

-- what holds of a page that has a loaned frame
pub record LoanedPage (birth : Birth) (h : List Entry) (p : ℕ) : Type 0 where
  pub here : there birth h p ≡ true
  pub rests : settled birth h p ≡ true
  pub unpinned : pins h p ≡ 0

pins_step : (one : Bool) (n : ℕ) → n ≡ 0 → cond one (n - 1) n ≡ 0
pins_step true n none = rw none refl
pins_step false n none = none

clean_of : (here rest : Bool) → here ≡ true → (here && not rest) ≡ false → rest ≡ true
clean_of true true q kept = refl
clean_of true false q kept = absurd cc
clean_of false rest q kept = absurd cc

-- an end empties no page that is settled
settled_stays : (end zero here run rest : Bool) → rest ≡ true → (end && (zero && ((here && not rest) && run))) ≡ false
settled_stays true true true run true q = refl
settled_stays true true false run true q = refl
settled_stays true false here run true q = refl
settled_stays false zero here run true q = refl
settled_stays end zero here run false q = absurd cc

-- an entry that spares the page leaves it so
spared_loaned : (birth : Birth) (e : Entry) (before : List Entry) → Legal birth (e ∷ before) → (p : ℕ) → Spares birth before e p → LoanedPage birth before p → LoanedPage birth (e ∷ before) p
spared_loaned birth e before legal p spares was = record {
  here = rw (there_is birth e before legal p)
      (stays_there (writes before e p) (supplies e p) (blanks birth before e p) (drops birth before e p || empties birth before e p) (there birth before p)
      (or_from _ _ spares.undropped (settled_stays (ends e p) (plain birth before p) (there birth before p) (closes birth before e p) (settled birth before p) was.rests)) was.here);
  rests = rw (settled_is birth e before p, spares.unwritten, spares.unasked, spares.unzeroed, spares.ungrown)
      (rested (ends e p) (closes birth before e p) (settled birth before p) was.rests);
  unpinned = rw spares.unpinned (pins_step (unpins_one e p) (pins before p) was.unpinned);
}

-- a borrow spares its page, and finds it so
borrow_spares : (birth : Birth) (before : List Entry) (who epoch : ℕ) (call : Call) (r : Reply) (p : ℕ) → of_borrow call p ≡ true →
    Spares birth before (record { who = who; epoch = epoch; call = call; reply = r }) p
borrow_spares birth before who epoch (Borrow page brought) r p over =
    record { unwritten = refl; unasked = refl; unpinned = refl; unzeroed = refl; ungrown = refl; undropped = refl }
borrow_spares birth before who epoch _ r p over = absurd cc

borrow_finds : (birth : Birth) (h : List Entry) (who epoch : ℕ) (call : Call) (p : ℕ) → of_borrow call p ≡ true → says_borrowed (reply birth h who epoch call) ≡ true → LoanedPage birth h p
borrow_finds birth h who epoch (Borrow page brought) p over is =
    let a = past_where says_borrowed past_borrowed (not (nat_lt page.0 (size birth h))) _ _ is in
    let b = past_where says_borrowed past_borrowed (absent birth h page.0) _ _ a.1 in
    let c = past_where says_borrowed past_borrowed (is_pinned h page.0) _ _ b.1 in
    let d = past_where says_borrowed past_borrowed (unclean birth h page.0) _ _ c.1 in
    let here = not_false _ b.0 in
    subst (λ (q : ℕ). LoanedPage birth h q) (nat_eq_true page.0 p over) (record {
      here = here;
      rests = clean_of _ _ here d.0;
      unpinned = nat_eq_true _ 0 (not_false _ c.0);
    })
borrow_finds birth h who epoch _ p over is = absurd cc

-- an entry that ends no loan spares a page that the object has
grows_none : (call : Call) (n p : ℕ) → p < n → asks_to_grow call n p ≡ false
grows_none (Resize pages) n p low = grind (arith, nat_tests)
grows_none _ n p low = refl

loan_spared : (birth : Birth) (e : Entry) (before : List Entry) (p : ℕ) → ends_loan birth before e p ≡ false → p < size birth before → Spares birth before e p
loan_spared birth e before p kept low =
    let a = or_parts (writes before e p) _ kept in
    let b = or_parts (lets_dirty e p) _ a.1 in
    let c = or_parts (pins_one e p) _ b.1 in
    let d = or_parts (zeroes e p) _ c.1 in
    let f = or_parts (moves e p) _ d.1 in
    record { unwritten = a.0; unasked = b.0; unpinned = c.0; unzeroed = d.0; ungrown = rw (grows_none e.call (size birth before) p low) refl; undropped = f.1 }

pub loaned_page : (birth : Birth) (h : List Entry) → Legal birth h → (p : ℕ) → loaned birth h p ≡ true → LoanedPage birth h p
loaned_page birth [] legal p is = absurd cc
loaned_page birth (e ∷ before) legal p is = elim (or_cases (borrows e p) _ is) [
  | inl borrowed ↦ let parts = and_parts (of_borrow e.call p) (says_borrowed e.reply) borrowed in
      spared_loaned birth e before legal p (borrow_spares birth before e.who e.epoch e.call e.reply p parts.0)
      (borrow_finds birth before e.who e.epoch e.call p parts.0 (subst (λ (r : Reply). says_borrowed r ≡ true) legal.2 parts.1))
  | inr still ↦ let parts = and_parts (not (ends_loan birth before e p)) (loaned birth before p) still in
      let was = loaned_page birth before legal.0 p parts.1 in
      spared_loaned birth e before legal p (loan_spared birth e before p (not_true _ parts.0) (pages_within birth before legal.0 p was.here)) was
]

-- and it isn't a zero page
pub loaned_not_plain : (birth : Birth) (h : List Entry) → Legal birth h → (p : ℕ) → loaned birth h p ≡ true → plain birth h p ≡ false
loaned_not_plain birth h legal p is = elim (plain birth h p) as (λ b. plain birth h p ≡ b → b ≡ false) [
  | true ↦ λ q. let not_settled = plain_unsettled birth h legal p q in let rests = (loaned_page birth h legal p is).rests in absurd cc
  | false ↦ λ q. refl
] refl
