-- Which tickets are given and held, and that an actor that waits may retry.
use Rattle.std.proofs.Common.{◌≡◌, ℕ, ◌<◌, ◌≤◌, ◌&&◌, ◌||◌, ◌==◌, not, Bool, true, false, cond, Option, Some, None, List, [], ◌∷◌, suc, refl, ap, sym, ◌∙◌, subst, arith}
use Rattle.up_model.specs.Attempts.{blocks, is_blocked}
use Rattle.up_model.specs.Tickets.{next_ticket, owner, spent, retries, keeps_ticket}
use Rattle.up_model.specs.Parked.{retried, waits_after, waits_under}
use Rattle.up_model.specs.Reply.{proper, is_by}
use Rattle.up_model.specs.Legal.{Legal}
use Rattle.up_model.proofs.NewTickets.{blocked_entry}
use Rattle.up_model.proofs.Bools.{and_left, and_right, not_true, and_false, nat_eq_true, nat_eq-same, differ}
use Rattle.up_model.specs.declared.entry.Birth.{Birth}
use Rattle.up_model.specs.declared.entry.Entry.{Entry}
use Rattle.up_model.specs.declared.entry.Brought.TheVariants.{Nothing}
use Rattle.up_model.specs.declared.entry.Call.{Call}
use Rattle.up_model.specs.declared.entry.Call.TheVariants.{Retry}
use Rattle.up_model.specs.declared.entry.Reply.{Reply}
use Rattle.up_model.specs.declared.entry.Reply.TheVariants.{Blocked, Waiting}

blocks_next : (r : Reply) (t next : ℕ) → ((n : ℕ) → r ≡ Blocked n → n ≡ next) → blocks r t ≡ true → (t ≡ next) × (is_blocked r ≡ true)
blocks_next (Blocked n) t next f p = (sym (nat_eq_true n t p) ∙ f n refl, refl)
blocks_next _ t next f p = absurd cc

next_grows : (b : Bool) (n : ℕ) → n ≤ cond b (suc n) n
next_grows true n = omega arith
next_grows false n = omega arith

-- a ticket that somebody holds was given
pub owner_below : (birth : Birth) (h : List Entry) → Legal birth h → (t who : ℕ) → owner h t ≡ Some who → t < next_ticket h
owner_below birth [] legal t who is = absurd cc
owner_below birth (e ∷ before) legal t who is =
    elim (blocks e.reply t) as (λ b. blocks e.reply t ≡ b → cond b (Some e.who) (owner before t) ≡ Some who → t < next_ticket (e ∷ before)) [
      | true ↦ λ q here. let s = blocks_next e.reply t (next_ticket before) (blocked_entry birth e before legal) q in rw (s.1, s.0) (omega arith)
      | false ↦ λ q there. let below : t < next_ticket before = owner_below birth before legal.0 t who there in
          let grows : next_ticket before ≤ next_ticket (e ∷ before) = next_grows (is_blocked e.reply) (next_ticket before) in omega arith
    ] refl is

pub is_by_some : (o : Option ℕ) (who : ℕ) → is_by o who ≡ true → o ≡ Some who
is_by_some None who p = absurd cc
is_by_some (Some holder) who p = ap (λ (n : ℕ). Some n) (nat_eq_true holder who p)

-- this actor holds the ticket, and no retry of it was answered for good
pub record HoldsTicket (h : List Entry) (who t : ℕ) : Type 0 where
  pub holder : owner h t ≡ Some who
  pub unspent : spent h t ≡ false

-- a proper retry is of a ticket that its actor holds
retries_held : (birth : Birth) (h : List Entry) (who : ℕ) (call : Call) (t : ℕ) → proper birth h who call ≡ true → retries call t ≡ true → HoldsTicket h who t
retries_held birth h who (Retry ticket brought) t p r =
    let same : ticket ≡ t = nat_eq_true ticket t r in
    subst (λ (n : ℕ). HoldsTicket h who n) same (record {
      holder = is_by_some (owner h ticket) who (and_left _ _ p);
      unspent = not_true (spent h ticket) (and_left _ _ (and_right (is_by (owner h ticket) who) _ p));
    })
retries_held birth h who _ t p r = absurd cc

-- a ticket that is spent was given
spent_below : (birth : Birth) (h : List Entry) → Legal birth h → (t : ℕ) → spent h t ≡ true → t < next_ticket h
spent_below birth [] legal t is = absurd cc
spent_below birth (e ∷ before) legal t is =
    let grows : next_ticket before ≤ next_ticket (e ∷ before) = next_grows (is_blocked e.reply) (next_ticket before) in
    elim (retries e.call t) as (λ b. retries e.call t ≡ b → ((b && not (keeps_ticket e.reply)) || spent before t) ≡ true → t < next_ticket (e ∷ before)) [
      | true ↦ λ q here. let below : t < next_ticket before = owner_below birth before legal.0 t e.who (retries_held birth before e.who e.call t legal.1 q).holder in omega arith
      | false ↦ λ q there. let below : t < next_ticket before = spent_below birth before legal.0 t there in omega arith
    ] refl is

-- the next ticket isn't spent, and no proper call retries it
fresh_unspent : (birth : Birth) (h : List Entry) → Legal birth h → (t : ℕ) → t ≡ next_ticket h → spent h t ≡ false
fresh_unspent birth h legal t is = elim (spent h t) as (λ b. spent h t ≡ b → b ≡ false) [
  | true ↦ λ q. let below : t < next_ticket h = spent_below birth h legal t q in absurd (omega arith)
  | false ↦ λ q. refl
] refl

fresh_not_retried : (birth : Birth) (h : List Entry) → Legal birth h → (who : ℕ) (call : Call) (t : ℕ) → proper birth h who call ≡ true → t ≡ next_ticket h → retries call t ≡ false
fresh_not_retried birth h legal who call t p is = elim (retries call t) as (λ b. retries call t ≡ b → b ≡ false) [
  | true ↦ λ q. let below : t < next_ticket h = owner_below birth h legal t who (retries_held birth h who call t p q).holder in absurd (omega arith)
  | false ↦ λ q. refl
] refl

retried_retries : (call : Call) (t : ℕ) → retried call ≡ Some t → retries call t ≡ true
retried_retries (Retry ticket brought) t is = let same : ticket ≡ t = cc in rw same (nat_eq-same t)
retried_retries _ t is = absurd cc

-- after an entry of its own
own_holds : (birth : Birth) (e : Entry) (before : List Entry) → Legal birth (e ∷ before) → (r : Reply) → e.reply ≡ r → (t : ℕ) → waits_after r e.call ≡ Some t →
    HoldsTicket (e ∷ before) e.who t
own_holds birth e before legal (Blocked n) is t w =
    let same : n ≡ t = cc in
    let next : t ≡ next_ticket before = sym same ∙ blocked_entry birth e before legal n is in record {
      holder = rw (is, same, nat_eq-same t) refl;
      unspent = rw (fresh_not_retried birth before legal.0 e.who e.call t legal.1 next, fresh_unspent birth before legal.0 t next) refl;
    }
own_holds birth e before legal Waiting is t w =
    let held : HoldsTicket before e.who t = retries_held birth before e.who e.call t legal.1 (retried_retries e.call t w) in record {
      holder = rw is held.holder;
      unspent = rw (is, held.unspent, and_false (retries e.call t)) refl;
    }
own_holds birth e before legal _ is t w = absurd cc

-- after an entry of another actor
other_holds : (birth : Birth) (e : Entry) (before : List Entry) → Legal birth (e ∷ before) → (who t : ℕ) → (e.who == who) ≡ false → HoldsTicket before who t → HoldsTicket (e ∷ before) who t
other_holds birth e before legal who t other held = record {
  holder = elim (blocks e.reply t) as (λ b. blocks e.reply t ≡ b → cond b (Some e.who) (owner before t) ≡ Some who) [
    | true ↦ λ q. let next : t ≡ next_ticket before = (blocks_next e.reply t (next_ticket before) (blocked_entry birth e before legal) q).0 in
        let below : t < next_ticket before = owner_below birth before legal.0 t who held.holder in absurd (omega arith)
    | false ↦ λ q. held.holder
  ] refl;
  unspent = elim (retries e.call t) as (λ b. retries e.call t ≡ b → ((b && not (keeps_ticket e.reply)) || spent before t) ≡ false) [
    | true ↦ λ q. let mine : owner before t ≡ Some e.who = (retries_held birth before e.who e.call t legal.1 q).holder in
        let both : Some e.who ≡ Some who = sym mine ∙ held.holder in
        let same : e.who ≡ who = cc in absurd (differ e.who who other same)
    | false ↦ λ q. held.unspent
  ] refl;
}

-- the ticket under which an actor waits is one that it holds
pub waits_holds : (birth : Birth) (h : List Entry) → Legal birth h → (who t : ℕ) → waits_under h who ≡ Some t → HoldsTicket h who t
waits_holds birth [] legal who t is = absurd cc
waits_holds birth (e ∷ before) legal who t is =
    elim (e.who == who) as (λ b. (e.who == who) ≡ b → cond b (waits_after e.reply e.call) (waits_under before who) ≡ Some t → HoldsTicket (e ∷ before) who t) [
      | true ↦ λ q here. subst (λ (n : ℕ). HoldsTicket (e ∷ before) n t) (nat_eq_true e.who who q) (own_holds birth e before legal e.reply refl t here)
      | false ↦ λ q there. other_holds birth e before legal who t q (waits_holds birth before legal.0 who t there)
    ] refl is

-- so it may retry it
pub waits_may_retry : (birth : Birth) (h : List Entry) → Legal birth h → (who t : ℕ) → waits_under h who ≡ Some t → proper birth h who (Retry t Nothing) ≡ true
waits_may_retry birth h legal who t is =
    let held = waits_holds birth h legal who t is in rw (held.holder, held.unspent, nat_eq-same who) refl
