-- Who holds a ticket holds it on, but for a retry of its own that spends it.
use Rattle.std.proofs.Common.{◌≡◌, ℕ, ◌<◌, ◌==◌, ◌&&◌, ◌||◌, ◌++◌, not, Bool, true, false, cond, Option, Some, None, List, [], ◌∷◌, refl, sym, ap, ◌∙◌, subst, slice_get, arith}
use Rattle.up_model.proofs.Bools.{and_left, nat_eq_true, nat_eq-same, differ}
use Rattle.up_model.proofs.NewTickets.{blocked_entry}
use Rattle.up_model.proofs.HeldTickets.{owner_below, waits_holds}
use Rattle.up_model.specs.Attempts.{blocks}
use Rattle.up_model.specs.Legal.{Legal}
use Rattle.up_model.specs.Parked.{waits_under}
use Rattle.up_model.specs.Reply.{proper, is_by}
use Rattle.up_model.specs.Tickets.{next_ticket, owner, spent, retries, keeps_ticket}
use Rattle.up_model.specs.declared.entry.Birth.{Birth}
use Rattle.up_model.specs.declared.entry.Call.{Call}
use Rattle.up_model.specs.declared.entry.Call.TheVariants.{Retry, Evict}
use Rattle.up_model.specs.declared.entry.Entry.{Entry}
use Rattle.up_model.specs.declared.entry.Reply.{Reply}
use Rattle.up_model.specs.declared.entry.Reply.TheVariants.{Blocked}
use Rattle.up_steps.specs.Handed.{lives_of, AllLegal}
use Rattle.up_worker.specs.Courses.{Entered, OwnEvicts, is_evict}
use Rattle.up_worker.specs.Thread.{of_object}
use Rattle.up_stage.specs.Ready.{HoldsOn}
use Rattle.up_stage.proofs.ObjectJournals.{some_same, found, life_at, legal_at, legal_before}

blocks_is : (r : Reply) (t : ℕ) → blocks r t ≡ true → r ≡ Blocked t
blocks_is (Blocked n) t p = ap (λ (k : ℕ). Blocked k) (nat_eq_true n t p)
blocks_is _ t p = absurd cc

by_some : (o : Option ℕ) (who : ℕ) → is_by o who ≡ true → o ≡ Some who
by_some None who p = absurd cc
by_some (Some holder) who p = ap (λ (n : ℕ). Some n) (nat_eq_true holder who p)

-- a proper retry is of a ticket that its actor holds
retry_holder : (birth : Birth) (h : List Entry) (who : ℕ) (call : Call) (t : ℕ) → proper birth h who call ≡ true → retries call t ≡ true → owner h t ≡ Some who
retry_holder birth h who (Retry ticket brought) t p r =
    subst (λ (n : ℕ). owner h n ≡ Some who) (nat_eq_true ticket t r) (by_some (owner h ticket) who (and_left _ _ p))
retry_holder birth h who _ t p r = absurd cc

-- a retry by this actor keeps the ticket
abbrev pub KeepsIt : ℕ → ℕ → Entry → Type 0
KeepsIt who t e = e.who ≡ who → retries e.call t ≡ true → keeps_ticket e.reply ≡ true

abbrev Holds : List Entry → ℕ → ℕ → Type 0
Holds h who t = (owner h t ≡ Some who) × (spent h t ≡ false)

spends_not : (retried keeps before : Bool) → (retried ≡ true → keeps ≡ true) → before ≡ false → ((retried && not keeps) || before) ≡ false
spends_not true true before go is = is
spends_not true false before go is = let k : false ≡ true = go refl in absurd cc
spends_not false keeps before go is = is

holds_entry : (birth : Birth) (e : Entry) (before : List Entry) → Legal birth (e ∷ before) → (who t : ℕ) → KeepsIt who t e → Holds before who t → Holds (e ∷ before) who t
holds_entry birth e before legal who t keeps h = (
  elim (blocks e.reply t) as (λ b. blocks e.reply t ≡ b → cond b (Some e.who) (owner before t) ≡ Some who) [
    | true ↦ λ q. let next : t ≡ next_ticket before = blocked_entry birth e before legal t (blocks_is e.reply t q) in
        let below : t < next_ticket before = owner_below birth before legal.0 t who h.0 in absurd (omega arith)
    | false ↦ λ q. h.0
  ] refl,
  spends_not (retries e.call t) (keeps_ticket e.reply) (spent before t)
      (λ r. let both : Some e.who ≡ Some who = sym (retry_holder birth before e.who e.call t legal.1 r) ∙ h.0 in keeps (some_same e.who who both) r) h.1,
)

-- on an object after one entry more
pub held_one : (births : List Birth) (x : Entered) (g : List Entered) → AllLegal (lives_of births (x ∷ g)) → (who object t : ℕ) → KeepsIt who t x.entry
    → HoldsOn (lives_of births g) who object t → HoldsOn (lives_of births (x ∷ g)) who object t
held_one births x g legal who object t keeps h =
    let one = found births g object h.life h.is in
    let now = life_at births (x ∷ g) object h.life.birth one.0 in
    let lawful = legal_at (lives_of births (x ∷ g)) object (record { birth = h.life.birth; journal = of_object object (x ∷ g) }) legal now in
    let before : Holds (of_object object g) who t = (ap (λ j. owner j t) (sym one.1) ∙ h.holder, ap (λ j. spent j t) (sym one.1) ∙ h.unspent) in
    let after : Holds (of_object object (x ∷ g)) who t =
    elim (x.object == object) as (λ b. Legal h.life.birth (cond b (x.entry ∷ of_object object g) (of_object object g)) → Holds (cond b (x.entry ∷ of_object object g) (of_object object g)) who t) [
      | true ↦ λ lawful_here. holds_entry h.life.birth x.entry (of_object object g) lawful_here who t keeps before
      | false ↦ λ lawful_here. before
    ] lawful in
    record { life = record { birth = h.life.birth; journal = of_object object (x ∷ g) }; is = now; holder = after.0; unspent = after.1 }

abbrev pub AllKeepIt : ℕ → ℕ → List Entered → Type 0
AllKeepIt who t [] = Unit {0}
AllKeepIt who t (x ∷ xs) = KeepsIt who t x.entry × AllKeepIt who t xs

pub legal_behind : (births : List Birth) (made g : List Entered) → AllLegal (lives_of births (made ++ g)) → AllLegal (lives_of births g)
legal_behind births [] g legal = legal
legal_behind births (x ∷ made) g legal = legal_behind births made g (legal_before births x (made ++ g) legal)

pub held_many : (births : List Birth) (made g : List Entered) → AllLegal (lives_of births (made ++ g)) → (who object t : ℕ) → AllKeepIt who t made
    → HoldsOn (lives_of births g) who object t → HoldsOn (lives_of births (made ++ g)) who object t
held_many births [] g legal who object t keep h = h
held_many births (x ∷ made) g legal who object t keep h =
    held_one births x (made ++ g) legal who object t keep.0 (held_many births made g (legal_before births x (made ++ g) legal) who object t keep.1 h)

evict_no_retry : (call : Call) (t : ℕ) → is_evict call ≡ true → retries call t ≡ false
evict_no_retry (Evict limit most) t is = refl
evict_no_retry _ t is = absurd cc

pub evicts_keep : (by who t : ℕ) (made : List Entered) → OwnEvicts by made → AllKeepIt who t made
evicts_keep by who t [] own = tt
evicts_keep by who t (x ∷ xs) own = ((λ is r. let no = evict_no_retry x.entry.call t own.1 in absurd cc), evicts_keep by who t xs own.3)

-- entries of another actor
pub others_keep : (who t : ℕ) (e : Entry) → (e.who == who) ≡ false → KeepsIt who t e
others_keep who t e other is r = absurd (differ e.who who other is)

-- after an own entry that is answered Blocked(t)
pub held_blocked : (births : List Birth) (x : Entered) (g : List Entered) → AllLegal (lives_of births (x ∷ g)) → (birth : Birth) → slice_get births x.object ≡ Some birth → (t : ℕ) → x.entry.reply ≡ Blocked t
    → HoldsOn (lives_of births (x ∷ g)) x.entry.who x.object t
held_blocked births x g legal birth is t blocked =
    let now = life_at births (x ∷ g) x.object birth is in
    let h = of_object x.object (x ∷ g) in
    let lawful : Legal birth h = legal_at (lives_of births (x ∷ g)) x.object (record { birth = birth; journal = h }) legal now in
    let under : waits_under h x.entry.who ≡ Some t = rw (nat_eq-same x.object) (rw (nat_eq-same x.entry.who) (rw blocked refl)) in
    let held = waits_holds birth h lawful x.entry.who t under in
    record { life = record { birth = birth; journal = h }; is = now; holder = held.holder; unspent = held.unspent }
