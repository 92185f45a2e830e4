-- A leave: of the last of a role, or of another.
use Rattle.std.proofs.Common.{◌≡◌, ℕ, ◌+◌, ◌-◌, ◌==◌, ◌&&◌, ◌||◌, not, Bool, true, false, Option, Some, None, List, [], ◌∷◌, length, zero, suc, refl, ap, sym, ◌∙◌, arith}
use Rattle.std.proofs.lemmas.Bool.Decides.{nat_tests}
use Rattle.up_num.specs.declared.answers.AskKind.{AskKind}
use Rattle.up_num.specs.declared.answers.Outcome.{Outcome}
use Rattle.up_num.specs.declared.answers.Outcome.TheVariants.{Waiting, Detached as DetachedOutcome}
use Rattle.up_num.specs.declared.answers.Refusal.TheVariants as refusal
use Rattle.up_num.specs.Asks.{Ask}
use Rattle.up_asks.specs.Asking.{events_of}
use Rattle.up_model.specs.Asks.{resolves, is_waiting}
use Rattle.up_model.specs.Roles.{users, pagers, was_detached, detached, detaches, in_role}
use Rattle.up_model.specs.Tickets.{next_ticket, outcome, waits, wakes, woken_from, woken, resolved_for}
use Rattle.up_model.specs.Reply.{refuse_where, reply}
use Rattle.up_model.specs.Changes.{Detaches, Happens, Departs}
use Rattle.up_model.specs.declared.entry.Birth.{Birth}
use Rattle.up_model.specs.declared.entry.Call.{Call}
use Rattle.up_model.specs.declared.entry.Call.TheVariants.{Leave}
use Rattle.up_model.specs.declared.entry.Entry.{Entry}
use Rattle.up_model.specs.declared.entry.Role.{Role}
use Rattle.up_model.specs.declared.entry.Role.TheVariants.{User, Pager}
use Rattle.up_model.specs.declared.entry.Reply.TheVariants.{Left}
use Rattle.up_model.proofs.Bools.{and_false}
use Rattle.up_model.proofs.Fates.{detached_stays}
use Rattle.up_model.proofs.Resolved.{user_departs, pager_departs}
use Rattle.up_supply.specs.Calls.{is_user}

-- one of a role less
pub role_departs : (birth : Birth) (e : Entry) (h : List Entry) (role : Role) (woken : ℕ) → e.call ≡ Leave role → e.reply ≡ Left woken → Departs birth e h (is_user role)
role_departs birth e h User woken c r = user_departs birth e h woken c r
role_departs birth e h Pager woken c r = pager_departs birth e h woken c r

-- A call that resolves nothing wakes nobody.

no_outcome : (f : AskKind → ℕ → Outcome) (m : Option Ask) → ((k : AskKind) (p : ℕ) → f k p ≡ Waiting) → resolved_for f m ≡ Waiting
no_outcome f None none = refl
no_outcome f (Some ask) none = none ask.kind ask.first

unwoken : (birth : Birth) (h : List Entry) (call : Call) (t : ℕ) → ((k : AskKind) (p : ℕ) → resolves birth h call k p ≡ Waiting) → wakes birth h call t ≡ false
unwoken birth h call t none = rw (no_outcome (resolves birth h call) (waits birth h t) none) (and_false (is_waiting (outcome birth h t)))

none_woken : (birth : Birth) (h : List Entry) (call : Call) → ((k : AskKind) (p : ℕ) → resolves birth h call k p ≡ Waiting) → (t n : ℕ) → woken_from birth h call t n ≡ []
none_woken birth h call none t zero = refl
none_woken birth h call none t (suc n) = rw (unwoken birth h call t none) (none_woken birth h call none (t + 1) n)

pub unleft_resolves : (birth : Birth) (h : List Entry) (role : Role) (k : AskKind) (p : ℕ) → detaches birth h (Leave role) ≡ false → resolves birth h (Leave role) k p ≡ Waiting
unleft_resolves birth h role k p stays = rw stays refl

left_step : (b : Bool) (n : ℕ) → b ≡ false → n ≡ 0 → refuse_where b refusal.Detached (Left n) ≡ Left 0
left_step b n some none = rw (some, none) refl

pub others_left : (birth : Birth) (h : List Entry) (who epoch : ℕ) (role : Role) → (in_role birth h role == 0) ≡ false → detaches birth h (Leave role) ≡ false →
    reply birth h who epoch (Leave role) ≡ Left 0
others_left birth h who epoch role some stays = left_step (in_role birth h role == 0) (length (woken birth h (Leave role))) some
    (ap length (none_woken birth h (Leave role) (λ k p. unleft_resolves birth h role k p stays) 0 (next_ticket h)))

-- who is left of a role of which one leaves
still_some : (n : ℕ) → (n == 0) ≡ false → (n == 1) ≡ false → (n - 1 == 0) ≡ (n == 0)
still_some n some more = grind (arith, nat_tests)

-- the object isn't detached by the leave of one of several
same_roles : (cut cut' : Bool) (u u' p p' : ℕ) → cut' ≡ cut → (u' == 0) ≡ (u == 0) → (p' == 0) ≡ (p == 0) → (cut' || (u' == 0 || p' == 0)) ≡ (cut || (u == 0 || p == 0))
same_roles cut cut' u u' p p' same1 same2 same3 = rw (same1, same2, same3) refl

departed_stays : (birth : Birth) (e : Entry) (h : List Entry) (role : Role) → Departs birth e h (is_user role) → (in_role birth h role == 0) ≡ false → (in_role birth h role == 1) ≡ false →
    detached birth (e ∷ h) ≡ detached birth h
departed_stays birth e h User d some more =
    same_roles (was_detached h) (was_detached (e ∷ h)) (users birth h) (users birth (e ∷ h)) (pagers birth h) (pagers birth (e ∷ h)) d.cut_off (ap (λ (n : ℕ). n == 0) d.acting ∙ still_some (users birth h) some more) (ap (λ (n : ℕ). n == 0) d.paging)
departed_stays birth e h Pager d some more =
    same_roles (was_detached h) (was_detached (e ∷ h)) (users birth h) (users birth (e ∷ h)) (pagers birth h) (pagers birth (e ∷ h)) d.cut_off (ap (λ (n : ℕ). n == 0) d.acting) (ap (λ (n : ℕ). n == 0) d.paging ∙ still_some (pagers birth h) some more)

stays_by : (gone one : Bool) → (not gone && one) ≡ false → gone ≡ false → one ≡ false
stays_by false one stays attached = stays
stays_by true one stays attached = absurd cc

leave_stays : (birth : Birth) (e : Entry) (h : List Entry) (role : Role) (woken : ℕ) → e.call ≡ Leave role → e.reply ≡ Left woken → (in_role birth h role == 0) ≡ false → detaches birth h (Leave role) ≡ false →
    detached birth (e ∷ h) ≡ detached birth h
leave_stays birth e h role woken c r some stays = elim (detached birth h) as (λ b. detached birth h ≡ b → detached birth (e ∷ h) ≡ detached birth h) [
  | true ↦ λ gone. detached_stays birth e h gone ∙ sym gone
  | false ↦ λ attached. departed_stays birth e h role (role_departs birth e h role woken c r) some (stays_by (detached birth h) (in_role birth h role == 1) stays attached)
] refl

pub leave_happens : (birth : Birth) (e : Entry) (h : List Entry) (role : Role) (woken : ℕ) → e.call ≡ Leave role → e.reply ≡ Left woken → (in_role birth h role == 0) ≡ false → detaches birth h (Leave role) ≡ false →
    Happens birth e h (events_of [])
leave_happens birth e h role woken c r some stays = record {
  accepted = rw r refl;
  no_packet = rw r refl;
  attached = leave_stays birth e h role woken c r some stays;
  each = λ k p. ap (λ x. resolves birth h x k p) c ∙ unleft_resolves birth h role k p stays;
}

-- The last of a role.

pub last_detaches : (birth : Birth) (h : List Entry) (role : Role) → in_role birth h role ≡ 1 → detached birth h ≡ false → detaches birth h (Leave role) ≡ true
last_detaches birth h role last attached = rw (attached, last) refl

pub last_resolves : (birth : Birth) (h : List Entry) (role : Role) (k : AskKind) (p : ℕ) → in_role birth h role ≡ 1 → detached birth h ≡ false → resolves birth h (Leave role) k p ≡ DetachedOutcome
last_resolves birth h role k p last attached = rw (last_detaches birth h role last attached) refl

gone_user : (cut : Bool) (u p : ℕ) → u ≡ 0 → (cut || (u == 0 || p == 0)) ≡ true
gone_user true u p none = refl
gone_user false u p none = rw none refl

gone_pager : (cut : Bool) (u p : ℕ) → p ≡ 0 → (cut || (u == 0 || p == 0)) ≡ true
gone_pager true u p none = refl
gone_pager false u p none = rw none (last_true (u == 0))
  where
    last_true : (b : Bool) → (b || true) ≡ true
    last_true true = refl
    last_true false = refl

one_less : (n : ℕ) → n ≡ 1 → n - 1 ≡ 0
one_less n one = omega arith

last_gone : (birth : Birth) (e : Entry) (h : List Entry) (role : Role) → Departs birth e h (is_user role) → in_role birth h role ≡ 1 → detached birth (e ∷ h) ≡ true
last_gone birth e h User d last = gone_user (was_detached (e ∷ h)) (users birth (e ∷ h)) (pagers birth (e ∷ h)) (d.acting ∙ one_less (users birth h) last)
last_gone birth e h Pager d last = gone_pager (was_detached (e ∷ h)) (users birth (e ∷ h)) (pagers birth (e ∷ h)) (d.paging ∙ one_less (pagers birth h) last)

pub leave_detaches : (birth : Birth) (e : Entry) (h : List Entry) (role : Role) (woken : ℕ) → e.call ≡ Leave role → e.reply ≡ Left woken → in_role birth h role ≡ 1 → detached birth h ≡ false → Detaches birth e h
leave_detaches birth e h role woken c r last attached = record {
  accepted = rw r refl;
  no_packet = rw r refl;
  attached = attached;
  gone = last_gone birth e h role (role_departs birth e h role woken c r) last;
  each = λ k p. ap (λ x. resolves birth h x k p) c ∙ last_resolves birth h role k p last attached;
}
