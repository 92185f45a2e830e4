-- The entry that detaches an object is the first after which it is detached.
use Rattle.std.proofs.Common.{◌≡◌, ℕ, ◌-◌, ◌<◌, ◌==◌, ◌&&◌, ◌||◌, ◌↔◌, not, Bool, true, false, cond, List, [], ◌∷◌, length, suc, refl, ap, sym, ◌∙◌, subst, ⊎_elim, arith}
use Rattle.std.proofs.lemmas.Bool.{cases_lt}
use Rattle.std.proofs.lemmas.Bool.Decides.{nat_tests}
use Rattle.up_num.specs.declared.answers.Refusal.TheVariants.{Detached}
use Rattle.up_model.specs.Attempts.{accepts}
use Rattle.up_model.specs.Roles.{users, pagers, was_detached, detached, detaches, is_detach, is_left, leaves_user, leaves_pager}
use Rattle.up_model.specs.Reply.{reply}
use Rattle.up_model.specs.Legal.{Legal}
use Rattle.up_model.specs.Positions.{first_of, passes_at, detaching, DetachedAt}
use Rattle.up_model.proofs.Bools.{or_left, or_right, and_left, and_right, not_true, false_by}
use Rattle.up_model.proofs.Placing.{first_all, first_before, passes_own, passes_before, passes_kept, passes_below}
use Rattle.up_model.specs.declared.entry.Birth.{Birth}
use Rattle.up_model.specs.declared.entry.Entry.{Entry}
use Rattle.up_model.specs.declared.entry.Role.TheVariants.{User, Pager}
use Rattle.up_model.specs.declared.entry.Call.{Call}
use Rattle.up_model.specs.declared.entry.Call.TheVariants.{Detach, Leave}
use Rattle.up_model.specs.declared.entry.Reply.{Reply}
use Rattle.up_model.specs.declared.entry.Reply.TheVariants.{Left, Refused}

-- an object that is detached stays so
fewer : (c : Bool) (n : ℕ) → (n == 0) ≡ true → (cond c (n - 1) n == 0) ≡ true
fewer true n none = grind (arith, nat_tests)
fewer false n none = none

still_one : (x w a b c d : Bool) → (a ≡ true → c ≡ true) → (b ≡ true → d ≡ true) → (w || (a || b)) ≡ true → ((x || w) || (c || d)) ≡ true
still_one true w a b c d f g is = refl
still_one false true a b c d f g is = refl
still_one false false true b c d f g is = or_left c d (f refl)
still_one false false false true c d f g is = or_right c d (g refl)
still_one false false false false c d f g is = absurd cc

detached_more : (birth : Birth) (e : Entry) (before : List Entry) → detached birth before ≡ true → detached birth (e ∷ before) ≡ true
detached_more birth e before is =
    still_one (is_detach e.call && accepts e.reply) (was_detached before) (users birth before == 0) (pagers birth before == 0) _ _
    (fewer (leaves_user e.call && is_left e.reply) (users birth before)) (fewer (leaves_pager e.call && is_left e.reply) (pagers birth before)) is

detached_from : (birth : Birth) (h : List Entry) (k : ℕ) → detached birth (first_of h k) ≡ true → detached birth h ≡ true
detached_from birth [] k is = is
detached_from birth (e ∷ before) k is = ⊎_elim
    (λ beyond. subst (λ (l : List Entry). detached birth l ≡ true) (first_all (e ∷ before) k beyond) is)
    (λ within. detached_more birth e before (detached_from birth before k
    (subst (λ (l : List Entry). detached birth l ≡ true) (first_before e before k within) is)))
    (cases_lt (length before) k)

-- an entry detaches exactly where its call does, and is accepted
by_call : (a w g : Bool) → (((a || w) || g) && not (w || g)) ≡ (not (w || g) && a)
by_call true true g = refl
by_call true false true = refl
by_call true false false = refl
by_call false true g = refl
by_call false false true = refl
by_call false false false = refl

last_user : (w one none : Bool) → ((w || (one || none)) && not (w || (false || none))) ≡ ((not (w || (false || none)) && one) && true)
last_user true one none = refl
last_user false true true = refl
last_user false true false = refl
last_user false false true = refl
last_user false false false = refl

last_pager : (w one none : Bool) → ((w || (none || one)) && not (w || (none || false))) ≡ ((not (w || (none || false)) && one) && true)
last_pager true one none = refl
last_pager false true true = refl
last_pager false true false = refl
last_pager false false true = refl
last_pager false false false = refl

same_both : (b : Bool) → (b && not b) ≡ false
same_both true = refl
same_both false = refl

one_less : (n : ℕ) → (n == 0) ≡ false → (n - 1 == 0) ≡ (n == 1)
one_less n some = grind (arith, nat_tests)

no_user : (w one none : Bool) → ((w || (true || none)) && not (w || (true || none))) ≡ ((not (w || (true || none)) && one) && false)
no_user true one none = refl
no_user false one none = refl

no_pager : (w one none : Bool) → ((w || (none || true)) && not (w || (none || true))) ≡ ((not (w || (none || true)) && one) && false)
no_pager true one none = refl
no_pager false one true = refl
no_pager false one false = refl

step_user : (w none : Bool) (n left : ℕ) (r : Reply) → r ≡ cond (n == 0) (Refused Detached) (Left left) →
    ((w || ((cond (is_left r) (n - 1) n == 0) || none)) && not (w || ((n == 0) || none)))
    ≡ ((not (w || ((n == 0) || none)) && (n == 1)) && accepts r)
step_user w none n left r is =
    elim (n == 0) as (λ b. (n == 0) ≡ b → r ≡ cond b (Refused Detached) (Left left) →
    ((w || ((cond (is_left r) (n - 1) n == 0) || none)) && not (w || (b || none)))
    ≡ ((not (w || (b || none)) && (n == 1)) && accepts r)) [
      | true ↦ λ q answers. rw (answers, q) (no_user w (n == 1) none)
      | false ↦ λ q answers. rw (answers, one_less n q) (last_user w (n == 1) none)
    ] refl is

step_pager : (w none : Bool) (n left : ℕ) (r : Reply) → r ≡ cond (n == 0) (Refused Detached) (Left left) →
    ((w || (none || (cond (is_left r) (n - 1) n == 0))) && not (w || (none || (n == 0))))
    ≡ ((not (w || (none || (n == 0))) && (n == 1)) && accepts r)
step_pager w none n left r is =
    elim (n == 0) as (λ b. (n == 0) ≡ b → r ≡ cond b (Refused Detached) (Left left) →
    ((w || (none || (cond (is_left r) (n - 1) n == 0))) && not (w || (none || b)))
    ≡ ((not (w || (none || b)) && (n == 1)) && accepts r)) [
      | true ↦ λ q answers. rw (answers, q) (no_pager w (n == 1) none)
      | false ↦ λ q answers. rw (answers, one_less n q) (last_pager w (n == 1) none)
    ] refl is

step_call : (birth : Birth) (before : List Entry) (who epoch : ℕ) (call : Call) (r : Reply) → r ≡ reply birth before who epoch call →
    ((((is_detach call && accepts r) || was_detached before)
    || ((cond (leaves_user call && is_left r) (users birth before - 1) (users birth before) == 0)
    || (cond (leaves_pager call && is_left r) (pagers birth before - 1) (pagers birth before) == 0))) && not (detached birth before))
    ≡ (detaches birth before call && accepts r)
step_call birth before who epoch Detach r is = by_call (accepts r) (was_detached before) _
step_call birth before who epoch (Leave User) r is = step_user (was_detached before) (pagers birth before == 0) (users birth before) _ r is
step_call birth before who epoch (Leave Pager) r is = step_pager (was_detached before) (users birth before == 0) (pagers birth before) _ r is
step_call birth before who epoch _ r is = same_both (detached birth before)

pub detaching_is : (birth : Birth) (e : Entry) (before : List Entry) → Legal birth (e ∷ before) →
    (detached birth (e ∷ before) && not (detached birth before)) ≡ (detaches birth before e.call && accepts e.reply)
detaching_is birth e before legal = step_call birth before e.who e.epoch e.call e.reply legal.2

at_own : (birth : Birth) (e : Entry) (before : List Entry) (k : ℕ) → length before ≡ k →
    passes_at (detaching birth) (e ∷ before) k ≡ detaching birth before e
at_own birth e before k same =
    subst (λ (n : ℕ). passes_at (detaching birth) (e ∷ before) n ≡ detaching birth before e) same (passes_own (detaching birth) e before)

-- so it is the first after which the object is detached
own_detached : (birth : Birth) (e : Entry) (before : List Entry) → Legal birth (e ∷ before) → (k : ℕ) → length before ≡ k →
    (detaching birth before e ≡ true) ↔ DetachedAt birth (e ∷ before) k
own_detached birth e before legal k same = (
  (λ is.
      let both : (detached birth (e ∷ before) && not (detached birth before)) ≡ true = detaching_is birth e before legal ∙ is in
      let now : detached birth (e ∷ before) ≡ true = and_left _ _ both in
      let not_yet : detached birth before ≡ false = not_true _ (and_right (detached birth (e ∷ before)) _ both) in record {
        within = omega arith;
        before_it = λ j early. ap (detached birth) (first_before e before j (omega arith))
            ∙ false_by _ (λ too_early. let wrong : false ≡ true = sym not_yet ∙ detached_from birth before j too_early in absurd cc);
        after_it = λ j late. ap (detached birth) (first_all (e ∷ before) j (omega arith)) ∙ now;
      }),
  (λ at.
      let now : detached birth (e ∷ before) ≡ true =
      sym (ap (detached birth) (first_all (e ∷ before) (suc k) (omega arith))) ∙ at.after_it (suc k) (omega arith) in
      let not_yet : detached birth before ≡ false =
      sym (ap (detached birth) (first_before e before k (omega arith) ∙ first_all before k (omega arith))) ∙ at.before_it k (omega arith) in
      sym (detaching_is birth e before legal) ∙ rw (now, not_yet) refl),
)

earlier_detached : (birth : Birth) (e : Entry) (before : List Entry) (k : ℕ) → k < length before → DetachedAt birth before k ↔ DetachedAt birth (e ∷ before) k
earlier_detached birth e before k early = (
  (λ at. record {
    within = omega arith;
    before_it = λ j is. ap (detached birth) (first_before e before j (omega arith)) ∙ at.before_it j is;
    after_it = λ j late. ⊎_elim
        (λ beyond. ap (detached birth) (first_all (e ∷ before) j beyond)
        ∙ detached_more birth e before (detached_from birth before j (at.after_it j late)))
        (λ within. ap (detached birth) (first_before e before j within) ∙ at.after_it j late)
        (cases_lt (length before) j);
  }),
  (λ at. record {
    within = early;
    before_it = λ j is. sym (ap (detached birth) (first_before e before j (omega arith))) ∙ at.before_it j is;
    after_it = λ j late. ⊎_elim
        (λ beyond. ap (detached birth) (first_all before j (omega arith))
        ∙ sym (ap (detached birth) (first_before e before (length before) (omega arith) ∙ first_all before (length before) (omega arith)))
        ∙ at.after_it (length before) early)
        (λ within. sym (ap (detached birth) (first_before e before j within)) ∙ at.after_it j late)
        (cases_lt (length before) j);
  }),
)

pub detaching_placed : (birth : Birth) (h : List Entry) → Legal birth h → (k : ℕ) → (passes_at (detaching birth) h k ≡ true) ↔ DetachedAt birth h k
detaching_placed birth [] legal k = ((λ is. absurd cc), (λ at. let wrong : k < 0 = at.within in absurd (omega arith)))
detaching_placed birth (e ∷ before) legal k = ⊎_elim
    (λ early.
    let rest = detaching_placed birth before legal.0 k in
    let more = earlier_detached birth e before k early in (
      (λ is. more.0 (rest.0 (sym (passes_before (detaching birth) e before k early) ∙ is))),
      (λ at. passes_kept (detaching birth) e before k (rest.1 (more.1 at))),
    ))
    (λ late. (
      (λ is.
          let within : k < suc (length before) = passes_below (detaching birth) (e ∷ before) k is in
          let same : length before ≡ k = omega arith in
          (own_detached birth e before legal k same).0 (sym (at_own birth e before k same) ∙ is)),
      (λ at.
          let within : k < suc (length before) = at.within in
          let same : length before ≡ k = omega arith in
          at_own birth e before k same ∙ (own_detached birth e before legal k same).1 at),
    ))
    (cases_lt k (length before))
