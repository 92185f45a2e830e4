-- How a pass goes on, object by object, and how the passes of a level join.
use Rattle.std.proofs.Common.{Result, Ok, Err, OnErr, IfOk, ◌≡◌, ℕ, zero, suc, ◌+◌, ◌-◌, ◌<◌, ◌≤◌, ◌==◌, ◌⊎◌, Bool, true, false, cond, Option, Some, List, [], ◌∷◌, ◌++◌, refl, ap, sym, ◌∙◌, subst, arith, inl, inr, append_assoc}
use Rattle.std.proofs.lemmas.Bool.Decides.{nat_tests}
use Rattle.std.proofs.lemmas.List.Sums.{sum_by-append, sum_by-cons}
use Rattle.up_evictor.specs.Levels.{age_limits}
use Rattle.up_evictor.specs.Relief.{Ask, reclaim_of, one_pass, turns, Relieves, given_by, last_reclaim, gave_less, RelievedInPart}
use Rattle.up_evictor.specs.Passes.{Passed, PassedInPart, Turned}
use Rattle.up_evictor.specs.declared.herd.Reclaim.{Reclaim}
use Rattle.up_evictor.specs.declared.levels.Level.{Level}
use Rattle.up_evictor.specs.declared.levels.Level.TheVariants.{Normal, Warning, Critical, Empty}

-- where nothing is wanted, nothing is asked for
none_is_wanted : (asks : List Ask) (before after : List Reclaim) → Relieves 0 asks before after → after ≡ before
none_is_wanted [] before after same = same
none_is_wanted (ask ∷ asks) before after (inl stops) = stops.1
none_is_wanted (ask ∷ asks) before after (inr goes) = absurd (omega (arith, goes.0))

wants_none : (asks : List Ask) (now : List Reclaim) → Relieves 0 asks now now
wants_none [] now = refl
wants_none (ask ∷ asks) now = inl (refl, refl)

-- each ask may give nothing
pub can_go_on : (want : ℕ) (asks : List Ask) (now : List Reclaim) → (more : List Reclaim) × Relieves want asks now (more ++ now)
can_go_on zero asks now = ([], wants_none asks now)
can_go_on (suc want) [] now = ([], refl)
can_go_on (suc want) (ask ∷ asks) now =
    let rest = can_go_on (suc want) asks (reclaim_of ask.object ask.limit (suc want) 0 ∷ now) in
    let same : suc want ≡ suc want - 0 = omega arith in
    let moved = subst (λ to. Relieves (suc want) asks (reclaim_of ask.object ask.limit (suc want) 0 ∷ now) to) (sym (append_assoc rest.0 (reclaim_of ask.object ask.limit (suc want) 0 ∷ []) now)) rest.1 in (
      rest.0 ++ reclaim_of ask.object ask.limit (suc want) 0 ∷ [],
      inr (
        omega arith,
        (
          0,
          omega arith,
          subst (λ left. Relieves left asks (reclaim_of ask.object ask.limit (suc want) 0 ∷ now) ((rest.0 ++ reclaim_of ask.object ask.limit (suc want) 0 ∷ []) ++ now)) same moved,
        ),
      ),
    )

-- How far a pass has come: the objects below `next` were asked.
pub record Asked (want left limit objects next : ℕ) (before now : List Reclaim) : Type 0 where
  pub made : List Reclaim
  pub grown : now ≡ made ++ before
  pub leads : (behind : List Ask) (to : List Reclaim) → Relieves left (one_pass limit next (objects - next) behind) now to → Relieves want (one_pass limit 0 objects behind) before to
  pub whole : left + given_by made ≡ want
  pub less : 0 < left → (object : ℕ) → object < next → gave_less (last_reclaim object made) ≡ true

pub begins : (want limit objects : ℕ) (before : List Reclaim) → Asked want want limit objects 0 before before
begins want limit objects before = record {
  made = [];
  grown = refl;
  leads = λ behind to goes. subst (λ count. Relieves want (one_pass limit 0 count behind) before to) (omega arith) goes;
  whole = omega arith;
  less = λ wanted object below. absurd (omega arith);
}

less_more : (object next limit left given : ℕ) (made : List Reclaim) → given < left
    → object < next + 1
    → (object < next → gave_less (last_reclaim object made) ≡ true)
    → gave_less (last_reclaim object (reclaim_of next limit left given ∷ made)) ≡ true
less_more object next limit left given made fewer below earlier = by_test (next == object) refl
  where
    by_test : (test : Bool) → (next == object) ≡ test → gave_less (cond (next == object) (Some (reclaim_of next limit left given)) (last_reclaim object made)) ≡ true
    by_test true is = rw is (grind (arith, nat_tests))
    by_test false is = rw is (earlier (grind (arith, nat_tests)))

pub asked_one : (want left limit objects next given : ℕ) (before now after : List Reclaim) → next < objects → 0 < left → given ≤ left
    → after ≡ reclaim_of next limit left given ∷ now
    → Asked want left limit objects next before now
    → Asked want (left - given) limit objects (next + 1) before after
asked_one want left limit objects next given before now after below wanted most is done = record {
  made = reclaim_of next limit left given ∷ done.made;
  grown = is ∙ ap (λ reclaims. reclaim_of next limit left given ∷ reclaims) done.grown;
  leads = λ behind to goes. done.leads behind to
      (subst (λ count. Relieves left (one_pass limit next count behind) now to) (let e : suc (objects - (next + 1)) ≡ objects - next = omega arith in e)
      (inr (wanted, (given, most, subst (λ reclaims. Relieves (left - given) (one_pass limit (next + 1) (objects - (next + 1)) behind) reclaims to) is goes))));
  whole = let e = sum_by-cons (λ (reclaim : Reclaim). reclaim.given) (reclaim_of next limit left given) done.made in let w = done.whole in omega arith;
  less = λ still object upto. less_more object next limit left given done.made (omega arith) upto (λ earlier. done.less wanted object earlier);
}

-- nothing is wanted any more
pub stops : (want limit objects next : ℕ) (before now : List Reclaim) → Asked want 0 limit objects next before now → Passed want 0 limit objects before now
stops want limit objects next before now done = record {
  made = done.made;
  grown = done.grown;
  leads = λ behind to goes. done.leads behind to
      (subst (λ reclaims. Relieves 0 (one_pass limit next (objects - next) behind) now reclaims) (sym (none_is_wanted behind now to goes)) (wants_none (one_pass limit next (objects - next) behind) now));
  whole = done.whole;
  less = λ wanted. absurd (omega arith);
}

-- all objects were asked
pub ends : (want left limit objects : ℕ) (before now : List Reclaim) → Asked want left limit objects objects before now → Passed want left limit objects before now
ends want left limit objects before now done = record {
  made = done.made;
  grown = done.grown;
  leads = λ behind to goes. done.leads behind to
      (subst (λ count. Relieves left (one_pass limit objects count behind) now to) (let e : 0 ≡ objects - objects = omega arith in e) goes);
  whole = done.whole;
  less = done.less;
}

-- no memory for the next
pub breaks : (want left limit objects next : ℕ) (before now : List Reclaim) → Asked want left limit objects next before now → PassedInPart want limit objects before now
breaks want left limit objects next before now done = record {
  made = done.made;
  grown = done.grown;
  goes_on = λ behind. let rest = can_go_on left (one_pass limit next (objects - next) behind) now in (rest.0, done.leads behind (rest.0 ++ now) rest.1);
}

-- the passes of a level
pub no_pass : (want objects : ℕ) (now : List Reclaim) → Turned want want Normal objects now now
no_pass want objects now = record { made = []; grown = refl; asked = refl; whole = omega arith; less = λ wanted. inl refl }

pub one_turn : (want left objects : ℕ) (before after : List Reclaim) → Passed want left 4 objects before after → Turned want left Warning objects before after
one_turn want left objects before after done = record {
  made = done.made;
  grown = done.grown;
  asked = done.leads [] after refl;
  whole = done.whole;
  less = λ wanted. inr (done.less wanted);
}

of_one : (test : Bool) (reclaim : Reclaim) (one other : Option Reclaim) → (gave_less one ≡ true → gave_less other ≡ true)
    → gave_less (cond test (Some reclaim) one) ≡ true → gave_less (cond test (Some reclaim) other) ≡ true
of_one true reclaim one other goes less = less
of_one false reclaim one other goes less = goes less

later_less : (object : ℕ) (later earlier : List Reclaim) → gave_less (last_reclaim object later) ≡ true → gave_less (last_reclaim object (later ++ earlier)) ≡ true
later_less object [] earlier less = absurd cc
later_less object (reclaim ∷ later) earlier less = of_one (reclaim.object == object) reclaim (last_reclaim object later) (last_reclaim object (later ++ earlier)) (later_less object later earlier) less

pub two_turns : (want left least objects : ℕ) (level : Level) (before between after : List Reclaim) → age_limits level ≡ 4 ∷ 0 ∷ []
    → Passed want left 4 objects before between → Passed left least 0 objects between after → Turned want least level objects before after
two_turns want left least objects level before between after limits one other = record {
  made = other.made ++ one.made;
  grown = other.grown ∙ (ap (λ reclaims. other.made ++ reclaims) one.grown ∙ sym (append_assoc other.made one.made before));
  asked = subst (λ classes. Relieves want (turns classes objects) before after) (sym limits)
      (one.leads (one_pass 0 0 objects []) after (other.leads [] after refl));
  whole = let e = sum_by-append (λ (reclaim : Reclaim). reclaim.given) other.made one.made in let w = one.whole in let v = other.whole in omega arith;
  less = λ wanted. inr (λ object below. later_less object other.made one.made (other.less wanted object below));
}

-- in part
pub first_breaks : (want objects : ℕ) (limits : List ℕ) (level : Level) (before after : List Reclaim) → age_limits level ≡ 4 ∷ limits
    → PassedInPart want 4 objects before after → RelievedInPart want level objects before after
first_breaks want objects limits level before after is done =
    let rest = done.goes_on (turns limits objects) in
    record {
      made = done.made;
      grown = done.grown;
      more = rest.0;
      goes_on = subst (λ classes. Relieves want (turns classes objects) before (rest.0 ++ after)) (sym is) rest.1;
    }

pub second_breaks : (want left objects : ℕ) (level : Level) (before between after : List Reclaim) → age_limits level ≡ 4 ∷ 0 ∷ []
    → Passed want left 4 objects before between → PassedInPart left 0 objects between after → RelievedInPart want level objects before after
second_breaks want left objects level before between after is one other =
    let rest = other.goes_on [] in
    record {
      made = other.made ++ one.made;
      grown = other.grown ∙ (ap (λ reclaims. other.made ++ reclaims) one.grown ∙ sym (append_assoc other.made one.made before));
      more = rest.0;
      goes_on = subst (λ classes. Relieves want (turns classes objects) before (rest.0 ++ after)) (sym is)
          (one.leads (one_pass 0 0 objects []) (rest.0 ++ after) rest.1);
    }

pub at_error : {V E : Type 0} {P : Type 0} (r : Result V E) → P → OnErr r P
at_error (Ok v) p = tt
at_error (Err e) p = p

pub then_ok : {V E : Type 0} {P Q : V → Type 0} (r : Result V E) → IfOk r P → ((v : V) → P v → Q v) → IfOk r Q
then_ok (Ok v) holds goes = goes v holds
then_ok (Err e) holds goes = tt

pub then_err : {V E : Type 0} {P Q : Type 0} (r : Result V E) → OnErr r P → (P → Q) → OnErr r Q
then_err (Ok v) holds goes = tt
then_err (Err e) holds goes = goes holds

pub both_classes : (level : Level) → (level ≡ Critical) ⊎ (level ≡ Empty) → age_limits level ≡ 4 ∷ 0 ∷ []
both_classes level (inl is) = ap age_limits is
both_classes level (inr is) = ap age_limits is
