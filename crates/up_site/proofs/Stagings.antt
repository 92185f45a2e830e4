-- The stages of actors and their claims.
use Rattle.std.proofs.Common.{◌≡◌, ℕ, ◌==◌, true, false, cond, Option, Some, None, List, [], ◌∷◌, refl, sym}
use Rattle.std.proofs.Common.{ap, ◌∙◌, subst}
use Rattle.up_model.specs.declared.entry.Birth.{Birth}
use Rattle.up_model.specs.declared.entry.Entry.{Entry}
use Rattle.up_model.proofs.Bools.{nat_eq_true, nat_eq-same}
use Rattle.up_claims.specs.Claimed.{next_claim, claim_of}
use Rattle.up_claims.specs.Listed.{ActorClaim, claim_at, without_claim, with_claim, put_claim, claims_of}
use Rattle.up_claims.specs.declared.claim.Claim.{Claim}
use Rattle.up_claims.proofs.ClaimLists.{claims_are}
use Rattle.up_site.specs.Stages.{claim_in, claim_in_some, held_in, stage_at, tours_with, tours_without}
use Rattle.up_site.specs.Stages.{Shaped, AllShaped}
use Rattle.up_site.specs.declared.stage.Stage.{Stage}
use Rattle.up_site.specs.declared.stage.Tour.{Tour}

pub claim_at_stage : (tours : List Tour) (who : ℕ) → claim_at (held_in tours) who ≡ claim_in_some (stage_at
    tours who)
claim_at_stage [] who = refl
claim_at_stage (tour ∷ rest) who =
    elim (tour.who == who) as (λ b. cond b (Some (claim_in tour.stage)) (claim_at (held_in rest) who) ≡
    claim_in_some (cond b (Some tour.stage) (stage_at rest who))) [
      | true ↦ refl
      | false ↦ claim_at_stage rest who
    ]

-- the claim of an actor by its stage
pub claim_by_stage : (h : List Entry) (tours : List Tour) → held_in tours ≡ claims_of h → (who : ℕ) →
    claim_of h who ≡ claim_in_some (stage_at tours who)
claim_by_stage h tours are who = sym (claims_are h who) ∙ (ap (λ (list : List ActorClaim). claim_at list who)
    (sym are) ∙ claim_at_stage tours who)

pub held_with : (who : ℕ) (stage : Stage) (tours : List Tour) → held_in (tours_with who stage tours) ≡
    with_claim who (claim_in stage) (held_in tours)
held_with who stage [] = refl
held_with who stage (tour ∷ rest) =
    elim (tour.who == who) as (λ b. held_in (cond b (record { who = who; stage = stage } ∷ rest) (tour ∷
    tours_with who stage rest))
    ≡ cond b (record { who = who; claim = claim_in stage } ∷ held_in rest) (record {
      who = tour.who;
      claim
          = claim_in tour.stage;
    } ∷ with_claim who (claim_in stage) (held_in rest))) [
      | true ↦ refl
      | false ↦ ap (λ (list : List ActorClaim). record { who = tour.who; claim = claim_in tour.stage } ∷ list)
          (held_with who stage rest)
    ]

pub held_without : (who : ℕ) (tours : List Tour) → held_in (tours_without who tours) ≡ without_claim who
    (held_in tours)
held_without who [] = refl
held_without who (tour ∷ rest) =
    elim (tour.who == who) as (λ b. held_in (cond b (tours_without who rest) (tour ∷ tours_without who rest))
    ≡ cond b (without_claim who (held_in rest)) (record { who = tour.who; claim = claim_in tour.stage } ∷
    without_claim who (held_in rest))) [
      | true ↦ held_without who rest
      | false ↦ ap (λ (list : List ActorClaim). record { who = tour.who; claim = claim_in tour.stage } ∷ list)
          (held_without who rest)
    ]

pub stage_with_same : (who : ℕ) (stage : Stage) (tours : List Tour) → stage_at (tours_with who stage tours)
    who ≡ Some stage
stage_with_same who stage [] = let is : (who == who) ≡ true = nat_eq-same who in rw is refl
stage_with_same who stage (tour ∷ rest) =
    elim (tour.who == who) as (λ b. (tour.who == who) ≡ b → stage_at (cond b (record {
      who = who;
      stage =
          stage;
    } ∷ rest) (tour ∷ tours_with who stage rest)) who ≡ Some stage) [
      | true ↦ λ is. let same : (who == who) ≡ true = nat_eq-same who in rw same refl
      | false ↦ λ is. rw is (stage_with_same who stage rest)
    ] refl

pub stage_with_other : (who other : ℕ) (stage : Stage) (tours : List Tour) → (who == other) ≡ false →
    stage_at (tours_with who stage tours) other ≡ stage_at tours other
stage_with_other who other stage [] differs = rw differs refl
stage_with_other who other stage (tour ∷ rest) differs =
    elim (tour.who == who) as (λ b. (tour.who == who) ≡ b →
    stage_at (cond b (record { who = who; stage = stage } ∷ rest) (tour ∷ tours_with who stage rest)) other
    ≡ cond (tour.who == other) (Some tour.stage) (stage_at rest other)) [
      | true ↦ λ is. let past : (tour.who == other) ≡ false = subst (λ (n : ℕ). (n == other) ≡ false) (sym
          (nat_eq_true tour.who who is)) differs in
          rw (past, differs) refl
      | false ↦ λ is. ap (λ c. cond (tour.who == other) (Some tour.stage) c) (stage_with_other who other
          stage rest differs)
    ] refl

pub stage_without_same : (who : ℕ) (tours : List Tour) → stage_at (tours_without who tours) who ≡ None
stage_without_same who [] = refl
stage_without_same who (tour ∷ rest) =
    elim (tour.who == who) as (λ b. (tour.who == who) ≡ b → stage_at (cond b (tours_without who rest) (tour
    ∷ tours_without who rest)) who ≡ None) [
      | true ↦ λ is. stage_without_same who rest
      | false ↦ λ is. rw is (stage_without_same who rest)
    ] refl

pub stage_without_other : (who other : ℕ) (tours : List Tour) → (who == other) ≡ false → stage_at
    (tours_without who tours) other ≡ stage_at tours other
stage_without_other who other [] differs = refl
stage_without_other who other (tour ∷ rest) differs =
    elim (tour.who == who) as (λ b. (tour.who == who) ≡ b →
    stage_at (cond b (tours_without who rest) (tour ∷ tours_without who rest)) other ≡ cond (tour.who ==
    other) (Some tour.stage) (stage_at rest other)) [
      | true ↦ λ is. let past : (tour.who == other) ≡ false = subst (λ (n : ℕ). (n == other) ≡ false) (sym
          (nat_eq_true tour.who who is)) differs in
          rw past (stage_without_other who other rest differs)
      | false ↦ λ is. ap (λ c. cond (tour.who == other) (Some tour.stage) c) (stage_without_other who other
          rest differs)
    ] refl

pub shaped_with : (birth : Birth) (who : ℕ) (stage : Stage) (tours : List Tour) → Shaped birth stage →
    AllShaped birth tours → AllShaped birth (tours_with who stage tours)
shaped_with birth who stage [] shape all = (shape, tt)
shaped_with birth who stage (tour ∷ rest) shape all =
    elim (tour.who == who) as (λ b. AllShaped birth (cond b (record { who = who; stage = stage } ∷ rest)
    (tour ∷ tours_with who stage rest))) [
      | true ↦ (shape, all.1)
      | false ↦ (all.0, shaped_with birth who stage rest shape all.1)
    ]

pub shaped_without : (birth : Birth) (who : ℕ) (tours : List Tour) → AllShaped birth tours → AllShaped
    birth (tours_without who tours)
shaped_without birth who [] all = all
shaped_without birth who (tour ∷ rest) all =
    elim (tour.who == who) as (λ b. AllShaped birth (cond b (tours_without who rest) (tour ∷ tours_without
    who rest))) [
      | true ↦ shaped_without birth who rest all.1
      | false ↦ (all.0, shaped_without birth who rest all.1)
    ]

abbrev pub ShapedAt : Birth → Option Stage → Type 0
ShapedAt birth None = Unit {0}
ShapedAt birth (Some stage) = Shaped birth stage

pub shaped_at : (birth : Birth) (who : ℕ) (tours : List Tour) → AllShaped birth tours → ShapedAt birth
    (stage_at tours who)
shaped_at birth who [] all = tt
shaped_at birth who (tour ∷ rest) all =
    elim (tour.who == who) as (λ b. ShapedAt birth (cond b (Some tour.stage) (stage_at rest who))) [
      | true ↦ all.0
      | false ↦ shaped_at birth who rest all.1
    ]

-- a list in which the actor has this claim is the list with it
with_again : (who : ℕ) (claim : Claim) (list : List ActorClaim) → claim_at list who ≡ Some claim → with_claim who
    claim list ≡ list
with_again who claim [] is = absurd cc
with_again who claim (held ∷ rest) is =
    elim (held.who == who) as (λ b. (held.who == who) ≡ b → cond b (Some held.claim) (claim_at rest who) ≡
    Some claim →
    cond b (record { who = who; claim = claim } ∷ rest) (held ∷ with_claim who claim rest) ≡ held ∷ rest) [
      | true ↦ λ same here. let w : held.who ≡ who = nat_eq_true held.who who same in let c : held.claim ≡
          claim = some_is held.claim claim here in rw (sym w, sym c) refl
      | false ↦ λ other later. ap (λ (l : List ActorClaim). held ∷ l) (with_again who claim rest later)
    ] refl is
  where
    some_is : (a b : Claim) → Some a ≡ Some b → a ≡ b
    some_is a b same = cc

without_again : (who : ℕ) (list : List ActorClaim) → claim_at list who ≡ None → without_claim who list ≡ list
without_again who [] is = refl
without_again who (held ∷ rest) is =
    elim (held.who == who) as (λ b. cond b (Some held.claim) (claim_at rest who) ≡ None →
    cond b (without_claim who rest) (held ∷ without_claim who rest) ≡ held ∷ rest) [
      | true ↦ λ here. absurd cc
      | false ↦ λ later. ap (λ (l : List ActorClaim). held ∷ l) (without_again who rest later)
    ] is

put_again : (who : ℕ) (claim : Option Claim) (list : List ActorClaim) → claim_at list who ≡ claim → put_claim who
    claim list ≡ list
put_again who None list is = without_again who list is
put_again who (Some claim) list is = with_again who claim list is

-- the list of claims after one more entry: its actor's claim stays, is another one, or goes
pub claims_stay : (e : Entry) (h : List Entry) → next_claim e.call e.reply (claim_of h e.who) ≡ claim_of h
    e.who → claims_of (e ∷ h) ≡ claims_of h
claims_stay e h stays =
    put_again e.who (next_claim e.call e.reply (claim_at (claims_of h) e.who)) (claims_of h)
    (claims_are h e.who ∙ (sym stays ∙ ap (next_claim e.call e.reply) (sym (claims_are h e.who))))

pub claims_with : (e : Entry) (h : List Entry) (tours : List Tour) (stage : Stage) → held_in tours ≡
    claims_of h →
    next_claim e.call e.reply (claim_of h e.who) ≡ Some (claim_in stage) → held_in (tours_with e.who stage
    tours) ≡ claims_of (e ∷ h)
claims_with e h tours stage are is =
    held_with e.who stage tours ∙ (ap (with_claim e.who (claim_in stage)) are
    ∙ ap (λ (c : Option Claim). put_claim e.who c (claims_of h)) (sym is ∙ ap (next_claim e.call e.reply)
    (sym (claims_are h e.who))))

pub claims_without : (e : Entry) (h : List Entry) (tours : List Tour) → held_in tours ≡ claims_of h →
    next_claim e.call e.reply (claim_of h e.who) ≡ None → held_in (tours_without e.who tours) ≡ claims_of
    (e ∷ h)
claims_without e h tours are is =
    held_without e.who tours ∙ (ap (without_claim e.who) are
    ∙ ap (λ (c : Option Claim). put_claim e.who c (claims_of h)) (sym is ∙ ap (next_claim e.call e.reply)
    (sym (claims_are h e.who))))
