-- The place of an actor's stage.
use Rattle.std.proofs.Common.{◌≡◌, ℕ, ◌<◌, ◌≤◌, ◌==◌, ◌++◌, not, true, false, cond, Option, Some, None}
use Rattle.std.proofs.Common.{List, [], ◌∷◌, length, slice_get, slice_set, slice_index_or, remove, suc}
use Rattle.std.proofs.Common.{refl, sym, ap, ◌∙◌, subst, arith}
use Rattle.std.specs.List.{filter}
use Rattle.std.proofs.lemmas.Option.{slice_get_read}
use Rattle.up_num.specs.Span.{Span}
use Rattle.up_model.proofs.Bools.{nat_eq_true}
use Rattle.up_site.specs.Stages.{stage_at, tours_with, tours_without}
use Rattle.up_site.specs.Places.{place_at}
use Rattle.up_site.specs.declared.stage.Stage.{Stage}
use Rattle.up_site.specs.declared.stage.Stage.TheVariants.{Copied}
use Rattle.up_site.specs.declared.stage.Tour.{Tour}

-- the list of the others is the list without the actor's
pub without_is : (who : ℕ) (tours : List Tour) → filter (λ tour. not (tour.who == who)) tours ≡
    tours_without who tours
without_is who [] = refl
without_is who (tour ∷ rest) =
    elim (tour.who == who) as (λ b. cond (not b) (tour ∷ filter (λ t. not (t.who == who)) rest) (filter (λ
    t. not (t.who == who)) rest) ≡ cond b (tours_without who rest) (tour ∷ tours_without who rest)) [
      | true ↦ without_is who rest
      | false ↦ ap (λ (l : List Tour). tour ∷ l) (without_is who rest)
    ]

-- what stands there
abbrev pub TourAt : List Tour → ℕ → ℕ → Type 0
TourAt tours who place = (tour : Tour) → slice_get tours place ≡ Some tour → (tour.who ≡ who) × (stage_at
    tours who ≡ Some tour.stage)

some_tour : (a b : Tour) → Some a ≡ Some b → a ≡ b
some_tour a b same = cc

pub tour_at : (who : ℕ) (tours : List Tour) → place_at tours who < length tours → TourAt tours who
    (place_at tours who)
tour_at who [] low = absurd (omega arith)
tour_at who (tour ∷ rest) low =
    elim (tour.who == who) as (λ b. (tour.who == who) ≡ b → cond b 0 (suc (place_at rest who)) < suc
    (length rest) →
    (t : Tour) → slice_get (tour ∷ rest) (cond b 0 (suc (place_at rest who))) ≡ Some t → (t.who ≡ who) ×
    (cond b (Some tour.stage) (stage_at rest who) ≡ Some t.stage)) [
      | true ↦ λ is less t here. let same : tour ≡ t = some_tour tour t here in
          subst (λ (u : Tour). (u.who ≡ who) × (Some tour.stage ≡ Some u.stage)) same (
            nat_eq_true tour.who
                who is,
            refl,
          )
      | false ↦ λ is less t here. tour_at who rest (omega arith) t here
    ] refl low

-- none stands there
pub none_at : (who : ℕ) (tours : List Tour) → length tours ≤ place_at tours who → stage_at tours who ≡ None
none_at who [] past = refl
none_at who (tour ∷ rest) past =
    elim (tour.who == who) as (λ b. suc (length rest) ≤ cond b 0 (suc (place_at rest who)) → cond b (Some
    tour.stage) (stage_at rest who) ≡ None) [
      | true ↦ λ low. absurd (omega arith)
      | false ↦ λ low. none_at who rest (omega arith)
    ] past

pub some_at : (who : ℕ) (tours : List Tour) (stage : Stage) → stage_at tours who ≡ Some stage → place_at
    tours who < length tours
some_at who [] stage is = absurd cc
some_at who (tour ∷ rest) stage is =
    elim (tour.who == who) as (λ b. cond b (Some tour.stage) (stage_at rest who) ≡ Some stage → cond b 0
    (suc (place_at rest who)) < suc (length rest)) [
      | true ↦ λ here. omega arith
      | false ↦ λ later. let low : place_at rest who < length rest = some_at who rest stage later in omega
          arith
    ] is

-- the list with another stage there
pub with_at : (who : ℕ) (stage : Stage) (tours : List Tour) → place_at tours who < length tours →
    tours_with who stage tours ≡ slice_set tours (place_at tours who) (record { who = who; stage = stage })
with_at who stage [] low = absurd (omega arith)
with_at who stage (tour ∷ rest) low =
    elim (tour.who == who) as (λ b. cond b 0 (suc (place_at rest who)) < suc (length rest) →
    cond b (record { who = who; stage = stage } ∷ rest) (tour ∷ tours_with who stage rest) ≡ slice_set
    (tour ∷ rest) (cond b 0 (suc (place_at rest who))) (record { who = who; stage = stage })) [
      | true ↦ λ here. refl
      | false ↦ λ less. ap (λ (l : List Tour). tour ∷ l) (with_at who stage rest (omega arith))
    ] low

pub with_end : (who : ℕ) (stage : Stage) (tours : List Tour) → length tours ≤ place_at tours who →
    tours_with who stage tours ≡ tours ++ record { who = who; stage = stage } ∷ []
with_end who stage [] past = refl
with_end who stage (tour ∷ rest) past =
    elim (tour.who == who) as (λ b. suc (length rest) ≤ cond b 0 (suc (place_at rest who)) →
    cond b (record { who = who; stage = stage } ∷ rest) (tour ∷ tours_with who stage rest) ≡ tour ∷ (rest
    ++ record { who = who; stage = stage } ∷ [])) [
      | true ↦ λ low. absurd (omega arith)
      | false ↦ λ low. ap (λ (l : List Tour). tour ∷ l) (with_end who stage rest (omega arith))
    ] past

-- what is read at the place
pub tour_read : (who : ℕ) (tours : List Tour) (place : ℕ) (tour : Tour) → place ≡ place_at tours who →
    place < length tours → tour ≡ slice_index_or tours place tour →
    (tour.who ≡ who) × (stage_at tours who ≡ Some tour.stage)
tour_read who tours place tour is low read =
    tour_at who tours (subst (λ (n : ℕ). n < length tours) is low) tour (subst (λ (n : ℕ). slice_get tours
    n ≡ Some tour) is (slice_get_read tours (length tours) place tour refl low read))

some_stage : (a b : Stage) → Some a ≡ Some b → a ≡ b
some_stage a b same = cc

-- the stage that is read is the one that is known
pub stage_read : (who : ℕ) (tours : List Tour) (place : ℕ) (tour : Tour) (stage : Stage) → place ≡ place_at
    tours who → place < length tours → tour ≡ slice_index_or tours place tour →
    stage_at tours who ≡ Some stage → tour.stage ≡ stage
stage_read who tours place tour stage is low read known = some_stage tour.stage stage (sym (tour_read who
    tours place tour is low read).1 ∙ known)

pub copied_is : (range other : Span) (number which : Option ℕ) (bytes more : List ℕ) (stored done : ℕ) →
    Copied range number bytes stored ≡ Copied other which more done →
    (range ≡ other) × (number ≡ which) × (bytes ≡ more) × (stored ≡ done)
copied_is range other number which bytes more stored done same = (cc, cc, cc, cc)

-- one stage of the actor less
pub without_one : (who : ℕ) (tours : List Tour) → place_at tours who < length tours → tours_without who
    (remove tours (place_at tours who)) ≡ tours_without who tours
without_one who [] low = absurd (omega arith)
without_one who (tour ∷ rest) low =
    elim (tour.who == who) as (λ b. (tour.who == who) ≡ b → cond b 0 (suc (place_at rest who)) < suc
    (length rest) →
    tours_without who (remove (tour ∷ rest) (cond b 0 (suc (place_at rest who)))) ≡ cond b (tours_without
    who rest) (tour ∷ tours_without who rest)) [
      | true ↦ λ is less. refl
      | false ↦ λ is less. rw is (ap (λ (l : List Tour). tour ∷ l) (without_one who rest (omega arith)))
    ] refl low

-- none of the actor's is left
pub without_none : (who : ℕ) (tours : List Tour) → length tours ≤ place_at tours who → tours_without who
    tours ≡ tours
without_none who [] past = refl
without_none who (tour ∷ rest) past =
    elim (tour.who == who) as (λ b. suc (length rest) ≤ cond b 0 (suc (place_at rest who)) → cond b
    (tours_without who rest) (tour ∷ tours_without who rest) ≡ tour ∷ rest) [
      | true ↦ λ low. absurd (omega arith)
      | false ↦ λ low. ap (λ (l : List Tour). tour ∷ l) (without_none who rest (omega arith))
    ] past

pub without_step : (who : ℕ) (tours next : List Tour) (place : ℕ) → place ≡ place_at tours who → place <
    length tours → next ≡ remove tours place → tours_without who next ≡ tours_without who tours
without_step who tours next place is low removed =
    ap (tours_without who) (removed ∙ ap (remove tours) is) ∙ without_one who tours (subst (λ (n : ℕ). n <
    length tours) is low)
