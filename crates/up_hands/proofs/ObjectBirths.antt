-- Objects that are born one after the other.
use Rattle.std.proofs.Common.{◌≡◌, ◌<◌, ◌+◌, ℕ, List, [], ◌∷◌, ◌++◌, length, suc, map, take, get_or, refl, ap, sym, ◌∙◌, subst, arith}
use Rattle.std.proofs.Math.Seq.{take-suc}
use Rattle.std.proofs.lemmas.List.{map-append}
use Rattle.up_model.specs.Legal.{Life}
use Rattle.up_model.specs.declared.entry.Birth.{Birth}
use Rattle.up_object.specs.Whole.{Whole, life_of}
use Rattle.up_steps.specs.Handed.{new_life}

lives_many : (wholes : List Whole) → length (map life_of wholes) ≡ length wholes
lives_many [] = refl
lives_many (whole ∷ wholes) = ap suc (lives_many wholes)

births_many : (births : List Birth) → length (map new_life births) ≡ length births
births_many [] = refl
births_many (birth ∷ births) = ap suc (births_many births)

pub born_one : (births : List Birth) (n : ℕ) (other : Birth) (old new : List Whole) (whole : Whole) → n < length births → new ≡ old ++ whole ∷ [] →
    life_of whole ≡ new_life (get_or births n other) → map life_of old ≡ map new_life (take n births) → map life_of new ≡ map new_life (take (n + 1) births)
born_one births n other old new whole within e life so_far =
    let next : suc n ≡ n + 1 = omega arith in
    let more : take (n + 1) births ≡ take n births ++ get_or births n other ∷ [] =
    subst (λ (k : ℕ). take k births ≡ take n births ++ get_or births n other ∷ []) next (take-suc births n other within) in
    ap (map life_of) e ∙ map-append life_of old (whole ∷ [])
    ∙ (ap (λ (l : Life). map life_of old ++ l ∷ []) life ∙ ap (λ (ls : List Life). ls ++ new_life (get_or births n other) ∷ []) so_far)
    ∙ sym (ap (map new_life) more ∙ map-append new_life (take n births) (get_or births n other ∷ []))

pub same_many : (wholes : List Whole) (births : List Birth) → map life_of wholes ≡ map new_life births → length wholes ≡ length births
same_many wholes births is = sym (lives_many wholes) ∙ ap (λ (ls : List Life). length ls) is ∙ births_many births
