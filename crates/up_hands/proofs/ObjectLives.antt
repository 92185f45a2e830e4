-- The lives of objects whose entries stand in one list: at their birth, one of them, and whether they are legal.
use Rattle.std.proofs.Common.{◌≡◌, ◌+◌, ℕ, Some, List, [], ◌∷◌, zero, suc, map, slice_get, refl, ap, ◌∙◌, subst, arith}
use Rattle.up_model.specs.Legal.{Life, Legal}
use Rattle.up_model.specs.declared.entry.Birth.{Birth}
use Rattle.up_worker.specs.Courses.{Entered}
use Rattle.up_worker.specs.Thread.{of_object}
use Rattle.up_steps.specs.Handed.{lives_from, lives_of, new_life, AllLegal}

none_from : (n : ℕ) (births : List Birth) → lives_from n births [] ≡ map new_life births
none_from n [] = refl
none_from n (birth ∷ births) = ap (λ (rest : List Life). new_life birth ∷ rest) (none_from (n + 1) births)

-- no entry stands for objects at their birth
pub lives_none : (births : List Birth) → lives_of births [] ≡ map new_life births
lives_none births = none_from 0 births

life_from : (n : ℕ) (births : List Birth) (g : List Entered) (k : ℕ) (birth : Birth) → slice_get births k ≡ Some birth
    → slice_get (lives_from n births g) k ≡ Some (record { birth = birth; journal = of_object (n + k) g })
life_from n [] g k birth is = absurd cc
life_from n (one ∷ births) g zero birth is =
    let same : one ≡ birth = cc in
    let here : n ≡ n + 0 = omega arith in
    ap (λ (b : Birth). Some (record { birth = b; journal = of_object n g })) same ∙ ap (λ (m : ℕ). Some (record { birth = birth; journal = of_object m g })) here
life_from n (one ∷ births) g (suc k) birth is =
    let here : n + 1 + k ≡ n + suc k = omega arith in
    life_from (n + 1) births g k birth is ∙ ap (λ (m : ℕ). Some (record { birth = birth; journal = of_object m g })) here

pub life_at : (births : List Birth) (g : List Entered) (k : ℕ) (birth : Birth) → slice_get births k ≡ Some birth → slice_get (lives_of births g) k ≡ Some (record { birth = birth; journal = of_object k g })
life_at births g k birth is =
    let here : 0 + k ≡ k = omega arith in
    life_from 0 births g k birth is ∙ ap (λ (m : ℕ). Some (record { birth = birth; journal = of_object m g })) here

pub legal_at : (lives : List Life) (k : ℕ) (life : Life) → AllLegal lives → slice_get lives k ≡ Some life → Legal life.birth life.journal
legal_at [] k life all is = absurd cc
legal_at (one ∷ lives) zero life all is = let same : one ≡ life = cc in subst (λ (l : Life). Legal l.birth l.journal) same all.0
legal_at (one ∷ lives) (suc k) life all is = legal_at lives k life all.1 is
