-- Which words ask for which command.
use Rattle.std.proofs.Common.{◌≡◌, ℕ, ◌<◌, not, Bool, true, false, IsTrue, List, [], ◌∷◌, length, get_or, refl, ap, sym, ◌∙◌, arith}
use Rattle.std.specs.Prelude.{codes}
use Rattle.std.specs.Str.{bytes_eq}
use Rattle.std.proofs.lemmas.Slice.Eq.{bytes_eq-Decides}
use mathlib.Core.Bool.{true≢false}
use Rattle.pagerd.specs.Commands.{Asks, AskNothing}
use Rattle.pagerd.specs.Generated.{IsGen, IsNoGen}
use Rattle.pagerd.specs.declared.command.Command.TheVariants.{Step, Check, Gen}

pub one_item : {X : Type 0} (xs : List X) (x : X) → 0 < length xs → length xs < 2 → x ≡ get_or xs 0 x →
    xs ≡ x ∷ []
one_item [] x some few is = absurd (omega arith)
one_item (y ∷ []) x some few is = ap (λ z. z ∷ []) (sym is)
one_item (y ∷ z ∷ zs) x some few is = absurd (omega arith)

pub three_items : {X : Type 0} (xs : List X) (x y z : X) → 2 < length xs → length xs < 4 → x ≡ get_or xs 0 x
    → y ≡ get_or xs 1 y → z ≡ get_or xs 2 z → xs ≡ x ∷ y ∷ z ∷ []
three_items [] x y z some few p q r = absurd (omega arith)
three_items (a ∷ []) x y z some few p q r = absurd (omega arith)
three_items (a ∷ b ∷ []) x y z some few p q r = absurd (omega arith)
three_items (a ∷ b ∷ c ∷ []) x y z some few p q r =
    ap (λ v. v ∷ b ∷ c ∷ []) (sym p) ∙ ap (λ v. x ∷ v ∷ c ∷ []) (sym q) ∙ ap (λ v. x ∷ y ∷ v ∷ []) (sym r)
three_items (a ∷ b ∷ c ∷ d ∷ rest) x y z some few p q r = absurd (omega arith)

not_false : (b : Bool) → not b ≡ false → b ≡ true
not_false true is = refl
not_false false is = sym is

-- a word that isn't found to differ is the wanted one
pub same_word : (word wanted : List ℕ) (r : Bool) → r ≡ not (bytes_eq word wanted) → r ≡ false → word ≡ wanted
same_word word wanted r found is =
    let decides = bytes_eq-Decides word wanted in
    decides.0 (not_false (bytes_eq word wanted) (sym found ∙ is))

-- the one word is the wanted one exactly where its bytes are
pub one_word : (words : List (List ℕ)) (word wanted : List ℕ) (r : Bool) → words ≡ word ∷ [] →
    r ≡ bytes_eq word wanted →
    (IsTrue r → words ≡ wanted ∷ []) × (words ≡ wanted ∷ [] → IsTrue r)
one_word words word wanted r one is =
    let decides = bytes_eq-Decides word wanted in (
      λ holds. one ∙ ap (λ (w : List ℕ). w ∷ []) (decides.0 (sym is ∙ holds)),
      λ step. let both : word ∷ [] ≡ wanted ∷ [] = sym one ∙ step in
          let same : word ≡ wanted = cc in is ∙ decides.1 same,
    )

-- the words aren't this command's
pub not_word : {Is : Type 0} (r : Bool) → (Is → IsTrue r) → r ≡ false → Is → ⊥
not_word r yes_if is one = true≢false (sym (yes_if one) ∙ is)

-- words of no command ask for none
pub ask_nothing : (words : List (List ℕ)) → (Asks words Step → ⊥) → (Asks words Check → ⊥) → IsNoGen words →
    AskNothing words
ask_nothing words step check gen Step asked = step asked
ask_nothing words step check gen Check asked = check asked
ask_nothing words step check gen (Gen seed) asked = gen seed.seed seed.rounds asked

-- no words ask for two commands
pub step_or_check : (words : List (List ℕ)) → Asks words Step → Asks words Check → ⊥
step_or_check words step check =
    let both : codes "step" ∷ [] ≡ codes "check" ∷ [] = sym step ∙ check in
    let same : codes "step" ≡ codes "check" = cc in
    let lengths : ◌≡◌ {A = ℕ} 4 5 = ap length same in omega arith

pub gen_or_word : (words : List (List ℕ)) (word : List ℕ) (seed count : ℕ) → IsGen words seed count →
    words ≡ word ∷ [] → ⊥
gen_or_word words word seed count gen one =
    let n : ◌≡◌ {A = ℕ} 3 1 = ap length (sym gen.are ∙ one) in omega arith
