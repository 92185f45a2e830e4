-- Lists by place.
use Rattle.std.proofs.Common.{◌≡◌, ℕ, ◌<◌, ◌==◌, Bool, true, false, cond, Option, Some, List, [], ◌∷◌, ◌++◌, length, zero, suc, slice_get, slice_set, refl, ap, ◌∙◌, arith}
use Rattle.std.proofs.lemmas.Bool.Decides.{nat_tests}

zero_is_no_suc : (t : ℕ) → (0 == suc t) ≡ false
zero_is_no_suc t = grind (arith, nat_tests)

suc_is_not_zero : (n : ℕ) → (suc n == 0) ≡ false
suc_is_not_zero n = grind (arith, nat_tests)

same_suc : (m n : ℕ) → (suc m == suc n) ≡ (m == n)
same_suc m n = grind (arith, nat_tests)

-- one item more at the end
pub slice_get-push : {X : Type 0} (xs : List X) (x : X) (t : ℕ) → slice_get (xs ++ x ∷ []) t ≡ cond (length xs == t) (Some x) (slice_get xs t)
slice_get-push [] x zero = refl
slice_get-push [] x (suc t) = rw (zero_is_no_suc t) refl
slice_get-push (y ∷ ys) x zero = rw (suc_is_not_zero (length ys)) refl
slice_get-push (y ∷ ys) x (suc t) = rw (same_suc (length ys) t) (slice_get-push ys x t)

cond_look : {X Y : Type 0} (look : X → Y) (b : Bool) (x y : X) → look (cond b x y) ≡ cond b (look x) (look y)
cond_look look true x y = refl
cond_look look false x y = refl

-- what a look says of one item more at the end, of as many as another list has
pub push_look : {X Y : Type 0} (look : Option X → Y) (xs : List X) (x : X) (n t : ℕ) → length xs ≡ n → look (slice_get (xs ++ x ∷ []) t) ≡ cond (n == t) (look (Some x)) (look (slice_get xs t))
push_look look xs x n t count = ap look (slice_get-push xs x t) ∙ cond_look look (length xs == t) (Some x) (slice_get xs t) ∙ ap (λ (m : ℕ). cond (m == t) (look (Some x)) (look (slice_get xs t))) count

pub length_push : {X : Type 0} (xs : List X) (x : X) → length (xs ++ x ∷ []) ≡ suc (length xs)
length_push [] x = refl
length_push (y ∷ ys) x = ap suc (length_push ys x)

-- another item at place n
pub set_look : {X Y : Type 0} (look : Option X → Y) (xs : List X) (n : ℕ) (x : X) (t : ℕ) → n < length xs → look (slice_get (slice_set xs n x) t) ≡ cond (n == t) (look (Some x)) (look (slice_get xs t))
set_look look [] n x t lt = absurd (omega arith)
set_look look (y ∷ ys) zero x zero lt = refl
set_look look (y ∷ ys) zero x (suc t) lt = rw (zero_is_no_suc t) refl
set_look look (y ∷ ys) (suc n) x zero lt = rw (suc_is_not_zero n) refl
set_look look (y ∷ ys) (suc n) x (suc t) lt = rw (same_suc n t) (set_look look ys n x t (omega arith))
