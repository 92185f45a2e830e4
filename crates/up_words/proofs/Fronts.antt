-- The first piece of a list, by the place of the first element that parts it.
use Rattle.std.proofs.Common.{◌≡◌, ℕ, ◌+◌, Bool, true, false, cond, ltb, List, [], ◌∷◌, length, take, drop, Some, None, refl, arith}
use Rattle.std.specs.List.{slice_split, position_or_len}
use Rattle.std.proofs.lemmas.Bool.{ltb-true, ltb-false}
use Rattle.std.proofs.lemmas.List.Splits.{slice_split_none, slice_split_first}
use Rattle.std.proofs.lemmas.List.Sums.{fails_before_first}

none_if : (b : Bool) (n : ℕ) → None ≡ cond b (Some n) None → b ≡ false
none_if true n e = absurd cc
none_if false n e = refl

some_if : (b : Bool) (n at : ℕ) → Some at ≡ cond b (Some n) None → (b ≡ true) × (at ≡ n)
some_if true n at e = (refl, cc)
some_if false n at e = absurd cc

pub split_whole : {X : Type 0} (test : X → Bool) (xs : List X) (d : X) → None ≡ cond (ltb (position_or_len test xs) (length xs)) (Some (position_or_len test xs)) None → slice_split test xs ≡ xs ∷ []
split_whole test xs d e =
    let past = ltb-false (position_or_len test xs) (length xs) (none_if (ltb (position_or_len test xs) (length xs)) (position_or_len test xs) e) in
    slice_split_none test xs (λ k d' lt. fails_before_first test xs k d' (omega arith))

pub split_front : {X : Type 0} (test : X → Bool) (xs : List X) (d : X) (at : ℕ) → Some at ≡ cond (ltb (position_or_len test xs) (length xs)) (Some (position_or_len test xs)) None → slice_split test xs ≡ take at xs ∷ slice_split test (drop (at + 1) xs)
split_front test xs d at e =
    let p = some_if (ltb (position_or_len test xs) (length xs)) (position_or_len test xs) at e in
    rw p.1 (slice_split_first test xs d (ltb-true (position_or_len test xs) (length xs) p.0))
