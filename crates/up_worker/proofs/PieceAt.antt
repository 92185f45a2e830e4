-- The piece at a place of an access, and how many calls a line has.
use Rattle.std.proofs.Common.{◌≡◌, ℕ, zero, suc, ◌+◌, ◌-◌, ◌*◌, ◌/◌, ◌<◌, ◌≤◌, ◌==◌, true, false, max, min, Some, None, length, refl, sym, ap, ◌∙◌, subst, arith, slice_get}
use Rattle.std.proofs.lemmas.Bool.{eq-eqb, ne_eqb}
use Rattle.std.proofs.lemmas.Option.{slice_get_past}
use Rattle.up_num.specs.Pieces.{piece_in, pieces_in, pages_between, pieces}
use Rattle.up_num.specs.declared.pages.Piece.{Piece}

in_at : (off end p n i : ℕ) → i < n → slice_get (pieces_in off end p n) i ≡ Some (piece_in off end (p + i))
in_at off end p zero i below = absurd (omega arith)
in_at off end p (suc n) zero below = ap (λ q. Some (piece_in off end q)) (let e : p ≡ p + 0 = omega arith in e)
in_at off end p (suc n) (suc i) below =
    in_at off end (p + 1) n i (omega arith) ∙ ap (λ q. Some (piece_in off end q)) (let e : p + 1 + i ≡ p + suc i = omega arith in e)

length_in : (off end p n : ℕ) → length (pieces_in off end p n) ≡ n
length_in off end p zero = refl
length_in off end p (suc n) = let rest = length_in off end (p + 1) n in omega arith

between_is : (off len : ℕ) → 0 < len → pages_between off (off + len) ≡ (off + len - 1) / 4096 + 1 - off / 4096
between_is off len some = let other : off == (off + len) ≡ false = ne_eqb off (off + len) (λ same. omega arith) in rw other refl

pub none_of_nothing : (off place : ℕ) → slice_get (pieces off 0) place ≡ None
none_of_nothing off place = let same : off == (off + 0) ≡ true = eq-eqb off (off + 0) (omega arith) in rw same refl

pub piece_there : (off len place : ℕ) → 0 < len → place < (off + len - 1) / 4096 + 1 - off / 4096
    → slice_get (pieces off len) place ≡ Some (piece_in off (off + len) (off / 4096 + place))
piece_there off len place some below =
    in_at off (off + len) (off / 4096) (pages_between off (off + len)) place (subst (λ n. place < n) (sym (between_is off len some)) below)

pub piece_past : (off len place : ℕ) → 0 < len → (off + len - 1) / 4096 + 1 - off / 4096 ≤ place → slice_get (pieces off len) place ≡ None
piece_past off len place some past =
    slice_get_past (pieces off len) place
    (let many = length_in off (off + len) (off / 4096) (pages_between off (off + len)) in
    let is = between_is off len some in
    omega arith)

pub pieces_few : (off len : ℕ) → off + len ≤ 17592186044416 → length (pieces off len) ≤ 17179869184
pieces_few off zero fits = let same : off == (off + 0) ≡ true = eq-eqb off (off + 0) (omega arith) in rw same (omega arith)
pieces_few off (suc n) fits =
    let many = length_in off (off + suc n) (off / 4096) (pages_between off (off + suc n)) in
    let is = between_is off (suc n) (omega arith) in
    omega arith

abbrev piece : ℕ → ℕ → Piece
piece off len = record { off = off; len = len }

pub piece_is : (off len place from to : ℕ) → slice_get (pieces off len) place ≡ Some (piece_in off (off + len) (off / 4096 + place))
    → from ≡ max off (4096 * (off / 4096 + place)) → to ≡ min (off + len) (4096 * (off / 4096 + place + 1))
    → Some (piece from (to - from)) ≡ slice_get (pieces off len) place
piece_is off len place from to there begins ends =
    ap (λ f. Some (piece f (to - f))) begins
    ∙ (ap (λ t. Some (piece (max off (4096 * (off / 4096 + place))) (t - max off (4096 * (off / 4096 + place))))) ends ∙ sym there)
