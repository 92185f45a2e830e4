-- An access cut where its pages end: what is left after the first piece.
use Rattle.std.proofs.Common.{◌≡◌, ℕ, ◌+◌, ◌-◌, ◌*◌, ◌/◌, ◌%◌, ◌<◌, ◌≤◌, ◌==◌, true, false, min, max, [], ◌∷◌, zero, suc, refl, sym, ap, ◌∙◌, subst, ⊎_elim, arith}
use Rattle.std.proofs.lemmas.Bool.{cases_lt, eq-eqb, ne_eqb}
use Rattle.up_num.specs.Pieces.{piece_in, pieces_in, pages_between, pieces, Consecutive}
use Rattle.up_num.specs.declared.pages.Piece.{Piece}

abbrev piece_at : ℕ → ℕ → Piece
piece_at off len = record { off = off; len = len }

same_piece : (a b n m : ℕ) → a ≡ b → n ≡ m → piece_at a n ≡ piece_at b m
same_piece a b n m start many = ap (λ x. piece_at x n) start ∙ ap (λ x. piece_at b x) many

-- from a page on, it doesn't matter at which byte before it an access starts
pieces_moved : (off from end p n : ℕ) → off ≤ 4096 * p → from ≤ 4096 * p → pieces_in off end p n ≡ pieces_in from end p n
pieces_moved off from end p zero h g = refl
pieces_moved off from end p (suc n) h g =
    let one : max off (4096 * p) ≡ max from (4096 * p) = omega arith in
    let many : min end (4096 * (p + 1)) - max off (4096 * p) ≡ min end (4096 * (p + 1)) - max from (4096 * p) = omega arith in
    ap (λ (x : Piece). x ∷ pieces_in off end (p + 1) n) (same_piece _ _ _ _ one many)
    ∙ ap (λ xs. piece_in from end p ∷ xs) (pieces_moved off from end (p + 1) n (omega arith) (omega arith))

pub pieces_none : (off : ℕ) → pieces off 0 ≡ []
pieces_none off =
    let same : off == (off + 0) ≡ true = eq-eqb off (off + 0) (omega arith) in
    rw same refl

pages_more : (off end : ℕ) → off < end → pages_between off end ≡ suc ((end - 1) / 4096 - off / 4096)
pages_more off end h =
    let other : off == end ≡ false = ne_eqb off end (λ same. omega arith) in
    let low : off / 4096 ≤ (end - 1) / 4096 = omega arith in
    let count : (end - 1) / 4096 + 1 - off / 4096 ≡ suc ((end - 1) / 4096 - off / 4096) = omega arith in
    rw other count

-- the pieces after the first, where there are some, and where there are none
rest_some : (off end next : ℕ) → next ≡ 4096 * (off / 4096 + 1) → next < end →
    pieces_in off end (off / 4096 + 1) ((end - 1) / 4096 - off / 4096) ≡ pieces_in next end (next / 4096) (pages_between next end)
rest_some off end next is h =
    let page : next / 4096 ≡ off / 4096 + 1 = omega arith in
    let below : off ≤ 4096 * (off / 4096 + 1) = omega arith in
    let there : next ≤ 4096 * (off / 4096 + 1) = omega arith in
    let count : suc ((end - 1) / 4096 - next / 4096) ≡ (end - 1) / 4096 - off / 4096 = omega arith in
    pieces_moved off next end (off / 4096 + 1) ((end - 1) / 4096 - off / 4096) below there
    ∙ ap (λ p. pieces_in next end p ((end - 1) / 4096 - off / 4096)) (sym page)
    ∙ ap (λ n. pieces_in next end (next / 4096) n) (sym (pages_more next end h ∙ count))

rest_none : (off end : ℕ) → off < end → end ≤ 4096 * (off / 4096 + 1) → (end - 1) / 4096 - off / 4096 ≡ 0
rest_none off end h few = omega arith

rest_is : (off len k : ℕ) → 0 < len → k ≡ min len (4096 - off % 4096) →
    pieces_in off (off + len) (off / 4096 + 1) ((off + len - 1) / 4096 - off / 4096) ≡ pieces (off + k) (len - k)
rest_is off len k some is =
    let end : off + k + (len - k) ≡ off + len = omega arith in
    ⊎_elim
    (λ h. let next : off + k ≡ 4096 * (off / 4096 + 1) = omega arith in
    let more : off + k < off + len = omega arith in
    rest_some off (off + len) (off + k) next more
    ∙ ap (λ e. pieces_in (off + k) e ((off + k) / 4096) (pages_between (off + k) e)) (sym end))
    (λ h. let none : len - k ≡ 0 = omega arith in
    let few : off + len ≤ 4096 * (off / 4096 + 1) = omega arith in
    ap (λ n. pieces_in off (off + len) (off / 4096 + 1) n) (rest_none off (off + len) (omega arith) few)
    ∙ sym (pieces_none (off + k)) ∙ ap (λ n. pieces (off + k) n) (sym none))
    (cases_lt k len)

pub pieces_more : (off len k : ℕ) → 0 < len → k ≡ min len (4096 - off % 4096) → pieces off len ≡ piece_at off k ∷ pieces (off + k) (len - k)
pieces_more off len k some is =
    let start : max off (4096 * (off / 4096)) ≡ off = omega arith in
    let many : min (off + len) (4096 * (off / 4096 + 1)) - max off (4096 * (off / 4096)) ≡ k = omega arith in
    ap (λ n. pieces_in off (off + len) (off / 4096) n) (pages_more off (off + len) (omega arith))
    ∙ ap (λ (x : Piece). x ∷ pieces_in off (off + len) (off / 4096 + 1) ((off + len - 1) / 4096 - off / 4096)) (same_piece _ _ _ _ start many)
    ∙ ap (λ xs. piece_at off k ∷ xs) (rest_is off len k some is)

joined : (fuel off len : ℕ) → len ≤ fuel → Consecutive off (off + len) (pieces off len)
joined fuel off zero h = subst (λ xs. Consecutive off (off + 0) xs) (sym (pieces_none off)) (omega arith)
joined zero off (suc len) h = absurd (omega arith)
joined (suc fuel) off (suc len) h =
    let end : off + min (suc len) (4096 - off % 4096) + (suc len - min (suc len) (4096 - off % 4096)) ≡ off + suc len = omega arith in
    subst (λ xs. Consecutive off (off + suc len) xs) (sym (pieces_more off (suc len) (min (suc len) (4096 - off % 4096)) (omega arith) refl)) (
      refl,
      (
        omega arith,
        (
          omega arith,
          subst (λ e. Consecutive (off + min (suc len) (4096 - off % 4096)) e (pieces (off + min (suc len) (4096 - off % 4096)) (suc len - min (suc len) (4096 - off % 4096)))) end
              (joined fuel (off + min (suc len) (4096 - off % 4096)) (suc len - min (suc len) (4096 - off % 4096)) (omega arith)),
        ),
      ),
    )

pub all_joined : (off len : ℕ) → Consecutive off (off + len) (pieces off len)
all_joined off len = joined len off len (omega arith)
