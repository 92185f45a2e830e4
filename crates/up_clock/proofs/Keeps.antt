-- Each step of a clock keeps its rule.
use Rattle.std.proofs.Common.{◌≡◌, ◌≢◌, ℕ, zero, suc, ◌+◌, ◌-◌, ◌<◌, ◌≤◌, true, false, List, [], ◌∷◌, ◌++◌, length, get_or, set, min, max, sym, refl, ap, ◌∙◌, subst, ⊎_elim, arith, length-set, get_or-set_same, append_assoc}
use Rattle.std.specs.List.{All}
use Rattle.std.specs.List.Sorted.{IsNonDecreasing}
use Rattle.std.proofs.lemmas.List.Elements.{All-push, All-weaker}
use Rattle.std.proofs.lemmas.List.Sorted.{IsNonDecreasingBy-push}
use mathlib.Core.Logic.{dite}
use mathlib.Core.Option.{none, some, some-ne-none}
use native.Mathlib.Decide.{ℕ_discrete}
use lib.ListN.{get_elem?}
use Rattle.atomic_table.specs.Table.{State, Me, step, keeps, stepped, Allows, Splits, Joins}
use Rattle.atomic_table.proofs.Lists.{at_set, at_snoc}
use Rattle.up_clock.specs.Known.{last_age}
use Rattle.up_clock.specs.Ticks.{Fits, Ticks, Shows, found, answered, older, looked, began, aged, shared, new_seat, joined, spent}
use Rattle.up_clock.specs.declared.view.View.{View}

abbrev S : Type 0
S = State (Unit {0}) View

abbrev M : Type 0
M = Me (Unit {0}) View

-- the number that the clock shows
abbrev shown : S → ℕ
shown s = get_or s.words 0 0

-- an index at which a view stands is below their number
pub within : (vs : List View) (j : ℕ) (v : View) → get_elem? vs j ≡ some v → j < length vs
within [] j v e = absurd (some-ne-none v (sym e))
within (x ∷ xs) zero v e = omega arith
within (x ∷ xs) (suc j) v e = let h = within xs j v e in omega arith

-- two seats are company
not_alone : (s : S) → Ticks s → (id j : ℕ) (v u : View) → get_elem? s.views id ≡ some v → get_elem? s.views j ≡ some u → j ≢ id → u.sole ≡ true → ⊥
not_alone s r id j v u at there other lone =
    let one : length s.views ≡ 1 = ((r.each j u there).alone lone).0 in let a = within s.views id v at in let b = within s.views j u there in other (omega arith)

-- a view with company fits a clock that shows no less
company : (n n' seats seats' : ℕ) (v : View) → n ≤ n' → (v.sole ≡ true → ⊥) → Fits n seats v → Fits n' seats' v
company n n' seats seats' v more busy f = record {
  told = let h = f.told in omega arith;
  found = All-weaker (λ x. x ≤ n) (λ x. x ≤ n') (λ x h. omega arith) v.finds f.found;
  rising = f.rising;
  alone = λ lone. absurd (busy lone);
}

fits_as : (n n' seats seats' : ℕ) (v : View) → n ≡ n' → seats ≡ seats' → Fits n seats v → Fits n' seats' v
fits_as n n' seats seats' v e f h = subst (λ (z : ℕ × ℕ). Fits z.0 z.1 v) (λ i. (e i, f i)) h

-- what the finds of a view tell of one more
pub rises : (n seats : ℕ) (v : View) → Fits n seats v → IsNonDecreasing (v.finds ++ n ∷ [])
rises n seats v f = IsNonDecreasingBy-push (λ x. x) v.finds n f.rising (λ d some_there. f.found (length v.finds - 1) d (omega arith))

shows : (n seats : ℕ) (v : View) → Fits n seats v → Shows v n
shows n seats v f = record { told = f.told; rising = rises n seats v f; alone = λ lone. (f.alone lone).1 }

-- one find more, of what the clock showed
all_found : (n n' seats : ℕ) (v : View) → n ≤ n' → Fits n seats v → All (λ x. x ≤ n') (v.finds ++ n ∷ [])
all_found n n' seats v more f = All-push (λ x. x ≤ n') v.finds n (All-weaker (λ x. x ≤ n) (λ x. x ≤ n') (λ x h. omega arith) v.finds f.found) more

-- the word becomes n', which is no less, and the seat's view becomes w, which fits it
steps : (s : S) → Ticks s → (id n' : ℕ) (me : M) (w : View) → get_elem? s.views id ≡ some me.0 → shown s ≤ n' → Fits n' (length s.views) w → Ticks (stepped s 0 n' id me.1 w keeps)
steps s r id n' me w at more fits =
    let wide : length (set s.words 0 n') ≡ 1 = length-set s.words 0 n' ∙ r.wide in
    let is : n' ≡ get_or (set s.words 0 n') 0 0 = sym (get_or-set_same s.words 0 n' 0 (let h = r.wide in omega arith)) in
    let as_many : length s.views ≡ length (set s.views id w) = sym (length-set s.views id w) in record {
      wide = wide;
      each = λ j u there. fits_as n' (get_or (set s.words 0 n') 0 0) (length s.views) (length (set s.views id w)) u is as_many
          (⊎_elim (λ (t : (j ≡ id) × (w ≡ u)). subst (Fits n' (length s.views)) t.1 fits)
          (λ (t : (j ≢ id) × (get_elem? s.views j ≡ some u)). company (shown s) n' (length s.views) (length s.views) u more (not_alone s r id j me.0 u at t.1 t.0) (r.each j u t.1))
          (at_set s.views id j w u there));
    }

pub looks : (slots id : ℕ) (me : M) → Allows Ticks slots id me 0 (λ n. n) (looked (step slots 0 0 0 none) me)
looks slots id me s r _ at _ = let n : ℕ = shown s in let seats : ℕ = length s.views in let f : Fits n seats me.0 = r.each id me.0 at in
    let w : View = answered (found me.0 n) n in
    let fits : Fits n seats w = record { told = omega arith; found = all_found n n seats me.0 (omega arith) f; rising = rises n seats me.0 f; alone = f.alone } in
    (w, keeps, tt, steps s r id n me w at (omega arith) fits, (refl, shows n seats me.0 f))

-- the clock is at its end, so the load is the whole age
ends : (n seats : ℕ) (v : View) → n ≡ last_age → Fits n seats v → Fits n seats (older (answered (found v n) n))
ends n seats v end f = record {
  told = omega arith;
  found = all_found n n seats v (omega arith) f;
  rising = rises n seats v f;
  alone = λ lone. let h = (f.alone lone).1 in ((f.alone lone).0, omega arith);
}

finds_more : (n seats : ℕ) (v : View) → Fits n seats v → Fits n seats (found v n)
finds_more n seats v f = record { told = f.told; found = all_found n n seats v (omega arith) f; rising = rises n seats v f; alone = f.alone }

pub begins : (slots id : ℕ) (me : M) → Allows Ticks slots id me 0 (λ n. n) (began (step slots 0 0 0 none) me)
begins slots id me s r _ at _ = let n : ℕ = shown s in let seats : ℕ = length s.views in let f : Fits n seats me.0 = r.each id me.0 at in let told = shows n seats me.0 f in
    dite (ℕ_discrete n last_age)
    (λ end. let w : View = older (answered (found me.0 n) n) in (w, keeps, tt, steps s r id n me w at (omega arith) (ends n seats me.0 end f), ((λ _. refl), (λ other. absurd (other end)), told)))
    (λ other. let w : View = found me.0 n in (w, keeps, tt, steps s r id n me w at (omega arith) (finds_more n seats me.0 f), ((λ end. absurd (other end)), (λ _. refl), told)))

-- the fetch of an age that brings k
pub ages : (slots id k : ℕ) (me : M) → (me.0.sole ≡ true → k ≡ min (me.0.ages + 1) last_age) → Allows Ticks slots id me 0 (λ n. max n k) (aged (step slots 0 k 0 none) me)
ages slots id k me brings s r _ at _ = let n : ℕ = shown s in let seats : ℕ = length s.views in let f : Fits n seats me.0 = r.each id me.0 at in let w : View = older (answered (found me.0 n) k) in
    let fits : Fits (max n k) seats w = record {
      told = omega arith;
      found = all_found n (max n k) seats me.0 (omega arith) f;
      rising = rises n seats me.0 f;
      alone = λ lone. let h = (f.alone lone).1 in let b = brings lone in ((f.alone lone).0, omega arith);
    } in
    (w, keeps, tt, steps s r id (max n k) me w at (omega arith) fits, (refl, shows n seats me.0 f))

-- a second seat keeps company
pub splits : (id : ℕ) (v : View) → Splits Ticks id v (shared v) (new_seat v)
splits id v s r at = let n : ℕ = shown s in let seats : ℕ = length s.views in let f : Fits n seats v = r.each id v at in
    let views' : List View = set s.views id (shared v) ++ new_seat v ∷ [] in
    let mine : Fits n (length views') (shared v) = record { told = f.told; found = f.found; rising = f.rising; alone = λ (lone : false ≡ true). cc } in
    let second : Fits n (length views') (new_seat v) = record { told = f.told; found = λ k d h. absurd (omega arith); rising = λ i j d le h. absurd (omega arith); alone = λ (lone : false ≡ true). cc } in record {
      wide = r.wide;
      each = λ j u there. ⊎_elim
          (λ (old : get_elem? (set s.views id (shared v)) j ≡ some u). ⊎_elim (λ (t : (j ≡ id) × (shared v ≡ u)). subst (Fits n (length views')) t.1 mine)
          (λ (t : (j ≢ id) × (get_elem? s.views j ≡ some u)). company n n seats (length views') u (omega arith) (not_alone s r id j v u at t.1 t.0) (r.each j u t.1))
          (at_set s.views id j (shared v) u old))
          (λ (new : new_seat v ≡ u). subst (Fits n (length views')) new second) (at_snoc (set s.views id (shared v)) (new_seat v) u j there);
    }

joined_there : (s : S) → Ticks s → (id : ℕ) (v : View) (other : ℕ) (w : View) → other ≢ id → get_elem? (set s.views id (joined v w)) other ≡ some w → get_elem? s.views other ≡ some w
joined_there s r id v other w apart there = ⊎_elim (λ (t : (other ≡ id) × (joined v w ≡ w)). absurd (apart t.0)) (λ (t : (other ≢ id) × (get_elem? s.views other ≡ some w)). t.1) (at_set s.views id other (joined v w) w there)

-- a seat is given up
pub joins : (id : ℕ) (v : View) (other : ℕ) (w : View) → Joins Ticks id v other w (joined v w) spent
joins id v other w s r at apart there = let n : ℕ = shown s in let seats : ℕ = length s.views in let f : Fits n seats v = r.each id v at in
    let g : Fits n seats w = r.each other w (joined_there s r id v other w apart there) in let once : List View = set s.views id (joined v w) in let views' : List View = set once other spent in
    let both : Fits n (length views') (joined v w) = record { told = (let a = f.told in let b = g.told in omega arith); found = f.found; rising = f.rising; alone = λ (lone : false ≡ true). cc } in
    let gone : Fits n (length views') spent = record { told = omega arith; found = λ k d h. absurd (omega arith); rising = λ i j d le h. absurd (omega arith); alone = λ (lone : false ≡ true). cc } in record {
      wide = r.wide;
      each = λ j u here. ⊎_elim (λ (t : (j ≡ other) × (spent ≡ u)). subst (Fits n (length views')) t.1 gone)
          (λ (t : (j ≢ other) × (get_elem? once j ≡ some u)). ⊎_elim (λ (p : (j ≡ id) × (joined v w ≡ u)). subst (Fits n (length views')) p.1 both)
          (λ (p : (j ≢ id) × (get_elem? s.views j ≡ some u)). company n n seats (length views') u (omega arith) (not_alone s r id j v u at p.1 p.0) (r.each j u p.1))
          (at_set s.views id j (joined v w) u t.1)) (at_set once other j spent u here);
    }

-- what an age brings after its load found n
pub brings : (n : ℕ) (v : View) (cs : List (ℕ × Unit {0})) (m : M) → m ≡ (found v n, cs) → Shows v n → n ≢ last_age → m.0.sole ≡ true → n + 1 ≡ min (m.0.ages + 1) last_age
brings n v cs m now told short lone = let ages : m.0.ages ≡ v.ages = ap (λ (x : M). x.0.ages) now in
    let h = told.alone (sym (ap (λ (x : M). x.0.sole) now) ∙ lone) in omega arith

-- the finds of an age's load and of its fetch
pub two_finds : (n r k : ℕ) (v : View) (cs : List (ℕ × Unit {0})) (m m' : M) → m ≡ (found v n, cs) → m' ≡ (older (answered (found m.0 r) k), m.1) → m'.0.finds ≡ v.finds ++ n ∷ r ∷ []
two_finds n r k v cs m m' now after = ap (λ (x : M). x.0.finds) after ∙ (ap (λ (x : M). x.0.finds ++ r ∷ []) now ∙ append_assoc v.finds (n ∷ []) (r ∷ []))
