-- A turn's beginning and its end.
use Rattle.std.proofs.Common.{◌≡◌, ◌≢◌, ℕ, zero, suc, ◌+◌, ◌<◌, ◌≤◌, true, false, List, [], ◌∷◌, ◌++◌, length, sym, refl, ap, ◌∙◌, subst, ⊎_elim, arith, true≢false, Option, Some, IsPermutation, IsSome, rules, length-append}
use Rattle.std.proofs.lemmas.List.Sorted.{length_permutation, IsPermutation-refl, IsPermutation-sym, IsPermutation-cons, IsPermutation-trans, IsPermutation-middle}
use mathlib.Core.Option.{some, some-injective, some-ne-none}
use mathlib.Core.Logic.{dite}
use native.Mathlib.Decide.{ℕ_discrete, dec_lt}
use lib.ListN.{get_elem?}
use Rattle.atomic_table.specs.Table.{State, opening, Final, Seen}
use Rattle.up_model.specs.declared.entry.Entry.{Entry}
use Rattle.up_turn.specs.Placing.{Placed, placed, by, has}
use Rattle.up_turn.specs.Turned.{Fits, Turned, newcomer}
use Rattle.up_turn.specs.declared.view.View.{View}
use Rattle.up_turn.proofs.Placings.{two, not_both, by_append, by_skip, by_take, below_has, begins_none, none_before, nobody_more}
use Rattle.up_turn.proofs.Views.{none_found, none_falls}

-- lists with the same entries of each actor have the same entries

-- where a list's first entry of an actor stands
record Split (ps : List Placed) (p : Placed) (more : List Placed) : Type 0 where
  before : List Placed
  after : List Placed
  is : ps ≡ before ++ p ∷ after
  none : by p.entry.who before ≡ []
  rest : by p.entry.who after ≡ more

first_at : (ps : List Placed) (p : Placed) (more : List Placed) (who : ℕ) → p.entry.who ≡ who → by who ps ≡ p ∷ more → Split ps p more
first_at [] p more who mine e = absurd (let wrong : 0 ≡ suc (length more) = ap length e in omega arith)
first_at (q ∷ qs) p more who mine e = dite (ℕ_discrete q.entry.who who)
    (λ (same : q.entry.who ≡ who). let both : q ∷ by who qs ≡ p ∷ more = sym (by_take who q qs same) ∙ e in let head : q ≡ p = cc in let tail : by who qs ≡ more = cc in record {
      before = [];
      after = qs;
      is = ap (λ (x : Placed). x ∷ qs) head;
      none = refl;
      rest = ap (λ (k : ℕ). by k qs) mine ∙ tail;
    })
    (λ (other : q.entry.who ≢ who). let h = first_at qs p more who mine (sym (by_skip who q qs other) ∙ e) in record {
      before = q ∷ h.before;
      after = h.after;
      is = ap (λ (l : List Placed). q ∷ l) h.is;
      none = by_skip p.entry.who q h.before (λ (e : q.entry.who ≡ p.entry.who). other (e ∙ mine)) ∙ h.none;
      rest = h.rest;
    })

pub same_entries : (xs ys : List Placed) → ((n : ℕ) → by n xs ≡ by n ys) → IsPermutation xs ys
same_entries [] [] all = IsPermutation-refl []
same_entries [] (y ∷ ys) all = absurd (let wrong : 0 ≡ suc (length (by y.entry.who ys)) = ap length (all y.entry.who ∙ by_take y.entry.who y ys refl) in omega arith)
same_entries (x ∷ xs) ys all = let who : ℕ = x.entry.who in let h = first_at ys x (by who xs) who refl (sym (all who) ∙ by_take who x xs refl) in
    let fewer : (n : ℕ) → by n xs ≡ by n (h.before ++ h.after) = (λ n. dite (ℕ_discrete who n)
    (λ (same : who ≡ n). subst (λ (k : ℕ). by k xs ≡ by k (h.before ++ h.after)) same (sym (by_append who h.before h.after ∙ (ap (λ (l : List Placed). l ++ by who h.after) h.none ∙ h.rest))))
    (λ (other : who ≢ n). sym (by_skip n x xs other) ∙ (all n ∙ (ap (by n) h.is ∙ (by_append n h.before (x ∷ h.after) ∙ (ap (λ (l : List Placed). by n h.before ++ l) (by_skip n x h.after other) ∙ sym (by_append n h.before h.after))))))) in
    IsPermutation-trans (x ∷ xs) (x ∷ (h.before ++ h.after)) ys (IsPermutation-cons x xs (h.before ++ h.after) (same_entries xs (h.before ++ h.after) fewer))
    (subst (IsPermutation (x ∷ (h.before ++ h.after))) (sym h.is) (IsPermutation-sym (h.before ++ x ∷ h.after) (x ∷ (h.before ++ h.after)) (IsPermutation-middle h.before x h.after)))

-- a new turn

pub opens : {S : Type 0} (kin : S → Type 0) (list : S → List Entry) (actors : ℕ) (value : S) → list value ≡ [] → kin value → Turned kin list actors (opening (0 ∷ []) (Some value ∷ []) (newcomer actors))
opens {S} kin list actors value empty fits = record {
  log = [];
  held = 0;
  holder = 0;
  root = 0;
  owner = λ _. 0;
  word = refl;
  bit = omega arith;
  slots = refl;
  free = λ _. record { value = value; there = refl; is = empty; fits = fits };
  busy = λ (h : 0 ≡ 1). absurd (omega arith);
  known = λ n high. refl;
  each = λ j u there. let t = only j u there in subst (λ (z : ℕ × View). Fits [] 0 0 0 actors (λ _. 0) z.0 z.1) (λ i. (sym t.0 i, t.1 i)) mine;
} where
  only : (j : ℕ) (u : View) → get_elem? (newcomer actors ∷ []) j ≡ some u → (j ≡ 0) × (newcomer actors ≡ u)
  only zero u e = (refl, some-injective (newcomer actors) u e)
  only (suc j) u e = absurd (some-ne-none u (sym e))

  mine : Fits [] 0 0 0 actors (λ _. 0) 0 (newcomer actors)
  mine = record {
    seen = begins_none [];
    mine = λ n h. record { held = refl; under = below_has actors n h; all = refl };
    tally = record { mine = λ n h. refl; others = λ n h. refl };
    one = begins_none [];
    other = begins_none [];
    first = λ _. refl;
    inside = λ (h : false ≡ true). absurd (true≢false (sym h));
    found = none_found 0;
    rising = none_falls;
  }

-- what a turn is closed with: the value, whose list was seen whole, with all entries the pass's own
pub record Closes {S : Type 0} (kin : S → Type 0) (list : S → List Entry) (v : View) (xs : List (Option S)) : Type 0 where
  pub value : S
  pub there : get_elem? xs 0 ≡ some (Some value)
  pub fits : kin value
  pub is : list value ≡ v.seen
  pub own : (n : ℕ) → by n v.own ≡ by n (placed 0 (list value))
  pub each_once : IsPermutation v.own (placed 0 (list value))

module _ {S : Type 0} (kin : S → Type 0) (list : S → List Entry) (actors id : ℕ) (v : View) (ws : List ℕ) (xs : List (Option S)) (end : Final (Seen (Turned kin list actors) id v) ws xs)
    (outside : v.inside ≡ false) (first : v.first ≡ true) (all : (n : ℕ) → n < actors → has v.numbers n ≡ true) where
  abbrev s : State (Option S) View
  s = end.0

  abbrev r : Turned kin list actors s
  r = end.1.0

  f : Fits r.log r.held r.holder r.root actors r.owner id v
  f = r.each id v end.1.1

  -- whoever is inside counts, and all that counts is with this pass
  holder_is : (u : View) → get_elem? s.views r.holder ≡ some u → u.inside ≡ true → r.holder ≡ id
  holder_is u there inside = let g = r.each r.holder u there in ⊎_elim (λ (it : u.first ≡ true). sym (g.first it) ∙ f.first first)
      (λ (t : (n : ℕ) × (has u.numbers n ≡ true)). let m = g.mine t.0 t.1 in sym m.held ∙ (f.mine t.0 (all t.0 m.under)).held) (g.inside inside).counts

  nobody_in : r.held ≡ 0
  nobody_in = dite (ℕ_discrete r.held 0) (λ (e : r.held ≡ 0). e) (λ (other : r.held ≢ 0). let small = r.bit in let one : r.held ≡ 1 = omega arith in let h = r.busy one in
      let same : some h.view ≡ some v = sym h.there ∙ (ap (get_elem? s.views) (holder_is h.view h.there h.inside) ∙ end.1.1) in
      absurd (not_both (ap (λ (x : View). x.inside) (sym (some-injective h.view v same)) ∙ h.inside) outside))

  by_everybody : (n : ℕ) → by n v.own ≡ by n (placed 0 r.log)
  by_everybody n = dite (dec_lt n actors) (λ (low : n < actors). (f.mine n (all n low)).all)
      (λ not_low. let high : actors ≤ n = omega arith in ⊎_elim (λ (it : has v.numbers n ≡ true). (f.mine n it).all) (λ (it : has v.numbers n ≡ false). f.tally.others n it ∙ sym (r.known n high)) (two (has v.numbers n)))

  seen_by_everybody : (n : ℕ) → by n (placed 0 v.seen) ≡ by n (placed 0 r.log)
  seen_by_everybody n = ⊎_elim (λ (it : has v.numbers n ≡ true). sym (f.tally.mine n it) ∙ (f.mine n it).all)
      (λ (it : has v.numbers n ≡ false). dite (dec_lt n actors) (λ (low : n < actors). absurd (not_both (all n low) it))
      (λ not_low. let high : actors ≤ n = omega arith in let none = r.known n high in none_before n v.seen r.log f.seen none ∙ sym none))
      (two (has v.numbers n))

  pub closes : Closes kin list v xs
  closes = let h = r.free nobody_in in let seen : list h.value ≡ v.seen = h.is ∙ nobody_more v.seen r.log f.seen seen_by_everybody in let own : (n : ℕ) → by n v.own ≡ by n (placed 0 (list h.value)) = (λ n. by_everybody n ∙ ap (λ (l : List Entry). by n (placed 0 l)) (sym h.is)) in record {
    value = h.value;
    there = end.4 0 (Some h.value) h.there;
    fits = h.fits;
    is = seen;
    own = own;
    each_once = same_entries v.own (placed 0 (list h.value)) own;
  }

-- the value that was found in the slot
pub record Out {S : Type 0} (kin : S → Type 0) (list : S → List Entry) (v : View) (x : S) : Type 0 where
  pub fits : kin x
  pub is : list x ≡ v.seen
  pub own : (n : ℕ) → by n v.own ≡ by n (placed 0 (list x))
  pub each_once : IsPermutation v.own (placed 0 (list x))

pub is_some_of : {S : Type 0} (x : S) (o : Option S) → Some x ≡ o → IsSome o
is_some_of x o e = subst IsSome e (search rules)

pub slot_has : {S : Type 0} (kin : S → Type 0) (list : S → List Entry) (v : View) (xs : List (Option S)) (e : Closes kin list v xs) (o : Option S) → get_elem? xs 0 ≡ some o → Some e.value ≡ o
slot_has kin list v xs e o found = some-injective (Some e.value) o (sym e.there ∙ found)

pub comes_out : {S : Type 0} (kin : S → Type 0) (list : S → List Entry) (v : View) (xs : List (Option S)) (e : Closes kin list v xs) (o : Option S) → get_elem? xs 0 ≡ some o → (x : S) → o ≡ Some x → Out kin list v x
comes_out {S} kin list v xs e o found x is = let both : Some e.value ≡ Some x = slot_has kin list v xs e o found ∙ is in let same : e.value ≡ x = cc in
    subst (Out kin list v) same record { fits = e.fits; is = e.is; own = e.own; each_once = e.each_once }

pub length_placed : (from : ℕ) (xs : List Entry) → length (placed from xs) ≡ length xs
length_placed from [] = refl
length_placed from (x ∷ xs) = ap suc (length_placed (from + 1) xs)

-- a list whose entries are two passes' own, of one entry each
pub two_entries : (log : List Entry) (own a b a0 b0 : List Placed) (p q : Placed) → IsPermutation own (placed 0 log) → own ≡ a ++ b → a ≡ a0 ++ p ∷ [] → b ≡ b0 ++ q ∷ [] → a0 ≡ [] → b0 ≡ [] → length log ≡ 2
two_entries log own a b a0 b0 p q all is one other none nothing =
    let long : length (placed 0 log) ≡ length own = length_permutation own (placed 0 log) all in
    let both : length own ≡ length a + length b = ap length is ∙ length-append a b in
    let first : length a ≡ length a0 + 1 = ap length one ∙ length-append a0 (p ∷ []) in
    let second : length b ≡ length b0 + 1 = ap length other ∙ length-append b0 (q ∷ []) in
    let empty : length a0 ≡ 0 = ap length none in let bare : length b0 ≡ 0 = ap length nothing in
    let as_long : length (placed 0 log) ≡ length log = length_placed 0 log in omega arith
