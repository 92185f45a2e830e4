-- A seat that gives a number to a new one, and a seat that takes in another, keep the rule of a turn's table.
use Rattle.std.proofs.Common.{◌≡◌, ◌≢◌, ℕ, zero, suc, ◌<◌, ◌⊎◌, Bool, true, false, cond, eqb, List, [], ◌∷◌, ◌++◌, length, set, sym, refl, ap, ◌∙◌, subst, inl, inr, ⊎_elim, arith, length-set, append-nil, eq-eqb, ne_eqb, true≢false, Option}
use mathlib.Core.Option.{some, some-injective, some-ne-none}
use mathlib.Core.Logic.{dite}
use native.Mathlib.Decide.{ℕ_discrete}
use lib.ListN.{get_elem?}
use Rattle.atomic_table.specs.Table.{State, Splits, Joins}
use Rattle.atomic_table.proofs.Lists.{at_set, set_here, set_else, at_longer}
use Rattle.up_model.specs.declared.entry.Entry.{Entry}
use Rattle.up_turn.specs.Placing.{Placed, placed, by, has, without}
use Rattle.up_turn.specs.Standing.{Counts}
use Rattle.up_turn.specs.Turned.{Fits, Turned}
use Rattle.up_turn.specs.SeatSteps.{lacks, only, united, spent}
use Rattle.up_turn.specs.declared.view.View.{View}
use Rattle.up_turn.proofs.Placings.{two, not_both, by_append, begins_same, begins_none, begins_long, between, IsLonger, longer_of, longer_first, has_append, without_it, without_other}
use Rattle.up_turn.proofs.Views.{others_fit, none_found, none_falls, blank_fits}
use Rattle.up_turn.proofs.Keeps.{within}

-- what stands in a list that got one more at its end
at_end : {A : Type 0} (l : List A) (a b : A) (j : ℕ) → get_elem? (l ++ a ∷ []) j ≡ some b → (get_elem? l j ≡ some b) ⊎ ((j ≡ length l) × (a ≡ b))
at_end [] a b zero e = inr (refl, some-injective a b e)
at_end [] a b (suc j) e = absurd (some-ne-none b (sym e))
at_end (x ∷ xs) a b zero e = inl e
at_end (x ∷ xs) a b (suc j) e = ⊎_elim (λ (h : get_elem? xs j ≡ some b). inl h) (λ (h : (j ≡ length xs) × (a ≡ b)). let same : suc j ≡ length (x ∷ xs) = ap suc h.0 in inr (same, h.1)) (at_end xs a b j e)

one_number : (who n : ℕ) → has (who ∷ []) n ≡ true → n ≡ who
one_number who n h = dite (ℕ_discrete who n) (λ (same : who ≡ n). sym same)
    (λ (other : who ≢ n). absurd (true≢false (sym h ∙ ap (λ (b : Bool). cond b true false) (ne_eqb who n other))))

module _ {S : Type 0} (kin : S → Type 0) (list : S → List Entry) (actors id who : ℕ) (v : View) (holds : has v.numbers who ≡ true) (fresh : by who v.own ≡ []) (counts : Counts v.first (without who v.numbers)) (s : State (Option S) View) (r : Turned kin list actors s)
    (at : get_elem? s.views id ≡ some v) where
  abbrev kept : List View
  kept = set s.views id (lacks who v)

  abbrev new : ℕ
  new = length s.views

  -- the new seat holds the number
  abbrev owners : ℕ → ℕ
  owners n = cond (eqb n who) new (r.owner n)

  owner_here : (n : ℕ) → n ≡ who → owners n ≡ new
  owner_here n same = ap (λ (b : Bool). cond b new (r.owner n)) (eq-eqb n who same)

  owner_else : (n : ℕ) → n ≢ who → owners n ≡ r.owner n
  owner_else n other = ap (λ (b : Bool). cond b new (r.owner n)) (ne_eqb n who other)

  mine : Fits r.log r.held r.holder r.root actors r.owner id v
  mine = r.each id v at

  -- what it still holds is another number
  still : (n : ℕ) → has (without who v.numbers) n ≡ true → (n ≢ who) × (has v.numbers n ≡ true)
  still n h = let other : n ≢ who = (λ (same : n ≡ who). not_both (ap (has (without who v.numbers)) (sym same) ∙ h) (without_it who v.numbers)) in (other, sym (without_other who v.numbers n other) ∙ h)

  left_fits : Fits r.log r.held r.holder r.root actors owners id (lacks who v)
  left_fits = record {
    seen = mine.seen;
    mine = λ n h. let t = still n h in let m = mine.mine n t.1 in record { held = owner_else n t.0 ∙ m.held; under = m.under; all = m.all };
    tally = record {
      mine = λ n h. mine.tally.mine n (still n h).1;
      others = λ n h. dite (ℕ_discrete n who) (λ (same : n ≡ who). ap (λ (k : ℕ). by k v.own) same ∙ fresh) (λ (other : n ≢ who). mine.tally.others n (sym (without_other who v.numbers n other) ∙ h));
    };
    one = mine.one;
    other = mine.other;
    first = mine.first;
    inside = λ in_it. let i = mine.inside in_it in record { taken = i.taken; alone = i.alone; all = i.all; counts = counts };
    found = mine.found;
    rising = mine.rising;
  }

  new_fits : Fits r.log r.held r.holder r.root actors owners new (only who v)
  new_fits = record {
    seen = mine.seen;
    mine = λ n h. let same = one_number who n h in let m = mine.mine who holds in record {
      held = owner_here n same;
      under = subst (λ (k : ℕ). k < actors) (sym same) m.under;
      all = subst (λ (k : ℕ). [] ≡ by k (placed 0 r.log)) (sym same) (sym fresh ∙ m.all);
    };
    tally = record { mine = λ n h. subst (λ (k : ℕ). [] ≡ by k (placed 0 v.seen)) (sym (one_number who n h)) (sym fresh ∙ mine.tally.mine who holds); others = λ n h. refl };
    one = begins_none v.seen;
    other = begins_none v.seen;
    first = λ (h : false ≡ true). absurd (true≢false (sym h));
    inside = λ (h : false ≡ true). absurd (true≢false (sym h));
    found = none_found (length r.log);
    rising = none_falls;
  }

  else_fits : (j : ℕ) (u : View) → j ≢ id → get_elem? s.views j ≡ some u → Fits r.log r.held r.holder r.root actors owners j u
  else_fits j u far there = others_fit r.log r.log r.held r.held r.holder r.holder r.root r.root actors r.owner owners j u (begins_same r.log)
      (λ n has_it e. owner_else n (λ (same : n ≡ who). far (sym e ∙ (ap r.owner same ∙ (mine.mine who holds).held))) ∙ e) (λ n has_it e. refl) (λ is e. e) (λ i. i) (r.each j u there)

  pub cut : Turned kin list actors record { words = s.words; homes = s.homes; views = kept ++ only who v ∷ [] }
  cut = record {
    log = r.log;
    held = r.held;
    holder = r.holder;
    root = r.root;
    owner = owners;
    word = r.word;
    bit = r.bit;
    slots = r.slots;
    free = r.free;
    busy = λ taken. let h = r.busy taken in dite (ℕ_discrete r.holder id)
        (λ (me : r.holder ≡ id). let both : some h.view ≡ some v = sym h.there ∙ (ap (get_elem? s.views) me ∙ at) in record {
          view = lacks who v;
          there = at_longer kept (only who v ∷ []) r.holder (lacks who v) (ap (get_elem? kept) me ∙ set_here s.views id (lacks who v) (within s.views id v at));
          inside = ap (λ (x : View). x.inside) (sym (some-injective h.view v both)) ∙ h.inside;
        })
        (λ (other : r.holder ≢ id). record { view = h.view; there = at_longer kept (only who v ∷ []) r.holder h.view (set_else s.views id r.holder (lacks who v) other ∙ h.there); inside = h.inside });
    known = r.known;
    each = λ j u there. ⊎_elim
        (λ (t : get_elem? kept j ≡ some u). ⊎_elim
        (λ (p : (j ≡ id) × (lacks who v ≡ u)). subst (λ (z : ℕ × View). Fits r.log r.held r.holder r.root actors owners z.0 z.1) (λ i. (sym p.0 i, p.1 i)) left_fits)
        (λ (p : (j ≢ id) × (get_elem? s.views j ≡ some u)). else_fits j u p.0 p.1) (at_set s.views id j (lacks who v) u t))
        (λ (t : (j ≡ length kept) × (only who v ≡ u)). let where_is : new ≡ j = sym (t.0 ∙ length-set s.views id (lacks who v)) in
        subst (λ (z : ℕ × View). Fits r.log r.held r.holder r.root actors owners z.0 z.1) (λ i. (where_is i, t.1 i)) new_fits)
        (at_end kept (only who v) u j there);
  }

pub splits : {S : Type 0} (kin : S → Type 0) (list : S → List Entry) (actors id who : ℕ) (v : View) → has v.numbers who ≡ true → by who v.own ≡ [] → Counts v.first (without who v.numbers) → Splits (Turned kin list actors) id v (lacks who v) (only who v)
splits kin list actors id who v holds fresh counts s r at = cut kin list actors id who v holds fresh counts s r at

-- a seat takes in another, which is outside
module _ {S : Type 0} (kin : S → Type 0) (list : S → List Entry) (actors id : ℕ) (v : View) (other : ℕ) (w : View) (outside : w.inside ≡ false) (s : State (Option S) View) (r : Turned kin list actors s)
    (at : get_elem? s.views id ≡ some v) (apart : other ≢ id) (there : get_elem? s.views other ≡ some w) where
  abbrev both : View
  both = united v w

  abbrev once : List View
  once = set s.views id both

  abbrev heirs : ℕ → ℕ
  heirs n = cond (has w.numbers n) id (r.owner n)

  heir_here : (n : ℕ) → has w.numbers n ≡ true → heirs n ≡ id
  heir_here n h = ap (λ (b : Bool). cond b id (r.owner n)) h

  heir_else : (n : ℕ) → has w.numbers n ≡ false → heirs n ≡ r.owner n
  heir_else n h = ap (λ (b : Bool). cond b id (r.owner n)) h

  abbrev first_now : ℕ
  first_now = cond w.first id r.root

  f : Fits r.log r.held r.holder r.root actors r.owner id v
  f = r.each id v at

  g : Fits r.log r.held r.holder r.root actors r.owner other w
  g = r.each other w there

  l : IsLonger v.seen w.seen r.log
  l = longer_of v.seen w.seen r.log f.seen g.seen

  -- a number is held by one of the two
  not_theirs : (n : ℕ) → has v.numbers n ≡ true → has w.numbers n ≡ false
  not_theirs n h = ⊎_elim (λ (it : has w.numbers n ≡ true). absurd (apart (sym (g.mine n it).held ∙ (f.mine n h).held))) (λ (it : has w.numbers n ≡ false). it) (two (has w.numbers n))

  which : (n : ℕ) → has both.numbers n ≡ true → ((has v.numbers n ≡ true) × (has w.numbers n ≡ false)) ⊎ ((has v.numbers n ≡ false) × (has w.numbers n ≡ true))
  which n h = ⊎_elim (λ (it : has v.numbers n ≡ true). inl (it, not_theirs n it))
      (λ (it : has v.numbers n ≡ false). inr (it, sym (ap (λ (b : Bool). cond b true (has w.numbers n)) it) ∙ (sym (has_append v.numbers w.numbers n) ∙ h))) (two (has v.numbers n))

  neither : (n : ℕ) → has both.numbers n ≡ false → (has v.numbers n ≡ false) × (has w.numbers n ≡ false)
  neither n h = ⊎_elim (λ (it : has v.numbers n ≡ true). absurd (true≢false (sym (ap (λ (b : Bool). cond b true (has w.numbers n)) it) ∙ (sym (has_append v.numbers w.numbers n) ∙ h))))
      (λ (it : has v.numbers n ≡ false). (it, sym (ap (λ (b : Bool). cond b true (has w.numbers n)) it) ∙ (sym (has_append v.numbers w.numbers n) ∙ h))) (two (has v.numbers n))

  by_first : (n : ℕ) → by n w.own ≡ [] → by n both.own ≡ by n v.own
  by_first n none = by_append n v.own w.own ∙ (ap (λ (ps : List Placed). by n v.own ++ ps) none ∙ append-nil (by n v.own))

  by_second : (n : ℕ) → by n v.own ≡ [] → by n both.own ≡ by n w.own
  by_second n none = by_append n v.own w.own ∙ ap (λ (ps : List Placed). ps ++ by n w.own) none

  all_now : (n : ℕ) → has both.numbers n ≡ true → by n both.own ≡ by n (placed 0 r.log)
  all_now n h = ⊎_elim (λ (t : (has v.numbers n ≡ true) × (has w.numbers n ≡ false)). by_first n (g.tally.others n t.1) ∙ (f.mine n t.0).all)
      (λ (t : (has v.numbers n ≡ false) × (has w.numbers n ≡ true)). by_second n (f.tally.others n t.0) ∙ (g.mine n t.1).all) (which n h)

  seen_now : (n : ℕ) → has both.numbers n ≡ true → by n both.own ≡ by n (placed 0 both.seen)
  seen_now n h = all_now n h ∙ sym (⊎_elim
      (λ (t : (has v.numbers n ≡ true) × (has w.numbers n ≡ false)). between n v.seen both.seen r.log l.one l.both (sym (f.tally.mine n t.0) ∙ (f.mine n t.0).all))
      (λ (t : (has v.numbers n ≡ false) × (has w.numbers n ≡ true)). between n w.seen both.seen r.log l.other l.both (sym (g.tally.mine n t.1) ∙ (g.mine n t.1).all)) (which n h))

  under_now : (n : ℕ) → has both.numbers n ≡ true → n < actors
  under_now n h = ⊎_elim (λ (t : (has v.numbers n ≡ true) × (has w.numbers n ≡ false)). (f.mine n t.0).under) (λ (t : (has v.numbers n ≡ false) × (has w.numbers n ≡ true)). (g.mine n t.1).under) (which n h)

  owner_now : (n : ℕ) → has both.numbers n ≡ true → heirs n ≡ id
  owner_now n h = ⊎_elim (λ (t : (has v.numbers n ≡ true) × (has w.numbers n ≡ false)). heir_else n t.1 ∙ (f.mine n t.0).held) (λ (t : (has v.numbers n ≡ false) × (has w.numbers n ≡ true)). heir_here n t.1) (which n h)

  counts_first : (b : Bool) → b ≡ true → Counts (cond b true w.first) both.numbers
  counts_first b h = inl (ap (λ (x : Bool). cond x true w.first) h)

  counts_now : Counts v.first v.numbers → Counts both.first both.numbers
  counts_now c = ⊎_elim (counts_first v.first) (λ (t : (n : ℕ) × (has v.numbers n ≡ true)). inr (t.0, has_append v.numbers w.numbers t.0 ∙ ap (λ (b : Bool). cond b true (has w.numbers t.0)) t.1)) c

  root_now : (a b : Bool) → (a ≡ true → r.root ≡ id) → cond a true b ≡ true → cond b id r.root ≡ id
  root_now a true h e = refl
  root_now true false h e = h refl
  root_now false false h e = absurd (true≢false (sym e))

  both_fits : Fits r.log r.held r.holder first_now actors heirs id both
  both_fits = record {
    seen = l.both;
    mine = λ n h. record { held = owner_now n h; under = under_now n h; all = all_now n h };
    tally = record { mine = seen_now; others = λ n h. let t = neither n h in by_first n (g.tally.others n t.1) ∙ f.tally.others n t.0 };
    one = l.one;
    other = l.other;
    first = root_now v.first w.first f.first;
    inside = λ in_it. let i = f.inside in_it in record {
      taken = i.taken;
      alone = i.alone;
      all = i.all ∙ sym (longer_first v.seen w.seen (let low = begins_long w.seen r.log g.seen in let same = ap length i.all in omega arith));
      counts = counts_now i.counts;
    };
    found = f.found;
    rising = f.rising;
  }

  root_else : (j : ℕ) (b : Bool) → (b ≡ true → r.root ≡ other) → j ≢ other → r.root ≡ j → cond b id r.root ≡ j
  root_else j true h far e = absurd (far (sym e ∙ h refl))
  root_else j false h far e = e

  rest_fits : (j : ℕ) (u : View) → j ≢ other → get_elem? s.views j ≡ some u → Fits r.log r.held r.holder first_now actors heirs j u
  rest_fits j u far here = others_fit r.log r.log r.held r.held r.holder r.holder r.root first_now actors r.owner heirs j u (begins_same r.log)
      (λ n has_it e. heir_else n (⊎_elim (λ (it : has w.numbers n ≡ true). absurd (far (sym e ∙ (g.mine n it).held))) (λ (it : has w.numbers n ≡ false). it) (two (has w.numbers n))) ∙ e)
      (λ n has_it e. refl) (λ is e. root_else j w.first g.first far e) (λ i. i) (r.each j u here)

  pub glued : Turned kin list actors record { words = s.words; homes = s.homes; views = set once other spent }
  glued = record {
    log = r.log;
    held = r.held;
    holder = r.holder;
    root = first_now;
    owner = heirs;
    word = r.word;
    bit = r.bit;
    slots = r.slots;
    free = r.free;
    busy = λ taken. let h = r.busy taken in let far : r.holder ≢ other = (λ (e : r.holder ≡ other). let same : some h.view ≡ some w = sym h.there ∙ (ap (get_elem? s.views) e ∙ there) in
        not_both h.inside (ap (λ (x : View). x.inside) (some-injective h.view w same) ∙ outside)) in dite (ℕ_discrete r.holder id)
        (λ (me : r.holder ≡ id). let same : some h.view ≡ some v = sym h.there ∙ (ap (get_elem? s.views) me ∙ at) in record {
          view = both;
          there = set_else once other r.holder spent far ∙ (ap (get_elem? once) me ∙ set_here s.views id both (within s.views id v at));
          inside = ap (λ (x : View). x.inside) (sym (some-injective h.view v same)) ∙ h.inside;
        })
        (λ (else : r.holder ≢ id). record { view = h.view; there = set_else once other r.holder spent far ∙ (set_else s.views id r.holder both else ∙ h.there); inside = h.inside });
    known = r.known;
    each = λ j u here. ⊎_elim
        (λ (t : (j ≡ other) × (spent ≡ u)). subst (Fits r.log r.held r.holder first_now actors heirs j) t.1 (blank_fits r.log r.held r.holder first_now actors heirs j))
        (λ (t : (j ≢ other) × (get_elem? once j ≡ some u)). ⊎_elim
        (λ (p : (j ≡ id) × (both ≡ u)). subst (λ (z : ℕ × View). Fits r.log r.held r.holder first_now actors heirs z.0 z.1) (λ i. (sym p.0 i, p.1 i)) both_fits)
        (λ (p : (j ≢ id) × (get_elem? s.views j ≡ some u)). rest_fits j u t.0 p.1) (at_set s.views id j both u t.1))
        (at_set once other j spent u here);
  }

pub joins : {S : Type 0} (kin : S → Type 0) (list : S → List Entry) (actors id : ℕ) (v : View) (other : ℕ) (w : View) → w.inside ≡ false → Joins (Turned kin list actors) id v other w (united v w) spent
joins kin list actors id v other w outside s r at apart there = glued kin list actors id v other w outside s r at apart
    (⊎_elim (λ (t : (other ≡ id) × (united v w ≡ w)). absurd (apart t.0)) (λ (t : (other ≢ id) × (get_elem? s.views other ≡ some w)). t.1) (at_set s.views id other (united v w) w there))
