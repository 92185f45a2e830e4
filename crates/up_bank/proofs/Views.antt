-- A seat that is cut in two, and a seat that takes in another, keep the rule.
use Rattle.std.proofs.Common.{◌≡◌, ◌≢◌, ℕ, suc, ◌<◌, true, false, List, [], ◌∷◌, ◌++◌, length, get_or, set, sym, refl, ap, ◌∙◌, subst, ⊎_elim, arith, length-set, length-append, append-nil, Bool, cond, nat_lt, ◌+◌, ◌≤◌}
use Rattle.std.proofs.lemmas.Bool.{le-ltb, lt-ltb}
use mathlib.Core.Logic.{dite}
use mathlib.Core.Option.{some, some-injective}
use native.Mathlib.Decide.{ℕ_discrete, dec_lt}
use lib.ListN.{get_elem?}
use Rattle.atomic_table.specs.Table.{Splits, Joins}
use Rattle.atomic_table.proofs.Lists.{at_set, set_here, set_else, at_longer, at_last}
use Rattle.up_bank.specs.Bytes.{Given, Extends, longer}
use Rattle.up_bank.specs.SeatSteps.{shed, framed, parted, second, united, merged, spent}
use Rattle.up_bank.specs.Banked.{Vault, home_bit, Has, Alone, Met, Lent, Banked}
use Rattle.up_bank.specs.declared.view.View.{View}
use Rattle.up_bank.proofs.Lists.{within, at_yes, at_no, at_end, extends_none}
use Rattle.up_bank.proofs.OneFrameMoves.{nobody_sole, token_stays, far_lender, no_token}

-- a seat that knows of no return
pub none_met : {v : View} → v.gives ≡ [] → v.one ≡ [] → v.other ≡ [] → Met v
none_met {v} gives one other = record { one = record { newer = []; is = gives ∙ sym one }; other = record { newer = []; is = gives ∙ sym other } }

-- a view cut in two: what it had goes to the second
pub record Cuts (v left right : View) : Type 0 where
  pub acts : v.rests ≡ false
  pub bare : left.has ≡ 0
  pub has : right.has ≡ v.has
  pub empty : right.empty ≡ v.empty
  pub sole : left.sole ≡ true → (v.sole ≡ true) × (right.rests ≡ true) × (left.home ≡ v.home) × (left.gives ≡ v.gives)
  pub busy : right.sole ≡ true → ⊥
  pub left_seen : (gs : List Given) → Extends v.gives gs → Extends left.gives gs
  pub right_seen : (gs : List Given) → Extends v.gives gs → Extends right.gives gs
  pub left_met : Met v → Met left
  pub right_met : Met v → Met right
  pub left_token : left.token ≡ v.token
  pub right_token : (q : ℕ) → right.token ≡ suc q → v.token ≡ suc q

module _ (frames id : ℕ) (v left right : View) (cut : Cuts v left right) (s : Vault) (r : Banked frames s) (at : get_elem? s.views id ≡ some v) where
  abbrev kept : List View
  kept = set s.views id left

  abbrev cut_now : Vault
  cut_now = record { words = s.words; homes = s.homes; views = kept ++ right ∷ [] }

  -- the new seat has what the old one had
  abbrev heir : ℕ → ℕ
  heir q = dite (ℕ_discrete (r.owner q) id) (λ _. length s.views) (λ _. r.owner q)

  heir_here : (q : ℕ) → r.owner q ≡ id → heir q ≡ length s.views
  heir_here q e = at_yes (ℕ_discrete (r.owner q) id) e (length s.views) (r.owner q)

  heir_else : (q : ℕ) → r.owner q ≢ id → heir q ≡ r.owner q
  heir_else q other = at_no (ℕ_discrete (r.owner q) id) other (length s.views) (r.owner q)

  -- each seat is the one that stays, the new one, or another
  which : (T : Type 0) (j : ℕ) (u : View) → get_elem? cut_now.views j ≡ some u → ((j ≡ id) × (left ≡ u) → T) → ((j ≡ length s.views) × (right ≡ u) → T) → ((j ≢ id) × (get_elem? s.views j ≡ some u) → T) → T
  which T j u there stays new others = ⊎_elim (λ (t : get_elem? kept j ≡ some u). ⊎_elim stays others (at_set s.views id j left u t))
      (λ (t : (j ≡ length kept) × (right ≡ u)). new (t.0 ∙ length-set s.views id left, t.1)) (at_end kept right u j there)

  out_cut : (q : ℕ) → q < frames → home_bit s.words q ≡ 0 → (u : View) × (get_elem? cut_now.views (heir q) ≡ some u) × (u.has ≡ suc q)
  out_cut q l bit = let o = r.out q l bit in dite (ℕ_discrete (r.owner q) id)
      (λ (e : r.owner q ≡ id). let both : some o.0 ≡ some v = sym o.1 ∙ (ap (get_elem? s.views) e ∙ at) in
      (right, ap (get_elem? cut_now.views) (heir_here q e) ∙ at_last kept right (length s.views) (length-set s.views id left), cut.has ∙ (ap (λ (x : View). x.has) (sym (some-injective o.0 v both)) ∙ o.2)))
      (λ (other : r.owner q ≢ id). (o.0, ap (get_elem? cut_now.views) (heir_else q other) ∙ at_longer kept (right ∷ []) (r.owner q) o.0 (set_else s.views id (r.owner q) left other ∙ o.1), o.2))

  each_cut : (j : ℕ) (u : View) → get_elem? cut_now.views j ≡ some u → (q : ℕ) → u.has ≡ suc q → Has frames q s.words (heir q) j u
  each_cut j u there q has = which (Has frames q s.words (heir q) j u) j u there
      (λ t. let wrong : 0 ≡ suc q = sym cut.bare ∙ (ap (λ (x : View). x.has) t.1 ∙ has) in absurd (omega arith))
      (λ t. let h = r.each id v at q (sym cut.has ∙ (ap (λ (x : View). x.has) t.1 ∙ has)) in record {
        within = h.within;
        gone = h.gone;
        mine = heir_here q h.mine ∙ sym t.0;
        empty = h.empty ∙ (sym cut.empty ∙ ap (λ (x : View). x.empty) t.1);
      })
      (λ t. let h = r.each j u t.1 q has in record { within = h.within; gone = h.gone; mine = heir_else q (λ e. t.0 (sym h.mine ∙ e)) ∙ h.mine; empty = h.empty })

  seen_cut : (j : ℕ) (u : View) → get_elem? cut_now.views j ≡ some u → Extends u.gives r.gives
  seen_cut j u there = let was = r.seen id v at in which (Extends u.gives r.gives) j u there (λ t. subst (λ (x : View). Extends x.gives r.gives) t.1 (cut.left_seen r.gives was))
      (λ t. subst (λ (x : View). Extends x.gives r.gives) t.1 (cut.right_seen r.gives was)) (λ t. r.seen j u t.1)

  sole_left : left.sole ≡ true → Alone frames id left cut_now r.gives
  sole_left sole = let c = cut.sole sole in let a = r.sole id v at c.0 in record {
    others = λ i x there other. which (x.rests ≡ true) i x there (λ t. absurd (other t.0)) (λ t. ap (λ (y : View). y.rests) (sym t.1) ∙ c.1) (λ t. a.others i x t.1 other);
    long = ap length c.2 ∙ a.long;
    knows = λ q l. ap (λ (h : List ℕ). get_or h q 0) c.2 ∙ a.knows q l;
    all = c.3 ∙ a.all;
  }

  sole_cut : (j : ℕ) (u : View) → get_elem? cut_now.views j ≡ some u → u.sole ≡ true → Alone frames j u cut_now r.gives
  sole_cut j u there sole = which (Alone frames j u cut_now r.gives) j u there
      (λ t. subst (λ (z : ℕ × View). Alone frames z.0 z.1 cut_now r.gives) (λ i. (sym t.0 i, t.1 i)) (sole_left (ap (λ (x : View). x.sole) t.1 ∙ sole)))
      (λ t. absurd (cut.busy (ap (λ (x : View). x.sole) t.1 ∙ sole)))
      (λ t. absurd (nobody_sole frames s r id j v u at cut.acts t.1 t.0 sole))

  tokens_cut : (j : ℕ) (u : View) → get_elem? cut_now.views j ≡ some u → (q : ℕ) → u.token ≡ suc q → Lent q (r.keeper q) (heir q) cut_now.views j u
  tokens_cut j u there q is = which (Lent q (r.keeper q) (heir q) cut_now.views j u) j u there
      (λ t. absurd (no_token frames s r id v at cut.acts q (sym cut.left_token ∙ (ap (λ (x : View). x.token) t.1 ∙ is))))
      (λ t. absurd (no_token frames s r id v at cut.acts q (cut.right_token q (ap (λ (x : View). x.token) t.1 ∙ is))))
      (λ t. let l = r.tokens j u t.1 q is in let far = far_lender q (r.keeper q) (r.owner q) s.views j u l id v at cut.acts in
      token_stays q (r.keeper q) (r.keeper q) (r.owner q) (heir q) s.views cut_now.views j u l refl (heir_else q far)
      (at_longer kept (right ∷ []) (r.owner q) l.lender (set_else s.views id (r.owner q) left far ∙ l.there) ∙ sym l.there))

  pub cut_in_two : Banked frames cut_now
  cut_in_two = record {
    owner = heir;
    gives = r.gives;
    wide = r.wide;
    slots = r.slots;
    home = r.home;
    empty = r.empty;
    out = out_cut;
    each = each_cut;
    seen = seen_cut;
    sole = sole_cut;
    keeper = r.keeper;
    met = λ j u there. let was = r.met id v at in which (Met u) j u there (λ t. subst Met t.1 (cut.left_met was)) (λ t. subst Met t.1 (cut.right_met was)) (λ t. r.met j u t.1);
    tokens = tokens_cut;
  }

-- a frame gets a seat of its own
pub sheds : (frames id : ℕ) (v : View) → v.rests ≡ false → Splits (Banked frames) id v (shed v) (framed v)
sheds frames id v acts s r at = cut_in_two frames id v (shed v) (framed v) record {
  acts = acts;
  bare = refl;
  has = refl;
  empty = refl;
  sole = λ sole. (sole, refl, refl, refl);
  busy = λ (e : false ≡ true). cc;
  left_seen = λ gs x. x;
  right_seen = λ gs x. record { newer = gs; is = sym (append-nil gs) };
  left_met = λ m. record { one = m.one; other = m.other };
  right_met = λ m. none_met refl refl refl;
  left_token = refl;
  right_token = λ q (is : 0 ≡ suc q). absurd (omega arith);
} s r at

-- a second seat is made
pub parts : (frames id : ℕ) (v : View) → v.rests ≡ false → v.has ≡ 0 → v.empty ≡ 0 → Splits (Banked frames) id v (parted v) (second v)
parts frames id v acts bare full s r at = cut_in_two frames id v (parted v) (second v) record {
  acts = acts;
  bare = refl;
  has = sym bare;
  empty = sym full;
  sole = λ (e : false ≡ true). cc;
  busy = λ (e : false ≡ true). cc;
  left_seen = λ gs x. x;
  right_seen = λ gs x. x;
  left_met = λ m. record { one = m.one; other = m.other };
  right_met = λ m. record { one = m.one; other = m.other };
  left_token = refl;
  right_token = λ q is. is;
} s r at

-- a seat with no frame takes in another, which rests from then on
module _ (frames id : ℕ) (v : View) (other : ℕ) (w : View) (acts : v.rests ≡ false) (bare : v.has ≡ 0) (s : Vault) (r : Banked frames s) (at : get_elem? s.views id ≡ some v) (apart : other ≢ id)
    (there : get_elem? s.views other ≡ some w) (both : View) (has_is : both.has ≡ w.has) (empty_is : both.empty ≡ w.empty) (sole_is : both.sole ≡ v.sole) (home_is : both.home ≡ v.home)
    (seen_is : Extends both.gives r.gives) (all_is : v.sole ≡ true → both.gives ≡ v.gives) (met_is : Met both) (token_is : both.token ≡ v.token) (free : w.lent ≡ true → w.rests ≡ true → ⊥) where
  abbrev once : List View
  once = set s.views id both

  abbrev join_now : Vault
  join_now = record { words = s.words; homes = s.homes; views = set once other spent }

  -- the seat that stays has what the other had
  abbrev taker : ℕ → ℕ
  taker q = dite (ℕ_discrete (r.owner q) other) (λ _. id) (λ _. r.owner q)

  taker_here : (q : ℕ) → r.owner q ≡ other → taker q ≡ id
  taker_here q e = at_yes (ℕ_discrete (r.owner q) other) e id (r.owner q)

  taker_else : (q : ℕ) → r.owner q ≢ other → taker q ≡ r.owner q
  taker_else q else = at_no (ℕ_discrete (r.owner q) other) else id (r.owner q)

  stays_there : get_elem? join_now.views id ≡ some both
  stays_there = set_else once other id spent (λ e. apart (sym e)) ∙ set_here s.views id both (within s.views id v at)

  whose : (T : Type 0) (j : ℕ) (u : View) → get_elem? join_now.views j ≡ some u → ((j ≡ id) × (both ≡ u) → T) → ((j ≡ other) × (spent ≡ u) → T) → ((j ≢ id) × (j ≢ other) × (get_elem? s.views j ≡ some u) → T) → T
  whose T j u here stays gone others = ⊎_elim gone
      (λ (t : (j ≢ other) × (get_elem? once j ≡ some u)). ⊎_elim stays (λ (p : (j ≢ id) × (get_elem? s.views j ≡ some u)). others (p.0, t.0, p.1)) (at_set s.views id j both u t.1))
      (at_set once other j spent u here)

  out_join : (q : ℕ) → q < frames → home_bit s.words q ≡ 0 → (u : View) × (get_elem? join_now.views (taker q) ≡ some u) × (u.has ≡ suc q)
  out_join q l bit = let o = r.out q l bit in dite (ℕ_discrete (r.owner q) other)
      (λ (e : r.owner q ≡ other). let same : some o.0 ≡ some w = sym o.1 ∙ (ap (get_elem? s.views) e ∙ there) in
      (both, ap (get_elem? join_now.views) (taker_here q e) ∙ stays_there, has_is ∙ (ap (λ (x : View). x.has) (sym (some-injective o.0 w same)) ∙ o.2)))
      (λ (else : r.owner q ≢ other). let far : r.owner q ≢ id = (λ (e : r.owner q ≡ id). let same : some o.0 ≡ some v = sym o.1 ∙ (ap (get_elem? s.views) e ∙ at) in
      let wrong : 0 ≡ suc q = sym bare ∙ (ap (λ (x : View). x.has) (sym (some-injective o.0 v same)) ∙ o.2) in absurd (omega arith)) in
      (o.0, ap (get_elem? join_now.views) (taker_else q else) ∙ (set_else once other (r.owner q) spent else ∙ (set_else s.views id (r.owner q) both far ∙ o.1)), o.2))

  each_join : (j : ℕ) (u : View) → get_elem? join_now.views j ≡ some u → (q : ℕ) → u.has ≡ suc q → Has frames q s.words (taker q) j u
  each_join j u here q has = whose (Has frames q s.words (taker q) j u) j u here
      (λ t. let h = r.each other w there q (sym has_is ∙ (ap (λ (x : View). x.has) t.1 ∙ has)) in record {
        within = h.within;
        gone = h.gone;
        mine = taker_here q h.mine ∙ sym t.0;
        empty = h.empty ∙ (sym empty_is ∙ ap (λ (x : View). x.empty) t.1);
      })
      (λ t. let wrong : 0 ≡ suc q = ap (λ (x : View). x.has) t.1 ∙ has in absurd (omega arith))
      (λ t. let h = r.each j u t.2 q has in record { within = h.within; gone = h.gone; mine = taker_else q (λ e. t.1 (sym h.mine ∙ e)) ∙ h.mine; empty = h.empty })

  sole_both : both.sole ≡ true → Alone frames id both join_now r.gives
  sole_both sole = let was : v.sole ≡ true = sym sole_is ∙ sole in let a = r.sole id v at was in record {
    others = λ i x here else. whose (x.rests ≡ true) i x here (λ t. absurd (else t.0)) (λ t. ap (λ (y : View). y.rests) (sym t.1)) (λ t. a.others i x t.2 else);
    long = ap length home_is ∙ a.long;
    knows = λ q l. ap (λ (h : List ℕ). get_or h q 0) home_is ∙ a.knows q l;
    all = all_is was ∙ a.all;
  }

  tokens_join : (j : ℕ) (u : View) → get_elem? join_now.views j ≡ some u → (q : ℕ) → u.token ≡ suc q → Lent q (r.keeper q) (taker q) join_now.views j u
  tokens_join j u here q is = whose (Lent q (r.keeper q) (taker q) join_now.views j u) j u here
      (λ t. absurd (no_token frames s r id v at acts q (sym token_is ∙ (ap (λ (x : View). x.token) t.1 ∙ is))))
      (λ t. let wrong : 0 ≡ suc q = ap (λ (x : View). x.token) t.1 ∙ is in absurd (omega arith))
      (λ t. let l = r.tokens j u t.2 q is in let far = far_lender q (r.keeper q) (r.owner q) s.views j u l id v at acts in
      let else : r.owner q ≢ other = (λ (e : r.owner q ≡ other). let same : some l.lender ≡ some w = sym l.there ∙ (ap (get_elem? s.views) e ∙ there) in let it : l.lender ≡ w = some-injective l.lender w same in
      free (ap (λ (x : View). x.lent) (sym it) ∙ l.lent) (ap (λ (x : View). x.rests) (sym it) ∙ l.waits)) in
      token_stays q (r.keeper q) (r.keeper q) (r.owner q) (taker q) s.views join_now.views j u l refl (taker_else q else)
      (set_else once other (r.owner q) spent else ∙ set_else s.views id (r.owner q) both far))

  pub joined : Banked frames join_now
  joined = record {
    owner = taker;
    gives = r.gives;
    wide = r.wide;
    slots = r.slots;
    home = r.home;
    empty = r.empty;
    out = out_join;
    each = each_join;
    keeper = r.keeper;
    met = λ j u here. whose (Met u) j u here (λ t. subst Met t.1 met_is) (λ t. subst Met t.1 (none_met refl refl refl)) (λ t. r.met j u t.2);
    tokens = tokens_join;
    seen = λ j u here. whose (Extends u.gives r.gives) j u here (λ t. subst (λ (x : View). Extends x.gives r.gives) t.1 seen_is)
        (λ t. subst (λ (x : View). Extends x.gives r.gives) t.1 (record { newer = r.gives; is = sym (append-nil r.gives) })) (λ t. r.seen j u t.2);
    sole = λ j u here sole. whose (Alone frames j u join_now r.gives) j u here
        (λ t. subst (λ (z : ℕ × View). Alone frames z.0 z.1 join_now r.gives) (λ i. (sym t.0 i, t.1 i)) (sole_both (ap (λ (x : View). x.sole) t.1 ∙ sole)))
        (λ t. let wrong : false ≡ true = ap (λ (x : View). x.sole) t.1 ∙ sole in cc)
        (λ t. absurd (nobody_sole frames s r id j v u at acts t.2 t.0 sole));
  }

-- the other stood there before
pub was_there : (s : Vault) (id other : ℕ) (both w : View) → other ≢ id → get_elem? (set s.views id both) other ≡ some w → get_elem? s.views other ≡ some w
was_there s id other both w apart there = ⊎_elim (λ (t : (other ≡ id) × (both ≡ w)). absurd (apart t.0)) (λ (t : (other ≢ id) × (get_elem? s.views other ≡ some w)). t.1) (at_set s.views id other both w there)

pub regains : (frames id : ℕ) (v : View) (other : ℕ) (w : View) → v.rests ≡ false → v.has ≡ 0 → w.lent ≡ false → Joins (Banked frames) id v other w (united v w) spent
regains frames id v other w acts bare free s r at apart there = let m = r.met id v at in
    joined frames id v other w acts bare s r at apart (was_there s id other (united v w) w apart there) (united v w) refl refl refl refl (r.seen id v at) (λ _. refl)
    (record { one = m.one; other = m.other }) refl (λ lent rests. (let wrong : true ≡ false = sym lent ∙ free in cc))

-- of two ends of one list the shorter is an end of the longer
end_of : (a b gs : List Given) → Extends a gs → Extends b gs → length a ≤ length b → Extends a b
end_of a b gs x y low = ends x.newer y.newer (sym x.is ∙ y.is) where
  ends : (p q : List Given) → p ++ a ≡ q ++ b → Extends a b
  ends p [] e = record { newer = p; is = sym e }
  ends [] (g ∷ q) e = let long : length a ≡ length (g ∷ (q ++ b)) = ap length e in let more : length (q ++ b) ≡ length q + length b = length-append q b in absurd (omega arith)
  ends (f ∷ p) (g ∷ q) e = ends p q (cc)

shorter : (a b : List Given) → length b ≤ length a → longer a b ≡ a
shorter a b low = ap (λ (t : Bool). cond t b a) (le-ltb (length a) (length b) low)

extends_longer : (a b gs : List Given) → Extends a gs → Extends b gs → Extends (longer a b) gs
extends_longer a b gs x y = either_way (nat_lt (length a) (length b)) where
  either_way : (t : Bool) → Extends (cond t b a) gs
  either_way true = y
  either_way false = x

-- of two seats' returns both are older than the longer ones
longer_met : (a b gs : List Given) → Extends a gs → Extends b gs → Extends a (longer a b) × Extends b (longer a b)
longer_met a b gs x y = dite (dec_lt (length a) (length b))
    (λ (low : length a < length b). let is : longer a b ≡ b = ap (λ (t : Bool). cond t b a) (lt-ltb (length a) (length b) low) in
    subst (λ (l : List Given). Extends a l × Extends b l) (sym is) (end_of a b gs x y (omega arith), extends_none b))
    (λ not_low. let low : length b ≤ length a = omega arith in subst (λ (l : List Given). Extends a l × Extends b l) (sym (shorter a b low)) (extends_none a, end_of b a gs y x low))

pub unites : (frames id : ℕ) (v : View) (other : ℕ) (w : View) → v.rests ≡ false → v.has ≡ 0 → w.rests ≡ false → Joins (Banked frames) id v other w (merged v w) spent
unites frames id v other w acts bare busy s r at apart there = let was = was_there s id other (merged v w) w apart there in let x = r.seen id v at in let y = r.seen other w was in
    joined frames id v other w acts bare s r at apart was (merged v w) refl refl refl refl (extends_longer v.gives w.gives r.gives x y)
    (λ sole. let all = (r.sole id v at sole).all in let known : length r.gives ≡ length v.gives = ap length (sym all) in
    let sum_is : length r.gives ≡ length y.newer + length w.gives = ap length y.is ∙ length-append y.newer w.gives in shorter v.gives w.gives (omega arith))
    (let b = longer_met v.gives w.gives r.gives x y in record { one = b.0; other = b.1 }) refl (λ lent rests. (let wrong : true ≡ false = sym rests ∙ busy in cc))
