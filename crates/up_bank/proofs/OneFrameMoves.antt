-- A step that changes one frame alone, and a step that changes none, keep the rule.
use Rattle.std.proofs.Common.{◌≡◌, ◌≢◌, ℕ, suc, ◌<◌, true, false, List, [], ◌++◌, length, get_or, set, refl, sym, ap, ◌∙◌, subst, ⊎_elim, append_assoc, Option, Some, None}
use mathlib.Core.Logic.{dite}
use mathlib.Core.Option as maybe
use mathlib.Core.Option.{some, some-injective}
use native.Mathlib.Decide.{ℕ_discrete}
use lib.ListN.{get_elem?}
use Rattle.atomic_table.proofs.Lists.{at_set, set_here, set_else}
use Rattle.up_bank.specs.Bytes.{Given, bytes_of, Extends}
use Rattle.up_bank.specs.Banked.{Vault, home_bit, empty_bit, Has, Alone, Met, Lent, Banked}
use Rattle.up_bank.specs.declared.view.View.{View}
use Rattle.up_bank.proofs.Lists.{within, put, put_here, put_else}

abbrev pub Homes : Type 0
Homes = List (maybe.Option (Option (List ℕ)))

-- the seat id goes from the view v to w, and of all frames only k changes
pub record Moves (frames id k : ℕ) (v w : View) (s : Vault) (r : Banked frames s) (ws : List ℕ) (hs : Homes) (gs : List Given) : Type 0 where
  pub inside : k < frames
  pub acts : v.rests ≡ false
  pub wide : length ws ≡ length s.words
  pub slots : length hs ≡ length s.homes
  pub homes_else : (q : ℕ) → q ≢ k → home_bit ws q ≡ home_bit s.words q
  pub empties_else : (q : ℕ) → q ≢ k → empty_bit ws q ≡ empty_bit s.words q
  pub slots_else : (q : ℕ) → q ≢ k → get_elem? hs q ≡ get_elem? s.homes q
  pub bytes_else : (q : ℕ) → q ≢ k → bytes_of gs q ≡ bytes_of r.gives q
  pub home : home_bit ws k ≡ 1 → get_elem? hs k ≡ some (some (Some (bytes_of gs k)))
  pub empty : empty_bit ws k ≡ 1 → get_elem? hs k ≡ some (some None)
  pub out : home_bit ws k ≡ 0 → w.has ≡ suc k
  pub nobody : (j : ℕ) (u : View) → j ≢ id → get_elem? s.views j ≡ some u → u.has ≡ suc k → ⊥
  pub before : (q : ℕ) → v.has ≡ suc q → q ≡ k
  pub after : (q : ℕ) → w.has ≡ suc q → (q ≡ k) × (home_bit ws k ≡ 0) × (empty_bit ws k ≡ w.empty)
  pub history : Extends r.gives gs
  pub seen : Extends w.gives gs
  pub was_sole : w.sole ≡ true → v.sole ≡ true
  pub long : length w.home ≡ length v.home
  pub knows : v.sole ≡ true → get_or w.home k 0 ≡ home_bit ws k
  pub knows_else : (q : ℕ) → q ≢ k → get_or w.home q 0 ≡ get_or v.home q 0
  pub all : v.sole ≡ true → w.gives ≡ gs
  pub token : w.token ≡ v.token
  pub later : Extends v.gives w.gives
  pub one : w.one ≡ v.one
  pub other : w.other ≡ v.other

pub extends_more : (a b c : List Given) → Extends a b → Extends b c → Extends a c
extends_more a b c x y = record { newer = y.newer ++ x.newer; is = y.is ∙ (ap (λ (l : List Given). y.newer ++ l) x.is ∙ sym (append_assoc y.newer x.newer a)) }

-- what two seats knew that were made one stays older than what the seat knows
pub met_later : (v w : View) → Met v → Extends v.gives w.gives → w.one ≡ v.one → w.other ≡ v.other → Met w
met_later v w m later one other = record {
  one = subst (λ (l : List Given). Extends l w.gives) (sym one) (extends_more v.one v.gives w.gives m.one later);
  other = subst (λ (l : List Given). Extends l w.gives) (sym other) (extends_more v.other v.gives w.gives m.other later);
}

-- a token of another seat, where its frame's seat stays as it was
pub token_stays : (number keeper keeper' owner owner' : ℕ) (views views' : List View) (j : ℕ) (u : View) (l : Lent number keeper owner views j u) → keeper' ≡ keeper → owner' ≡ owner → get_elem? views' owner ≡ get_elem? views owner → Lent number keeper' owner' views' j u
token_stays number keeper keeper' owner owner' views views' j u l k o there = record {
  mine = k ∙ l.mine;
  rests = l.rests;
  apart = l.apart;
  lender = l.lender;
  there = ap (get_elem? views') o ∙ (there ∙ l.there);
  has = l.has;
  lent = l.lent;
  waits = l.waits;
}

-- a seat that steps lent nothing, and has no token
pub far_lender : (number keeper owner : ℕ) (views : List View) (j : ℕ) (u : View) (l : Lent number keeper owner views j u) (id : ℕ) (v : View) → get_elem? views id ≡ some v → v.rests ≡ false → owner ≢ id
far_lender number keeper owner views j u l id v at acts same = let both : some l.lender ≡ some v = sym l.there ∙ (ap (get_elem? views) same ∙ at) in
    let wrong : true ≡ false = sym l.waits ∙ (ap (λ (x : View). x.rests) (some-injective l.lender v both) ∙ acts) in cc

pub no_token : (frames : ℕ) (s : Vault) (r : Banked frames s) (id : ℕ) (v : View) → get_elem? s.views id ≡ some v → v.rests ≡ false → (number : ℕ) → v.token ≡ suc number → ⊥
no_token frames s r id v at acts number is = let l = r.tokens id v at number is in let wrong : true ≡ false = sym l.rests ∙ acts in cc

-- where one seat steps, no other is sole
pub nobody_sole : (frames : ℕ) (s : Vault) → Banked frames s → (id j : ℕ) (v u : View) → get_elem? s.views id ≡ some v → v.rests ≡ false → get_elem? s.views j ≡ some u → j ≢ id → u.sole ≡ true → ⊥
nobody_sole frames s r id j v u at acts there other sole = let rests : v.rests ≡ true = (r.sole j u there sole).others id v at (λ e. other (sym e)) in let wrong : false ≡ true = sym acts ∙ rests in cc

module _ (frames id k : ℕ) (v w : View) (s : Vault) (r : Banked frames s) (at : get_elem? s.views id ≡ some v) (ws : List ℕ) (hs : Homes) (gs : List Given) (m : Moves frames id k v w s r ws hs gs) where
  abbrev now : Vault
  now = record { words = ws; homes = hs; views = set s.views id w }

  abbrev owns : ℕ → ℕ
  owns = put r.owner k id

  home_now : (q : ℕ) → q < frames → home_bit ws q ≡ 1 → get_elem? hs q ≡ some (some (Some (bytes_of gs q)))
  home_now q l bit = dite (ℕ_discrete q k)
      (λ (e : q ≡ k). subst (λ (z : ℕ). get_elem? hs z ≡ some (some (Some (bytes_of gs z)))) (sym e) (m.home (ap (home_bit ws) (sym e) ∙ bit)))
      (λ (other : q ≢ k). m.slots_else q other ∙ (r.home q l (sym (m.homes_else q other) ∙ bit) ∙ ap (λ (b : List ℕ). some (some (Some b))) (sym (m.bytes_else q other))))

  empty_now : (q : ℕ) → q < frames → empty_bit ws q ≡ 1 → get_elem? hs q ≡ some (some None)
  empty_now q l bit = dite (ℕ_discrete q k)
      (λ (e : q ≡ k). ap (get_elem? hs) e ∙ m.empty (ap (empty_bit ws) (sym e) ∙ bit))
      (λ (other : q ≢ k). m.slots_else q other ∙ r.empty q l (sym (m.empties_else q other) ∙ bit))

  mine_now : get_elem? now.views id ≡ some w
  mine_now = set_here s.views id w (within s.views id v at)

  -- another frame's owner is another seat
  owner_else : (q : ℕ) (u : View) → q ≢ k → get_elem? s.views (r.owner q) ≡ some u → u.has ≡ suc q → r.owner q ≢ id
  owner_else q u other there has same = let both : some u ≡ some v = sym there ∙ (ap (get_elem? s.views) same ∙ at) in
      other (m.before q (ap (λ (x : View). x.has) (sym (some-injective u v both)) ∙ has))

  out_now : (q : ℕ) → q < frames → home_bit ws q ≡ 0 → (u : View) × (get_elem? now.views (owns q) ≡ some u) × (u.has ≡ suc q)
  out_now q l bit = dite (ℕ_discrete q k)
      (λ (e : q ≡ k). let has : w.has ≡ suc k = m.out (ap (home_bit ws) (sym e) ∙ bit) in
      (w, ap (get_elem? now.views) (ap owns e ∙ put_here r.owner k id) ∙ mine_now, has ∙ ap suc (sym e)))
      (λ (other : q ≢ k). let o = r.out q l (sym (m.homes_else q other) ∙ bit) in
      (o.0, ap (get_elem? now.views) (put_else r.owner k id q other) ∙ (set_else s.views id (r.owner q) w (owner_else q o.0 other o.1 o.2) ∙ o.1), o.2))

  each_now : (j : ℕ) (u : View) → get_elem? now.views j ≡ some u → (q : ℕ) → u.has ≡ suc q → Has frames q ws (owns q) j u
  each_now j u there q has = ⊎_elim
      (λ (t : (j ≡ id) × (w ≡ u)). let a = m.after q (ap (λ (x : View). x.has) t.1 ∙ has) in record {
        within = subst (λ (z : ℕ). z < frames) (sym a.0) m.inside;
        gone = ap (home_bit ws) a.0 ∙ a.1;
        mine = ap owns a.0 ∙ (put_here r.owner k id ∙ sym t.0);
        empty = ap (empty_bit ws) a.0 ∙ (a.2 ∙ ap (λ (x : View). x.empty) t.1);
      })
      (λ (t : (j ≢ id) × (get_elem? s.views j ≡ some u)). let h = r.each j u t.1 q has in
      let other : q ≢ k = (λ (e : q ≡ k). m.nobody j u t.0 t.1 (has ∙ ap suc e)) in record {
        within = h.within;
        gone = m.homes_else q other ∙ h.gone;
        mine = put_else r.owner k id q other ∙ h.mine;
        empty = m.empties_else q other ∙ h.empty;
      }) (at_set s.views id j w u there)

  seen_now : (j : ℕ) (u : View) → get_elem? now.views j ≡ some u → Extends u.gives gs
  seen_now j u there = ⊎_elim (λ (t : (j ≡ id) × (w ≡ u)). subst (λ (x : View). Extends x.gives gs) t.1 m.seen)
      (λ (t : (j ≢ id) × (get_elem? s.views j ≡ some u)). extends_more u.gives r.gives gs (r.seen j u t.1) m.history) (at_set s.views id j w u there)

  sole_mine : w.sole ≡ true → Alone frames id w now gs
  sole_mine sole = let was : v.sole ≡ true = m.was_sole sole in let a = r.sole id v at was in record {
    others = λ i x there other. ⊎_elim (λ (t : (i ≡ id) × (w ≡ x)). absurd (other t.0)) (λ (t : (i ≢ id) × (get_elem? s.views i ≡ some x)). a.others i x t.1 other) (at_set s.views id i w x there);
    long = m.long ∙ a.long;
    knows = λ q l. dite (ℕ_discrete q k) (λ (e : q ≡ k). ap (λ (z : ℕ). get_or w.home z 0) e ∙ (m.knows was ∙ ap (home_bit ws) (sym e)))
        (λ (other : q ≢ k). m.knows_else q other ∙ (a.knows q l ∙ sym (m.homes_else q other)));
    all = m.all was;
  }

  sole_now : (j : ℕ) (u : View) → get_elem? now.views j ≡ some u → u.sole ≡ true → Alone frames j u now gs
  sole_now j u there sole = ⊎_elim
      (λ (t : (j ≡ id) × (w ≡ u)). subst (λ (z : ℕ × View). Alone frames z.0 z.1 now gs) (λ i. (sym t.0 i, t.1 i)) (sole_mine (ap (λ (x : View). x.sole) t.1 ∙ sole)))
      (λ (t : (j ≢ id) × (get_elem? s.views j ≡ some u)). absurd (nobody_sole frames s r id j v u at m.acts t.1 t.0 sole)) (at_set s.views id j w u there)

  met_now : (j : ℕ) (u : View) → get_elem? now.views j ≡ some u → Met u
  met_now j u there = ⊎_elim (λ (t : (j ≡ id) × (w ≡ u)). subst Met t.1 (met_later v w (r.met id v at) m.later m.one m.other))
      (λ (t : (j ≢ id) × (get_elem? s.views j ≡ some u)). r.met j u t.1) (at_set s.views id j w u there)

  tokens_now : (j : ℕ) (u : View) → get_elem? now.views j ≡ some u → (q : ℕ) → u.token ≡ suc q → Lent q (r.keeper q) (owns q) now.views j u
  tokens_now j u there q is = ⊎_elim
      (λ (t : (j ≡ id) × (w ≡ u)). absurd (no_token frames s r id v at m.acts q (sym m.token ∙ (ap (λ (x : View). x.token) t.1 ∙ is))))
      (λ (t : (j ≢ id) × (get_elem? s.views j ≡ some u)). let l = r.tokens j u t.1 q is in let far = far_lender q (r.keeper q) (r.owner q) s.views j u l id v at m.acts in
      let other : q ≢ k = (λ (e : q ≡ k). m.nobody (r.owner q) l.lender far l.there (l.has ∙ ap suc e)) in
      token_stays q (r.keeper q) (r.keeper q) (r.owner q) (owns q) s.views now.views j u l refl (put_else r.owner k id q other) (set_else s.views id (r.owner q) w far)) (at_set s.views id j w u there)

  pub moved : Banked frames now
  moved = record {
    owner = owns;
    gives = gs;
    wide = m.wide ∙ r.wide;
    slots = m.slots ∙ r.slots;
    home = home_now;
    empty = empty_now;
    out = out_now;
    each = each_now;
    seen = seen_now;
    sole = sole_now;
    keeper = r.keeper;
    met = met_now;
    tokens = tokens_now;
  }

-- a view that has what another had, and has seen no more
pub record SameHand (v w : View) : Type 0 where
  pub has : w.has ≡ v.has
  pub empty : w.empty ≡ v.empty
  pub sole : w.sole ≡ v.sole
  pub home : w.home ≡ v.home
  pub gives : w.gives ≡ v.gives
  pub one : w.one ≡ v.one
  pub other : w.other ≡ v.other
  pub token : w.token ≡ v.token

-- a step that changes no bit and no slot
module _ (frames id : ℕ) (v w : View) (s : Vault) (r : Banked frames s) (at : get_elem? s.views id ≡ some v) (acts : v.rests ≡ false) (ws : List ℕ) (wide : length ws ≡ length s.words)
    (homes_same : (q : ℕ) → home_bit ws q ≡ home_bit s.words q) (empties_same : (q : ℕ) → empty_bit ws q ≡ empty_bit s.words q) (same : SameHand v w) where
  abbrev still : Vault
  still = record { words = ws; homes = s.homes; views = set s.views id w }

  out_still : (q : ℕ) → q < frames → home_bit ws q ≡ 0 → (u : View) × (get_elem? still.views (r.owner q) ≡ some u) × (u.has ≡ suc q)
  out_still q l bit = let o = r.out q l (sym (homes_same q) ∙ bit) in dite (ℕ_discrete (r.owner q) id)
      (λ (e : r.owner q ≡ id). let both : some o.0 ≡ some v = sym o.1 ∙ (ap (get_elem? s.views) e ∙ at) in
      (w, ap (get_elem? still.views) e ∙ set_here s.views id w (within s.views id v at), same.has ∙ (ap (λ (x : View). x.has) (sym (some-injective o.0 v both)) ∙ o.2)))
      (λ (other : r.owner q ≢ id). (o.0, set_else s.views id (r.owner q) w other ∙ o.1, o.2))

  sole_still : (j : ℕ) (u : View) → get_elem? still.views j ≡ some u → u.sole ≡ true → Alone frames j u still r.gives
  sole_still j u there sole = ⊎_elim
      (λ (t : (j ≡ id) × (w ≡ u)). let a = r.sole id v at (sym same.sole ∙ (ap (λ (x : View). x.sole) t.1 ∙ sole)) in
      let mine : Alone frames id w still r.gives = record {
        others = λ i x here other. ⊎_elim (λ (p : (i ≡ id) × (w ≡ x)). absurd (other p.0)) (λ (p : (i ≢ id) × (get_elem? s.views i ≡ some x)). a.others i x p.1 other) (at_set s.views id i w x here);
        long = ap length same.home ∙ a.long;
        knows = λ q l. ap (λ (h : List ℕ). get_or h q 0) same.home ∙ (a.knows q l ∙ sym (homes_same q));
        all = same.gives ∙ a.all;
      } in subst (λ (z : ℕ × View). Alone frames z.0 z.1 still r.gives) (λ i. (sym t.0 i, t.1 i)) mine)
      (λ (t : (j ≢ id) × (get_elem? s.views j ≡ some u)). absurd (nobody_sole frames s r id j v u at acts t.1 t.0 sole)) (at_set s.views id j w u there)

  has_still : (j : ℕ) (u : View) → get_elem? still.views j ≡ some u → (q : ℕ) → u.has ≡ suc q → Has frames q ws (r.owner q) j u
  has_still j u there q has = ⊎_elim
      (λ (t : (j ≡ id) × (w ≡ u)). let h = r.each id v at q (sym same.has ∙ (ap (λ (x : View). x.has) t.1 ∙ has)) in record {
        within = h.within;
        gone = homes_same q ∙ h.gone;
        mine = h.mine ∙ sym t.0;
        empty = empties_same q ∙ (h.empty ∙ (sym same.empty ∙ ap (λ (x : View). x.empty) t.1));
      })
      (λ (t : (j ≢ id) × (get_elem? s.views j ≡ some u)). let h = r.each j u t.1 q has in record { within = h.within; gone = homes_same q ∙ h.gone; mine = h.mine; empty = empties_same q ∙ h.empty })
      (at_set s.views id j w u there)

  pub stays : Banked frames still
  stays = record {
    owner = r.owner;
    gives = r.gives;
    wide = wide ∙ r.wide;
    slots = r.slots;
    home = λ q l bit. r.home q l (sym (homes_same q) ∙ bit);
    empty = λ q l bit. r.empty q l (sym (empties_same q) ∙ bit);
    out = out_still;
    each = has_still;
    seen = λ j u there. ⊎_elim (λ (t : (j ≡ id) × (w ≡ u)). subst (λ (x : View). Extends x.gives r.gives) t.1 (subst (λ (g : List Given). Extends g r.gives) (sym same.gives) (r.seen id v at)))
        (λ (t : (j ≢ id) × (get_elem? s.views j ≡ some u)). r.seen j u t.1) (at_set s.views id j w u there);
    sole = sole_still;
    keeper = r.keeper;
    met = λ j u there. ⊎_elim (λ (t : (j ≡ id) × (w ≡ u)). subst Met t.1 (met_later v w (r.met id v at) (record { newer = []; is = same.gives }) same.one same.other))
        (λ (t : (j ≢ id) × (get_elem? s.views j ≡ some u)). r.met j u t.1) (at_set s.views id j w u there);
    tokens = λ j u there q is. ⊎_elim
        (λ (t : (j ≡ id) × (w ≡ u)). absurd (no_token frames s r id v at acts q (sym same.token ∙ (ap (λ (x : View). x.token) t.1 ∙ is))))
        (λ (t : (j ≢ id) × (get_elem? s.views j ≡ some u)). let l = r.tokens j u t.1 q is in
        token_stays q (r.keeper q) (r.keeper q) (r.owner q) (r.owner q) s.views still.views j u l refl refl (set_else s.views id (r.owner q) w (far_lender q (r.keeper q) (r.owner q) s.views j u l id v at acts))) (at_set s.views id j w u there);
  }
