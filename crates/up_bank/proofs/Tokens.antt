-- Two frames' seats are shown to be of different frames by a token: one lends it, the other takes it and gives it back.
use Rattle.std.proofs.Common.{◌≡◌, ◌≢◌, ℕ, suc, ◌<◌, Bool, true, false, List, [], ◌∷◌, ◌++◌, length, get_or, set, sym, refl, ap, ◌∙◌, subst, ⊎_elim, arith, length-set, append-nil}
use mathlib.Core.Logic.{dite}
use mathlib.Core.Option.{none, some, some-injective}
use native.Mathlib.Decide.{ℕ_discrete}
use lib.ListN.{get_elem?}
use lib.Seq.{set-get_or}
use Rattle.atomic_table.specs.Table.{step, keeps, Allows, Splits, Joins}
use Rattle.atomic_table.proofs.Lists.{at_set, set_here, set_else, set_again, at_longer}
use Rattle.up_bank.specs.Bytes.{Given, Extends}
use Rattle.up_bank.specs.Banked.{Vault, home_bit, Has, Alone, Met, Lent, Banked}
use Rattle.up_bank.specs.SeatSteps.{SeatState, agreed, told_apart, lends, lent_out, shown, hidden, taken_back, repaid, spent}
use Rattle.up_bank.specs.declared.view.View.{View}
use Rattle.up_bank.proofs.Lists.{within, put, put_here, put_else, at_end}
use Rattle.up_bank.proofs.OneFrameMoves.{token_stays}
use Rattle.up_bank.proofs.Views.{none_met, was_there}

-- a load that leaves the seat as it was
same_state : (frames id i : ℕ) (v : View) (s : Vault) → Banked frames s → get_elem? s.views id ≡ some v → Banked frames record { words = set s.words i (get_or s.words i 0); homes = s.homes; views = set s.views id v }
same_state frames id i v s r at = subst (λ (ws : List ℕ). Banked frames record { words = ws; homes = s.homes; views = set s.views id v }) (sym (set-get_or s.words i 0))
    (subst (λ (vs : List View). Banked frames record { words = s.words; homes = s.homes; views = vs }) (sym (set_again s.views id v at)) r)

pub settles : (frames slots id i : ℕ) (me : SeatState) → Allows (Banked frames) slots id me i (λ n. n) (agreed (step slots i 0 0 none) me)
settles frames slots id i me s r _ at _ = (me.0, keeps, tt, same_state frames id i me.0 s r at, (refl, r.met id me.0 at))

pub tells : (frames slots id i : ℕ) (me : SeatState) → Allows (Banked frames) slots id me i (λ n. n) (told_apart (step slots i 0 0 none) me)
tells frames slots id i me s r _ at _ = (me.0, keeps, tt, same_state frames id i me.0 s r at, (refl, λ number is. (r.tokens id me.0 at number is).apart))

-- a seat whose frame, and what it knows of its bank, stay
pub record SameFrame (v w : View) : Type 0 where
  pub has : w.has ≡ v.has
  pub empty : w.empty ≡ v.empty
  pub rests : w.rests ≡ v.rests
  pub sole : w.sole ≡ v.sole
  pub home : w.home ≡ v.home
  pub gives : w.gives ≡ v.gives
  pub one : w.one ≡ v.one
  pub other : w.other ≡ v.other

same_met : (v w : View) → SameFrame v w → Met v → Met w
same_met v w same m = record {
  one = subst (λ (g : List Given). Extends w.one g) (sym same.gives) (subst (λ (l : List Given). Extends l v.gives) (sym same.one) m.one);
  other = subst (λ (g : List Given). Extends w.other g) (sym same.gives) (subst (λ (l : List Given). Extends l v.gives) (sym same.other) m.other);
}

-- a seat goes from v to w, which differs in what it lent and what token it has
module _ (frames id : ℕ) (v w : View) (same : SameFrame v w) (s : Vault) (r : Banked frames s) (at : get_elem? s.views id ≡ some v) where
  abbrev kept : List View
  kept = set s.views id w

  -- the seat's frame is where it was
  kept_out : (q : ℕ) → q < frames → home_bit s.words q ≡ 0 → (u : View) × (get_elem? kept (r.owner q) ≡ some u) × (u.has ≡ suc q)
  kept_out q l bit = let o = r.out q l bit in dite (ℕ_discrete (r.owner q) id)
      (λ (e : r.owner q ≡ id). let both : some o.0 ≡ some v = sym o.1 ∙ (ap (get_elem? s.views) e ∙ at) in
      (w, ap (get_elem? kept) e ∙ set_here s.views id w (within s.views id v at), same.has ∙ (ap (λ (x : View). x.has) (sym (some-injective o.0 v both)) ∙ o.2)))
      (λ (other : r.owner q ≢ id). (o.0, set_else s.views id (r.owner q) w other ∙ o.1, o.2))

  mine_has : (q : ℕ) → w.has ≡ suc q → Has frames q s.words (r.owner q) id w
  mine_has q has = let h = r.each id v at q (sym same.has ∙ has) in record { within = h.within; gone = h.gone; mine = h.mine; empty = h.empty ∙ sym same.empty }

  mine_seen : Extends w.gives r.gives
  mine_seen = subst (λ (g : List Given). Extends g r.gives) (sym same.gives) (r.seen id v at)

  -- whoever else is there rests where it rested
  others_rest : (j : ℕ) (u : View) (there : get_elem? s.views j ≡ some u) → u.sole ≡ true → j ≢ id → w.rests ≡ true
  others_rest j u there sole far = same.rests ∙ (r.sole j u there sole).others id v at (λ e. far (sym e))

  -- a new seat gets a token
  module _ (fresh : View) (bare : fresh.has ≡ 0) (rests : fresh.rests ≡ true) (busy : fresh.sole ≡ false) (none : fresh.gives ≡ []) (no_one : fresh.one ≡ []) (no_other : fresh.other ≡ []) (keeps' : ℕ → ℕ)
      (tokens' : (j : ℕ) (u : View) → get_elem? (kept ++ fresh ∷ []) j ≡ some u → (q : ℕ) → u.token ≡ suc q → Lent q (keeps' q) (r.owner q) (kept ++ fresh ∷ []) j u) where
    abbrev cut_now : Vault
    cut_now = record { words = s.words; homes = s.homes; views = kept ++ fresh ∷ [] }

    which : (T : Type 0) (j : ℕ) (u : View) → get_elem? cut_now.views j ≡ some u → ((j ≡ id) × (w ≡ u) → T) → (fresh ≡ u → T) → ((j ≢ id) × (get_elem? s.views j ≡ some u) → T) → T
    which T j u there stays new others = ⊎_elim (λ (t : get_elem? kept j ≡ some u). ⊎_elim stays others (at_set s.views id j w u t)) (λ (t : (j ≡ length kept) × (fresh ≡ u)). new t.1) (at_end kept fresh u j there)

    alone_cut : (j : ℕ) (u : View) (sole : u.sole ≡ true) (a : Alone frames j u s r.gives) → (j ≢ id → w.rests ≡ true) → Alone frames j u cut_now r.gives
    alone_cut j u sole a mine = record {
      others = λ i x there far. which (x.rests ≡ true) i x there (λ t. ap (λ (y : View). y.rests) (sym t.1) ∙ mine (λ e. far (t.0 ∙ sym e))) (λ e. ap (λ (y : View). y.rests) (sym e) ∙ rests) (λ t. a.others i x t.1 far);
      long = a.long;
      knows = a.knows;
      all = a.all;
    }

    mine_alone : w.sole ≡ true → Alone frames id w s r.gives
    mine_alone sole = let a = r.sole id v at (sym same.sole ∙ sole) in record { others = a.others; long = ap length same.home ∙ a.long; knows = λ q l. ap (λ (h : List ℕ). get_or h q 0) same.home ∙ a.knows q l; all = same.gives ∙ a.all }

    pub token_cut : Banked frames cut_now
    token_cut = record {
      owner = r.owner;
      keeper = keeps';
      gives = r.gives;
      wide = r.wide;
      slots = r.slots;
      home = r.home;
      empty = r.empty;
      out = λ q l bit. let o = kept_out q l bit in (o.0, at_longer kept (fresh ∷ []) (r.owner q) o.0 o.1, o.2);
      each = λ j u there q has. which (Has frames q s.words (r.owner q) j u) j u there
          (λ t. subst (λ (z : ℕ × View). Has frames q s.words (r.owner q) z.0 z.1) (λ i. (sym t.0 i, t.1 i)) (mine_has q (ap (λ (x : View). x.has) t.1 ∙ has)))
          (λ e. let wrong : 0 ≡ suc q = sym bare ∙ (ap (λ (x : View). x.has) e ∙ has) in absurd (omega arith)) (λ t. r.each j u t.1 q has);
      seen = λ j u there. which (Extends u.gives r.gives) j u there (λ t. subst (λ (x : View). Extends x.gives r.gives) t.1 mine_seen)
          (λ e. subst (λ (x : View). Extends x.gives r.gives) e (nothing_seen fresh none)) (λ t. r.seen j u t.1);
      sole = λ j u there sole. which (Alone frames j u cut_now r.gives) j u there
          (λ t. subst (λ (z : ℕ × View). Alone frames z.0 z.1 cut_now r.gives) (λ i. (sym t.0 i, t.1 i)) (let lone : w.sole ≡ true = ap (λ (x : View). x.sole) t.1 ∙ sole in alone_cut id w lone (mine_alone lone) (λ far. absurd (far refl))))
          (λ e. let wrong : true ≡ false = sym sole ∙ (ap (λ (x : View). x.sole) (sym e) ∙ busy) in cc)
          (λ t. alone_cut j u sole (r.sole j u t.1 sole) (others_rest j u t.1 sole));
      met = λ j u there. which (Met u) j u there (λ t. subst Met t.1 (same_met v w same (r.met id v at))) (λ e. subst Met e (none_met none no_one no_other)) (λ t. r.met j u t.1);
      tokens = tokens';
    } where
      nothing_seen : (x : View) → x.gives ≡ [] → Extends x.gives r.gives
      nothing_seen x e = record { newer = r.gives; is = sym (ap (λ (l : List Given). r.gives ++ l) e ∙ append-nil r.gives) }

  -- a seat without a frame is given up
  module _ (other : ℕ) (t : View) (apart : other ≢ id) (there : get_elem? s.views other ≡ some t) (bare : t.has ≡ 0) (keeps' : ℕ → ℕ)
      (tokens' : (j : ℕ) (u : View) → get_elem? (set kept other spent) j ≡ some u → (q : ℕ) → u.token ≡ suc q → Lent q (keeps' q) (r.owner q) (set kept other spent) j u) where
    abbrev join_now : Vault
    join_now = record { words = s.words; homes = s.homes; views = set kept other spent }

    whose : (T : Type 0) (j : ℕ) (u : View) → get_elem? join_now.views j ≡ some u → ((j ≡ id) × (w ≡ u) → T) → (spent ≡ u → T) → ((j ≢ id) × (get_elem? s.views j ≡ some u) → T) → T
    whose T j u here stays gone others = ⊎_elim (λ (p : (j ≡ other) × (spent ≡ u)). gone p.1)
        (λ (p : (j ≢ other) × (get_elem? kept j ≡ some u)). ⊎_elim stays others (at_set s.views id j w u p.1)) (at_set kept other j spent u here)

    not_other : (q : ℕ) (u : View) → get_elem? s.views (r.owner q) ≡ some u → u.has ≡ suc q → r.owner q ≢ other
    not_other q u here has same_seat = let both : some u ≡ some t = sym here ∙ (ap (get_elem? s.views) same_seat ∙ there) in
        let wrong : 0 ≡ suc q = sym bare ∙ (ap (λ (x : View). x.has) (sym (some-injective u t both)) ∙ has) in absurd (omega arith)

    alone_join : (j : ℕ) (u : View) (a : Alone frames j u s r.gives) → (j ≢ id → w.rests ≡ true) → Alone frames j u join_now r.gives
    alone_join j u a mine = record {
      others = λ i x here far. whose (x.rests ≡ true) i x here (λ p. ap (λ (y : View). y.rests) (sym p.1) ∙ mine (λ e. far (p.0 ∙ sym e))) (λ e. ap (λ (y : View). y.rests) (sym e)) (λ p. a.others i x p.1 far);
      long = a.long;
      knows = a.knows;
      all = a.all;
    }

    mine_lone : w.sole ≡ true → Alone frames id w s r.gives
    mine_lone sole = let a = r.sole id v at (sym same.sole ∙ sole) in record { others = a.others; long = ap length same.home ∙ a.long; knows = λ q l. ap (λ (h : List ℕ). get_or h q 0) same.home ∙ a.knows q l; all = same.gives ∙ a.all }

    pub token_join : Banked frames join_now
    token_join = record {
      owner = r.owner;
      keeper = keeps';
      gives = r.gives;
      wide = r.wide;
      slots = r.slots;
      home = r.home;
      empty = r.empty;
      out = λ q l bit. let o = kept_out q l bit in let was = r.out q l bit in (o.0, set_else kept other (r.owner q) spent (not_other q was.0 was.1 was.2) ∙ o.1, o.2);
      each = λ j u here q has. whose (Has frames q s.words (r.owner q) j u) j u here
          (λ p. subst (λ (z : ℕ × View). Has frames q s.words (r.owner q) z.0 z.1) (λ i. (sym p.0 i, p.1 i)) (mine_has q (ap (λ (x : View). x.has) p.1 ∙ has)))
          (λ e. let wrong : 0 ≡ suc q = ap (λ (x : View). x.has) e ∙ has in absurd (omega arith)) (λ p. r.each j u p.1 q has);
      seen = λ j u here. whose (Extends u.gives r.gives) j u here (λ p. subst (λ (x : View). Extends x.gives r.gives) p.1 mine_seen)
          (λ e. subst (λ (x : View). Extends x.gives r.gives) e (record { newer = r.gives; is = sym (append-nil r.gives) })) (λ p. r.seen j u p.1);
      sole = λ j u here sole. whose (Alone frames j u join_now r.gives) j u here
          (λ p. subst (λ (z : ℕ × View). Alone frames z.0 z.1 join_now r.gives) (λ i. (sym p.0 i, p.1 i)) (alone_join id w (mine_lone (ap (λ (x : View). x.sole) p.1 ∙ sole)) (λ far. absurd (far refl))))
          (λ e. let wrong : false ≡ true = ap (λ (x : View). x.sole) e ∙ sole in cc)
          (λ p. alone_join j u (r.sole j u p.1 sole) (others_rest j u p.1 sole));
      met = λ j u here. whose (Met u) j u here (λ p. subst Met p.1 (same_met v w same (r.met id v at))) (λ e. subst Met e (none_met refl refl refl)) (λ p. r.met j u p.1);
      tokens = tokens';
    }

same_token : (number keeper owner : ℕ) (views : List View) (j : ℕ) (v w : View) → w.rests ≡ v.rests → w.has ≡ v.has → Lent number keeper owner views j v → Lent number keeper owner views j w
same_token number keeper owner views j v w rests has l = record {
  mine = l.mine;
  rests = rests ∙ l.rests;
  apart = λ e. l.apart (sym has ∙ e);
  lender = l.lender;
  there = l.there;
  has = l.has;
  lent = l.lent;
  waits = l.waits;
}

-- a frame whose token is about is with a seat that lent it
not_lender : (number keeper owner : ℕ) (views : List View) (j : ℕ) (u : View) (l : Lent number keeper owner views j u) (id : ℕ) (v : View) → get_elem? views id ≡ some v → v.lent ≡ false → owner ≢ id
not_lender number keeper owner views j u l id v at kept_it same = let both : some l.lender ≡ some v = sym l.there ∙ (ap (get_elem? views) same ∙ at) in
    let wrong : true ≡ false = sym l.lent ∙ (ap (λ (x : View). x.lent) (some-injective l.lender v both) ∙ kept_it) in cc

-- and has it
not_bare : (number keeper owner : ℕ) (views : List View) (j : ℕ) (u : View) (l : Lent number keeper owner views j u) (other : ℕ) (t : View) → get_elem? views other ≡ some t → t.has ≡ 0 → owner ≢ other
not_bare number keeper owner views j u l other t there bare same = let both : some l.lender ≡ some t = sym l.there ∙ (ap (get_elem? views) same ∙ there) in
    let wrong : 0 ≡ suc number = sym bare ∙ (ap (λ (x : View). x.has) (sym (some-injective l.lender t both)) ∙ l.has) in absurd (omega arith)

-- a seat that gave a token, or gave it on: the new seat alone has it
module _ (frames id k : ℕ) (v w fresh : View) (kept_it : v.lent ≡ false) (s : Vault) (r : Banked frames s) (at : get_elem? s.views id ≡ some v) where
  abbrev after : List View
  after = set s.views id w ++ fresh ∷ []

  abbrev keepers : ℕ → ℕ
  keepers = put r.keeper k (length s.views)

  -- what another seat than this has is where it was
  there_after : (q : ℕ) → r.owner q ≢ id → (x : View) → get_elem? s.views (r.owner q) ≡ some x → get_elem? after (r.owner q) ≡ some x
  there_after q far x there = at_longer (set s.views id w) (fresh ∷ []) (r.owner q) x (set_else s.views id (r.owner q) w far ∙ there)

  -- the token of another frame
  pub others_cut : (j : ℕ) (u : View) → get_elem? s.views j ≡ some u → (q : ℕ) → u.token ≡ suc q → q ≢ k → Lent q (keepers q) (r.owner q) after j u
  others_cut j u there q is other = let l = r.tokens j u there q is in let far = not_lender q (r.keeper q) (r.owner q) s.views j u l id v at kept_it in
      token_stays q (r.keeper q) (keepers q) (r.owner q) (r.owner q) s.views after j u l (put_else r.keeper k (length s.views) q other) refl (there_after q far l.lender l.there ∙ sym l.there)

  pub tokens_cut : ((q : ℕ) → fresh.token ≡ suc q → Lent q (keepers q) (r.owner q) after (length s.views) fresh) → ((q : ℕ) → w.token ≡ suc q → Lent q (keepers q) (r.owner q) after id w)
      → ((j : ℕ) (u : View) → j ≢ id → get_elem? s.views j ≡ some u → (q : ℕ) → u.token ≡ suc q → q ≢ k)
      → (j : ℕ) (u : View) → get_elem? after j ≡ some u → (q : ℕ) → u.token ≡ suc q → Lent q (keepers q) (r.owner q) after j u
  tokens_cut newly mine apart j u there q is = ⊎_elim
      (λ (t : get_elem? (set s.views id w) j ≡ some u). ⊎_elim
      (λ (p : (j ≡ id) × (w ≡ u)). subst (λ (z : ℕ × View). Lent q (keepers q) (r.owner q) after z.0 z.1) (λ i. (sym p.0 i, p.1 i)) (mine q (ap (λ (x : View). x.token) p.1 ∙ is)))
      (λ (p : (j ≢ id) × (get_elem? s.views j ≡ some u)). others_cut j u p.1 q is (apart j u p.0 p.1 q is)) (at_set s.views id j w u t))
      (λ (t : (j ≡ length (set s.views id w)) × (fresh ≡ u)). let where_is : length s.views ≡ j = sym (t.0 ∙ length-set s.views id w) in
      subst (λ (z : ℕ × View). Lent q (keepers q) (r.owner q) after z.0 z.1) (λ i. (where_is i, t.1 i)) (newly q (ap (λ (x : View). x.token) t.1 ∙ is)))
      (at_end (set s.views id w) fresh u j there)

-- a token is given out
pub gives_token : (frames id k : ℕ) (v : View) → v.has ≡ suc k → v.rests ≡ true → v.lent ≡ false → Splits (Banked frames) id v (lends v) (lent_out v)
gives_token frames id k v has rests kept_it s r at = token_cut frames id v (lends v) (record { has = refl; empty = refl; rests = refl; sole = refl; home = refl; gives = refl; one = refl; other = refl }) s r at
    (lent_out v) refl refl refl refl refl refl (put r.keeper k (length s.views)) (tokens_cut frames id k v (lends v) (lent_out v) kept_it s r at newly mine apart) where
      -- no token of this frame was about
      none : (q j : ℕ) (u : View) → get_elem? s.views j ≡ some u → u.token ≡ suc q → q ≢ k
      none q j u there is same = let l = r.tokens j u there q is in
          not_lender q (r.keeper q) (r.owner q) s.views j u l id v at kept_it (ap r.owner same ∙ (r.each id v at k has).mine)

      apart : (j : ℕ) (u : View) → j ≢ id → get_elem? s.views j ≡ some u → (q : ℕ) → u.token ≡ suc q → q ≢ k
      apart j u far there q is = none q j u there is

      mine : (q : ℕ) → v.token ≡ suc q → Lent q (put r.keeper k (length s.views) q) (r.owner q) (set s.views id (lends v) ++ lent_out v ∷ []) id (lends v)
      mine q is = same_token q (put r.keeper k (length s.views) q) (r.owner q) (set s.views id (lends v) ++ lent_out v ∷ []) id v (lends v) refl refl
          (others_cut frames id k v (lends v) (lent_out v) kept_it s r at id v at q is (none q id v at is))

      newly : (q : ℕ) → v.has ≡ suc q → Lent q (put r.keeper k (length s.views) q) (r.owner q) (set s.views id (lends v) ++ lent_out v ∷ []) (length s.views) (lent_out v)
      newly q is = let same : q ≡ k = omega arith in let own = (r.each id v at q is).mine in record {
        mine = ap (put r.keeper k (length s.views)) same ∙ put_here r.keeper k (length s.views);
        rests = refl;
        apart = λ (e : 0 ≡ suc q). absurd (omega arith);
        lender = lends v;
        there = at_longer (set s.views id (lends v)) (lent_out v ∷ []) (r.owner q) (lends v) (ap (get_elem? (set s.views id (lends v))) own ∙ set_here s.views id (lends v) (within s.views id v at));
        has = is;
        lent = refl;
        waits = rests;
      }

-- the token is given away again
pub hides : (frames id k : ℕ) (v : View) → v.token ≡ suc k → v.lent ≡ false → Splits (Banked frames) id v (hidden v) (taken_back v)
hides frames id k v token kept_it s r at = token_cut frames id v (hidden v) (record { has = refl; empty = refl; rests = refl; sole = refl; home = refl; gives = refl; one = refl; other = refl }) s r at
    (taken_back v) refl refl refl refl refl refl (put r.keeper k (length s.views)) (tokens_cut frames id k v (hidden v) (taken_back v) kept_it s r at newly mine apart) where
      apart : (j : ℕ) (u : View) → j ≢ id → get_elem? s.views j ≡ some u → (q : ℕ) → u.token ≡ suc q → q ≢ k
      apart j u far there q is same = far (sym (r.tokens j u there q is).mine ∙ (ap r.keeper same ∙ (r.tokens id v at k token).mine))

      mine : (q : ℕ) → 0 ≡ suc q → Lent q (put r.keeper k (length s.views) q) (r.owner q) (set s.views id (hidden v) ++ taken_back v ∷ []) id (hidden v)
      mine q is = absurd (omega arith)

      newly : (q : ℕ) → v.token ≡ suc q → Lent q (put r.keeper k (length s.views) q) (r.owner q) (set s.views id (hidden v) ++ taken_back v ∷ []) (length s.views) (taken_back v)
      newly q is = let same : q ≡ k = omega arith in let l = r.tokens id v at q is in let far = not_lender q (r.keeper q) (r.owner q) s.views id v l id v at kept_it in record {
        mine = ap (put r.keeper k (length s.views)) same ∙ put_here r.keeper k (length s.views);
        rests = refl;
        apart = λ (e : 0 ≡ suc q). absurd (omega arith);
        lender = l.lender;
        there = there_after frames id k v (hidden v) (taken_back v) kept_it s r at q far l.lender l.there;
        has = l.has;
        lent = l.lent;
        waits = l.waits;
      }

-- another frame's seat takes the token
pub shows : (frames id k : ℕ) (v : View) (other : ℕ) (t : View) → t.token ≡ suc k → t.has ≡ 0 → v.rests ≡ true → v.lent ≡ false → Joins (Banked frames) id v other t (shown v t) spent
shows frames id k v other t token bare rests kept_it s r at apart there0 = token_join frames id v (shown v t) (record { has = refl; empty = refl; rests = refl; sole = refl; home = refl; gives = refl; one = refl; other = refl }) s r at
    other t apart there bare (put r.keeper k id) tokens where
      there : get_elem? s.views other ≡ some t
      there = was_there s id other (shown v t) t apart there0

      mine : (q : ℕ) → t.token ≡ suc q → Lent q (put r.keeper k id q) (r.owner q) (set (set s.views id (shown v t)) other spent) id (shown v t)
      mine q is = let same : q ≡ k = omega arith in let l = r.tokens other t (was_there s id other (shown v t) t apart there0) q is in
          let far = not_lender q (r.keeper q) (r.owner q) s.views other t l id v at kept_it in let gone = not_bare q (r.keeper q) (r.owner q) s.views other t l other t (was_there s id other (shown v t) t apart there0) bare in record {
            mine = ap (put r.keeper k id) same ∙ put_here r.keeper k id;
            rests = rests;
            apart = λ (e : v.has ≡ suc q). far (r.each id v at q e).mine;
            lender = l.lender;
            there = set_else (set s.views id (shown v t)) other (r.owner q) spent gone ∙ (set_else s.views id (r.owner q) (shown v t) far ∙ l.there);
            has = l.has;
            lent = l.lent;
            waits = l.waits;
          }

      rest_of : (j : ℕ) (u : View) → j ≢ other → get_elem? s.views j ≡ some u → (q : ℕ) → u.token ≡ suc q → Lent q (put r.keeper k id q) (r.owner q) (set (set s.views id (shown v t)) other spent) j u
      rest_of j u far_off here q is = let l = r.tokens j u here q is in let seat = was_there s id other (shown v t) t apart there0 in
          let far = not_lender q (r.keeper q) (r.owner q) s.views j u l id v at kept_it in let gone = not_bare q (r.keeper q) (r.owner q) s.views j u l other t seat bare in
          let else : q ≢ k = (λ (same : q ≡ k). far_off (sym l.mine ∙ (ap r.keeper same ∙ (r.tokens other t seat k token).mine))) in
          token_stays q (r.keeper q) (put r.keeper k id q) (r.owner q) (r.owner q) s.views (set (set s.views id (shown v t)) other spent) j u l (put_else r.keeper k id q else) refl
          (set_else (set s.views id (shown v t)) other (r.owner q) spent gone ∙ set_else s.views id (r.owner q) (shown v t) far)

      tokens : (j : ℕ) (u : View) → get_elem? (set (set s.views id (shown v t)) other spent) j ≡ some u → (q : ℕ) → u.token ≡ suc q → Lent q (put r.keeper k id q) (r.owner q) (set (set s.views id (shown v t)) other spent) j u
      tokens j u here q is = ⊎_elim
          (λ (p : (j ≡ other) × (spent ≡ u)). let wrong : 0 ≡ suc q = ap (λ (x : View). x.token) p.1 ∙ is in absurd (omega arith))
          (λ (p : (j ≢ other) × (get_elem? (set s.views id (shown v t)) j ≡ some u)). ⊎_elim
          (λ (z : (j ≡ id) × (shown v t ≡ u)). subst (λ (y : ℕ × View). Lent q (put r.keeper k id q) (r.owner q) (set (set s.views id (shown v t)) other spent) y.0 y.1) (λ i. (sym z.0 i, z.1 i)) (mine q (ap (λ (x : View). x.token) z.1 ∙ is)))
          (λ (z : (j ≢ id) × (get_elem? s.views j ≡ some u)). rest_of j u p.0 z.1 q is) (at_set s.views id j (shown v t) u p.1))
          (at_set (set s.views id (shown v t)) other j spent u here)

-- the token comes back to the seat that lent it
pub repays : (frames id k : ℕ) (v : View) (other : ℕ) (t : View) → v.has ≡ suc k → t.token ≡ suc k → t.has ≡ 0 → Joins (Banked frames) id v other t (repaid v t) spent
repays frames id k v other t has token bare s r at apart there0 = token_join frames id v (repaid v t) (record { has = refl; empty = refl; rests = refl; sole = refl; home = refl; gives = refl; one = refl; other = refl }) s r at
    other t apart (was_there s id other (repaid v t) t apart there0) bare r.keeper tokens where
      seat : get_elem? s.views other ≡ some t
      seat = was_there s id other (repaid v t) t apart there0

      rest_of : (j : ℕ) (u : View) → get_elem? s.views j ≡ some u → (q : ℕ) → u.token ≡ suc q → r.owner q ≢ id → Lent q (r.keeper q) (r.owner q) (set (set s.views id (repaid v t)) other spent) j u
      rest_of j u here q is far = let l = r.tokens j u here q is in let gone = not_bare q (r.keeper q) (r.owner q) s.views j u l other t (was_there s id other (repaid v t) t apart there0) bare in
          token_stays q (r.keeper q) (r.keeper q) (r.owner q) (r.owner q) s.views (set (set s.views id (repaid v t)) other spent) j u l refl refl
          (set_else (set s.views id (repaid v t)) other (r.owner q) spent gone ∙ set_else s.views id (r.owner q) (repaid v t) far)

      lender_is : (j : ℕ) (u : View) (here : get_elem? s.views j ≡ some u) (q : ℕ) (is : u.token ≡ suc q) → r.owner q ≡ id → v.has ≡ suc q
      lender_is j u here q is same = let l = r.tokens j u here q is in let both : some l.lender ≡ some v = sym l.there ∙ (ap (get_elem? s.views) same ∙ at) in
          ap (λ (x : View). x.has) (sym (some-injective l.lender v both)) ∙ l.has

      others_far : (j : ℕ) (u : View) → j ≢ other → get_elem? s.views j ≡ some u → (q : ℕ) → u.token ≡ suc q → r.owner q ≢ id
      others_far j u far_off here q is same = let l = r.tokens j u here q is in let both : some l.lender ≡ some v = sym l.there ∙ (ap (get_elem? s.views) same ∙ at) in
          let own : v.has ≡ suc q = ap (λ (x : View). x.has) (sym (some-injective l.lender v both)) ∙ l.has in let one : q ≡ k = omega arith in
          far_off (sym l.mine ∙ (ap r.keeper one ∙ (r.tokens other t (was_there s id other (repaid v t) t apart there0) k token).mine))

      mine_far : (q : ℕ) → v.token ≡ suc q → r.owner q ≢ id
      mine_far q is same = let l = r.tokens id v at q is in let both : some l.lender ≡ some v = sym l.there ∙ (ap (get_elem? s.views) same ∙ at) in
          l.apart (ap (λ (x : View). x.has) (sym (some-injective l.lender v both)) ∙ l.has)

      tokens : (j : ℕ) (u : View) → get_elem? (set (set s.views id (repaid v t)) other spent) j ≡ some u → (q : ℕ) → u.token ≡ suc q → Lent q (r.keeper q) (r.owner q) (set (set s.views id (repaid v t)) other spent) j u
      tokens j u here q is = ⊎_elim
          (λ (p : (j ≡ other) × (spent ≡ u)). let wrong : 0 ≡ suc q = ap (λ (x : View). x.token) p.1 ∙ is in absurd (omega arith))
          (λ (p : (j ≢ other) × (get_elem? (set s.views id (repaid v t)) j ≡ some u)). ⊎_elim
          (λ (z : (j ≡ id) × (repaid v t ≡ u)). let mine : v.token ≡ suc q = ap (λ (x : View). x.token) z.1 ∙ is in
          subst (λ (y : ℕ × View). Lent q (r.keeper q) (r.owner q) (set (set s.views id (repaid v t)) other spent) y.0 y.1) (λ i. (sym z.0 i, z.1 i))
          (same_token q (r.keeper q) (r.owner q) (set (set s.views id (repaid v t)) other spent) id v (repaid v t) refl refl (rest_of id v at q mine (mine_far q mine))))
          (λ (z : (j ≢ id) × (get_elem? s.views j ≡ some u)). rest_of j u z.1 q is (others_far j u p.0 z.1 q is)) (at_set s.views id j (repaid v t) u p.1))
          (at_set (set s.views id (repaid v t)) other j spent u here)

-- both seats are at last as they were
pub one_same : (m m1 m2 : SeatState) (t : View) → m1 ≡ (lends m.0, m.1) → m2 ≡ (repaid m1.0 t, m1.1) → m.0.lent ≡ false → m2 ≡ m
one_same m m1 m2 t e f kept_it = f ∙ (ap (λ (x : SeatState). let y : SeatState = (repaid x.0 t, x.1) in y) e ∙ ap (λ (b : Bool). let y : SeatState = (record m.0 { lent = b }, m.1) in y) (sym kept_it))

pub other_same : (m m1 m2 m3 : SeatState) (t : View) → m1 ≡ (shown m.0 t, m.1) → m2 ≡ m1 → m3 ≡ (hidden m2.0, m2.1) → m.0.token ≡ 0 → m3 ≡ m
other_same m m1 m2 m3 t e f g no_one = g ∙ (ap (λ (x : SeatState). let y : SeatState = (hidden x.0, x.1) in y) (f ∙ e) ∙ ap (λ (n : ℕ). let y : SeatState = (record m.0 { token = n }, m.1) in y) (sym no_one))
