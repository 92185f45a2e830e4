-- The load, the compare-exchange and the swap keep the rule of a turn's table.
use Rattle.std.proofs.Common.{◌≡◌, ◌≢◌, ℕ, zero, suc, ◌+◌, ◌*◌, ◌/◌, ◌%◌, ◌<◌, Bool, true, false, eqb, List, [], ◌∷◌, ◌++◌, length, get_or, set, sym, refl, ap, ◌∙◌, subst, ⊎_elim, arith, length-set, Option, Some, None, unwrap_or, cond, inl, inr, eq-eqb, MatchOption, ap₂}
use mathlib.Core.Option.{none, some, some-injective, some-ne-none}
use mathlib.Core.Logic.{dite}
use native.Mathlib.Decide.{ℕ_discrete}
use prog.Atomic.{either}
use lib.ListN.{get_elem?}
use Rattle.atomic_table.specs.Table.{State, Me, Act, step, keeps, takes, gives, stepped, carried_after, Valid, Allows, rest}
use Rattle.atomic_table.proofs.Lists.{at_set, set_here, set_else, exchanged}
use Rattle.up_model.specs.declared.entry.Entry.{Entry}
use Rattle.up_turn.specs.Placing.{has, Begins, Tally}
use Rattle.up_turn.specs.Standing.{Counts, GoesOn}
use Rattle.up_turn.specs.Turned.{Fits, IsHome, Turned}
use Rattle.up_turn.specs.SeatSteps.{found, came_in, gone_out, Counted, fronted, agreed, Entered, entered, left, InHand}
use Rattle.up_turn.specs.declared.view.View.{View}
use Rattle.up_turn.proofs.Placings.{begins_same, has_append}
use Rattle.up_turn.proofs.Views.{others_fit, whole_tally, counted, found_fits, came_fits, out_later, quiet_out, out_tally, gone_fits, apart_out, known_out}

-- an index at which something stands is below the length
pub within : {A : Type 0} (l : List A) (j : ℕ) (a : A) → get_elem? l j ≡ some a → j < length l
within [] j a e = absurd (some-ne-none a (sym e))
within (x ∷ xs) zero a e = omega arith
within (x ∷ xs) (suc j) a e = let h = within xs j a e in omega arith

module _ {S : Type 0} (kin : S → Type 0) (list : S → List Entry) (actors : ℕ) (s : State (Option S) View) (r : Turned kin list actors s) (id : ℕ) (v : View) (at : get_elem? s.views id ≡ some v) where
  -- a step that changes the seat's view alone
  pub view_changes : (ws : List ℕ) (w : View) → ws ≡ s.words → w.inside ≡ v.inside → Fits r.log r.held r.holder r.root actors r.owner id w → Turned kin list actors record { words = ws; homes = s.homes; views = set s.views id w }
  view_changes ws w same in_same f = record {
    log = r.log;
    held = r.held;
    holder = r.holder;
    root = r.root;
    owner = r.owner;
    word = same ∙ r.word;
    bit = r.bit;
    slots = r.slots;
    free = r.free;
    busy = λ taken. let h = r.busy taken in dite (ℕ_discrete r.holder id)
        (λ (me : r.holder ≡ id). let both : some h.view ≡ some v = sym h.there ∙ (ap (get_elem? s.views) me ∙ at) in
        record { view = w; there = ap (get_elem? (set s.views id w)) me ∙ set_here s.views id w (within s.views id v at); inside = in_same ∙ (ap (λ (x : View). x.inside) (sym (some-injective h.view v both)) ∙ h.inside) })
        (λ (other : r.holder ≢ id). record { view = h.view; there = set_else s.views id r.holder w other ∙ h.there; inside = h.inside });
    known = r.known;
    each = λ j u there. ⊎_elim (λ (t : (j ≡ id) × (w ≡ u)). subst (λ (z : ℕ × View). Fits r.log r.held r.holder r.root actors r.owner z.0 z.1) (λ i. (sym t.0 i, t.1 i)) f)
        (λ (t : (j ≢ id) × (get_elem? s.views j ≡ some u)). r.each j u t.1) (at_set s.views id j w u there);
  }

  -- the word that a step finds
  pub word_is : get_or s.words 0 0 ≡ length r.log * 2 + r.held
  word_is = ap (λ (ws : List ℕ). get_or ws 0 0) r.word

  pub same_words : set s.words 0 (get_or s.words 0 0) ≡ s.words
  same_words = ap (λ (ws : List ℕ). set ws 0 (get_or ws 0 0)) r.word ∙ sym r.word

  -- where the word is even no pass is inside, and this seat may be let in
  module _ (h : IsHome kin list r.log s.homes) (counts : Counts v.first v.numbers) (free : r.held ≡ 0) (new : ℕ) (odd : new ≡ length r.log * 2 + 1) where
    pub let_in : Turned kin list actors (stepped s 0 new id [] (came_in v (list h.value)) (takes 0 (Some h.value)))
    let_in = let w : View = came_in v (list h.value) in record {
      log = r.log;
      held = 1;
      holder = id;
      root = r.root;
      owner = r.owner;
      word = ap (λ (ws : List ℕ). set ws 0 new) r.word ∙ ap (λ (n : ℕ). n ∷ []) odd;
      bit = omega arith;
      slots = length-set s.homes 0 none ∙ r.slots;
      free = λ (no_one : 1 ≡ 0). absurd (omega arith);
      busy = λ _. record { view = w; there = set_here s.views id w (within s.views id v at); inside = refl };
      known = r.known;
      each = λ j u there. ⊎_elim
          (λ (t : (j ≡ id) × (w ≡ u)). subst (λ (z : ℕ × View). Fits r.log 1 id r.root actors r.owner z.0 z.1) (λ i. (sym t.0 i, t.1 i))
          (subst (λ (l : List Entry). Fits r.log 1 id r.root actors r.owner id (came_in v l)) (sym h.is) (came_fits r.log r.held r.holder r.root actors r.owner id v (r.each id v at) counts)))
          (λ (t : (j ≢ id) × (get_elem? s.views j ≡ some u)). others_fit r.log r.log r.held 1 r.holder id r.root r.root actors r.owner r.owner j u (begins_same r.log) (λ n has_it e. e) (λ n has_it e. refl) (λ is e. e)
          (λ i. let taken = i.taken in absurd (omega arith)) (r.each j u t.1)) (at_set s.views id j w u there);
    }

  -- the seat that is inside brings the value back
  module _ (y : S) (cs : List (ℕ × Option S)) (inside : v.inside ≡ true) (g : GoesOn v.numbers v.seen (list y)) (fits : kin y) (new : ℕ) (even : new ≡ length (list y) * 2) where
    mine : Fits r.log r.held r.holder r.root actors r.owner id v
    mine = r.each id v at

    pub let_out : Turned kin list actors (stepped s 0 new id ((0, Some y) ∷ cs) (gone_out v (list y)) gives)
    let_out = let w : View = gone_out v (list y) in record {
      log = list y;
      held = 0;
      holder = r.holder;
      root = r.root;
      owner = r.owner;
      word = ap (λ (ws : List ℕ). set ws 0 new) r.word ∙ ap (λ (n : ℕ). n ∷ []) (even ∙ (let z : length (list y) * 2 ≡ length (list y) * 2 + 0 = omega arith in z));
      bit = omega arith;
      slots = length-set s.homes 0 (some (Some y)) ∙ r.slots;
      free = λ _. record { value = y; there = set_here s.homes 0 (some (Some y)) (let one = r.slots in omega arith); is = refl; fits = fits };
      busy = λ (no_one : 0 ≡ 1). absurd (omega arith);
      known = λ n high. quiet_out r.log r.held r.holder r.root actors r.owner id v mine (list y) inside g n (known_out r.log r.held r.holder r.root actors r.owner id v mine (list y) inside g n high) ∙ r.known n high;
      each = λ j u there. ⊎_elim
          (λ (t : (j ≡ id) × (w ≡ u)). subst (λ (z : ℕ × View). Fits (list y) 0 r.holder r.root actors r.owner z.0 z.1) (λ i. (sym t.0 i, t.1 i)) (gone_fits r.log r.held r.holder r.root actors r.owner id v mine (list y) inside g))
          (λ (t : (j ≢ id) × (get_elem? s.views j ≡ some u)). others_fit r.log (list y) r.held 0 r.holder r.holder r.root r.root actors r.owner r.owner j u
          (out_later r.log r.held r.holder r.root actors r.owner id v mine (list y) inside g) (λ n has_it e. e)
          (λ n has_it e. quiet_out r.log r.held r.holder r.root actors r.owner id v mine (list y) inside g n (apart_out r.log r.held r.holder r.root actors r.owner id v mine (list y) inside g n j e t.0)) (λ is e. e)
          (λ i. absurd (t.0 (sym i.alone ∙ (mine.inside inside).alone))) (r.each j u t.1)) (at_set s.views id j w u there);
    }

pub looks : {S : Type 0} (kin : S → Type 0) (list : S → List Entry) (actors slots id : ℕ) (me : Me (Option S) View) → Allows (Turned kin list actors) slots id me 0 (λ n. n) (fronted (step slots 0 0 0 none) me)
looks {S} kin list actors slots id me s r _ at _ = let n : ℕ = get_or s.words 0 0 in let is = word_is kin list actors s r id me.0 at in let small = r.bit in let count : n / 2 ≡ length r.log = omega arith in
    let f = r.each id me.0 at in let w : View = found me.0 (n / 2) in (
      w,
      keeps,
      tt,
      view_changes kin list actors s r id me.0 at (set s.words 0 n) w (same_words kin list actors s r id me.0 at) refl
          (subst (λ (k : ℕ). Fits r.log r.held r.holder r.root actors r.owner id (found me.0 k)) (sym count) (found_fits r.log r.held r.holder r.root actors r.owner id me.0 f)),
      (refl, subst (Counted me.0) (sym count) (counted r.log r.held r.holder r.root actors r.owner id me.0 f)),
    )

pub settles : {S : Type 0} (kin : S → Type 0) (list : S → List Entry) (actors slots id : ℕ) (me : Me (Option S) View) → Allows (Turned kin list actors) slots id me 0 (λ n. n) (agreed (step slots 0 0 0 none) me)
settles {S} kin list actors slots id me s r _ at _ = let n : ℕ = get_or s.words 0 0 in let f = r.each id me.0 at in (
  me.0,
  keeps,
  tt,
  view_changes kin list actors s r id me.0 at (set s.words 0 n) me.0 (same_words kin list actors s r id me.0 at) refl f,
  (refl, record { one = f.one; other = f.other; tally = f.tally }),
)

pub enters : {S : Type 0} (kin0 kin : S → Type 0) (list : S → List Entry) (actors slots id old : ℕ) (v : View) → old % 2 ≡ 0 → Counts v.first v.numbers → ((x : S) → kin0 x → kin x)
    → (let me : Me (Option S) View = (v, []) in Allows (Turned kin0 list actors) slots id me 0 (λ n. either (eqb n old) (old + 1) n) (entered kin list (step slots 0 old (old + 1) none) me))
enters {S} kin0 kin list actors slots id old v even counts lift s r _ at _ = let me : Me (Option S) View = (v, []) in let n : ℕ = get_or s.words 0 0 in let is = word_is kin0 list actors s r id v at in let small = r.bit in let f = r.each id v at in
    exchanged n old (old + 1) (λ b. (w : View) × (a : Act (Option S)) × Valid s.homes [] a × Turned kin0 list actors (stepped s 0 b id [] w a) × entered kin list (step slots 0 old (old + 1) none) me n (w, carried_after [] a))
    (λ (hit : n ≡ old). let free : r.held ≡ 0 = omega arith in let h = r.free free in let odd : old + 1 ≡ length r.log * 2 + 1 = omega arith in (
      came_in v (list h.value),
      takes 0 (Some h.value),
      h.there,
      let_in kin0 list actors s r id v at h counts free (old + 1) odd,
      (
        (λ _. record {
          value = h.value;
          fits = lift h.value h.fits;
          later = subst (Begins v.seen) (sym h.is) f.seen;
          was = f.tally;
          tally = subst (Tally v.numbers v.own) (sym h.is) (whole_tally r.log r.held r.holder r.root actors r.owner id v f);
          finds = let same = ap length h.is in λ i d l. (let low = f.found i d l in omega arith);
          is = refl;
        }),
        (λ (other : n ≢ old). absurd (other hit)),
      ),
    ))
    (λ (miss : n ≢ old). (
      v,
      keeps,
      tt,
      view_changes kin0 list actors s r id v at (set s.words 0 n) v (same_words kin0 list actors s r id v at) refl f,
      ((λ (hit : n ≡ old). absurd (miss hit)), (λ _. refl)),
    ))

same_value : {S : Type 0} (y x : S) (cs ds : List (ℕ × Option S)) → (0, Some y) ∷ cs ≡ (0, Some x) ∷ ds → y ≡ x
same_value {S} y x cs ds e = ap (λ (xs : List (ℕ × Option S)). unwrap_or (get_or xs 0 (0, Some y)).1 y) e

pub leaves : {S : Type 0} (kin : S → Type 0) (list : S → List Entry) (actors slots id new : ℕ) (v : View) (y : S) (cs : List (ℕ × Option S)) → v.inside ≡ true → GoesOn v.numbers v.seen (list y) → kin y → new ≡ length (list y) * 2
    → (let me : Me (Option S) View = (v, (0, Some y) ∷ cs) in Allows (Turned kin list actors) slots id me 0 (λ _. new) (left list (step slots 0 new 0 none) me))
leaves {S} kin list actors slots id new v y cs inside g fits even s r _ at _ = let f = r.each id v at in let m' : Me (Option S) View = (gone_out v (list y), cs) in
    let done : (m' ≡ (gone_out v (list y), cs)) × Tally m'.0.numbers m'.0.own m'.0.seen = (refl, out_tally r.log r.held r.holder r.root actors r.owner id v f (list y) inside g) in (
      gone_out v (list y),
      gives,
      tt,
      let_out kin list actors s r id v at y cs inside g fits new even,
      λ x e. subst (λ (z : S). (m' ≡ (gone_out v (list z), cs)) × Tally m'.0.numbers m'.0.own m'.0.seen) (same_value y x cs cs e) done,
    )

-- the same of a seat whose slots are known by an equation
pub enters_at : {S : Type 0} (kin0 kin : S → Type 0) (list : S → List Entry) (actors slots id old : ℕ) (me : Me (Option S) View) → me.1 ≡ [] → old % 2 ≡ 0 → Counts me.0.first me.0.numbers → ((x : S) → kin0 x → kin x)
    → Allows (Turned kin0 list actors) slots id me 0 (λ n. either (eqb n old) (old + 1) n) (entered kin list (step slots 0 old (old + 1) none) me)
enters_at {S} kin0 kin list actors slots id old me bare even counts lift = subst
    (λ (cs : List (ℕ × Option S)). (let m : Me (Option S) View = (me.0, cs) in Allows (Turned kin0 list actors) slots id m 0 (λ n. either (eqb n old) (old + 1) n) (entered kin list (step slots 0 old (old + 1) none) m)))
    (sym bare) (enters kin0 kin list actors slots id old me.0 even counts lift)

pub leaves_at : {S : Type 0} (kin : S → Type 0) (list : S → List Entry) (actors slots id new : ℕ) (me : Me (Option S) View) (v : View) (y : S) (cs : List (ℕ × Option S)) → me ≡ (v, (0, Some y) ∷ cs) → v.inside ≡ true → GoesOn v.numbers v.seen (list y) → kin y
    → new ≡ length (list y) * 2 → Allows (Turned kin list actors) slots id me 0 (λ _. new) (left list (step slots 0 new 0 none) me)
leaves_at {S} kin list actors slots id new me v y cs is inside g fits even = subst (λ (m : Me (Option S) View). Allows (Turned kin list actors) slots id m 0 (λ _. new) (left list (step slots 0 new 0 none) m))
    (sym is) (leaves kin list actors slots id new v y cs inside g fits even)

-- what was taken last
pub slot_of : {S : Type 0} (cs ds : List (ℕ × S)) (x : ℕ × S) → cs ≡ x ∷ ds → cs ≡ x ∷ rest cs
slot_of {S} cs ds x e = e ∙ ap (λ (l : List (ℕ × S)). x ∷ l) (sym (ap rest e))

-- the value is in hand once it was moved out of its slot
pub in_hand : {S : Type 0} (kin : S → Type 0) (list : S → List Entry) (m m' m'' : Me (Option S) View) (e : Entered kin list m m') → m.1 ≡ [] → (x : Option S) → m'.1 ≡ (0, x) ∷ rest m'.1 → m'' ≡ (m'.0, (0, None) ∷ rest m'.1)
    → MatchOption x (m'' ≡ m) (λ y. kin y × InHand list m.0 m'' y)
in_hand {S} kin list m m' m'' e bare x was is =
    let taken : m'.1 ≡ (0, Some e.value) ∷ m.1 = ap (λ (z : Me (Option S) View). z.1) e.is in
    let both : (0, Some e.value) ∷ m.1 ≡ (0, x) ∷ rest m'.1 = sym taken ∙ was in
    let same : Some e.value ≡ x = ap (λ (xs : List (ℕ × Option S)). (get_or xs 0 (0, x)).1) both in
    let left_over : rest m'.1 ≡ [] = ap rest taken ∙ bare in
    subst (λ (o : Option S). MatchOption o (m'' ≡ m) (λ y. kin y × InHand list m.0 m'' y)) same (
      e.fits,
      record {
        later = e.later;
        was = e.was;
        tally = e.tally;
        finds = e.finds;
        is = is ∙ ap₂ (λ (w : View) (cs : List (ℕ × Option S)). (w, (0, None) ∷ cs)) (ap (λ (z : Me (Option S) View). z.0) e.is) left_over;
      },
    )

pub joined_counts : (a b : Bool) (ms ns : List ℕ) → Counts a ms → Counts (cond a true b) (ms ++ ns)
joined_counts a b ms ns c = ⊎_elim (λ (h : a ≡ true). inl (ap (λ (x : Bool). cond x true b) h)) (λ (t : (n : ℕ) × (has ms n ≡ true)). inr (t.0, has_append ms ns t.0 ∙ ap (λ (x : Bool). cond x true (has ns t.0)) t.1)) c

pub one_counts : (who : ℕ) → Counts false (who ∷ [])
one_counts who = inr (who, ap (λ (x : Bool). cond x true false) (eq-eqb who who refl))
