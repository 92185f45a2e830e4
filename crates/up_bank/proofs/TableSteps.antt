-- Each kind of step on a bank's table keeps its rule.
use Rattle.std.proofs.Common.{◌≡◌, ◌≢◌, ℕ, zero, suc, ◌+◌, ◌-◌, ◌*◌, ◌/◌, ◌%◌, ◌^◌, ◌<◌, Bool, false, cond, List, [], ◌∷◌, length, get_or, set, map, replicate, sym, refl, ap, ◌∙◌, subst, arith, length-set, get_or-set_same, get_or-set_other, eq-eqb, ne_eqb, Some, None}
use Rattle.std.specs.Int.{bit_at}
use Rattle.std.specs.Prelude.{bit_and, bit_or}
use Rattle.std.proofs.lemmas.Nat.Bits.{bit_at_ones, bit_at-zero, bit_at-lt}
use mathlib.Core.Logic.{dite}
use mathlib.Core.Option as maybe
use mathlib.Core.Option.{none, some, some-injective}
use native.Mathlib.Decide.{ℕ_discrete}
use lib.ListN.{get_elem?, length-map, length-replicate, get_or-replicate}
use lib.Seq.{set-get_or}
use Rattle.atomic_table.specs.Table.{step, keeps, takes, gives, Allows, opening}
use Rattle.atomic_table.proofs.Lists.{set_here, set_else}
use Rattle.up_bank.specs.Bytes.{Given, zero_bytes, bytes_of, Extends}
use Rattle.up_bank.specs.Find.{words_of}
use Rattle.up_bank.specs.Banked.{Vault, home_bit, empty_bit, Has, Alone, Met, Banked, newcomer}
use Rattle.up_bank.specs.SeatSteps.{Slot, SeatState, mask_of, saw, fetched, AsKnown, Learns, looked, took, Hit, cleared, vacated, reclaimed, gave, Put, restored}
use Rattle.up_bank.specs.declared.view.View.{View}
use Rattle.up_bank.specs.declared.kind.FrameKind.{FrameKind}
use Rattle.up_bank.proofs.Lists.{extends_none, bit_of, OthersStay, clear_stays, clear_here, set_stays, set_one, one_mask, homes_else, home_here, empties_apart, empties_else, empty_here, homes_apart}
use Rattle.up_bank.proofs.OneFrameMoves.{Moves, moved, SameHand, stays, extends_more}

-- a bit that isn't 1 is 0
pub not_one : (n i : ℕ) → bit_at n i ≢ 1 → bit_at n i ≡ 0
not_one n i other = let small = bit_at-lt n i in let b : ℕ = bit_at n i in let s : b < 2 = small in let o : b ≢ 1 = other in let zero_then : b ≡ 0 = omega arith in zero_then

-- the newest return of a frame is the one that counts
pub newest : (gs : List Given) (k : ℕ) (b : List ℕ) → bytes_of (record { number = k; bytes = b } ∷ gs) k ≡ b
newest gs k b = ap (λ (t : Bool). cond t b (bytes_of gs k)) (eq-eqb k k refl)

-- it is no other's
pub older : (gs : List Given) (k q : ℕ) (b : List ℕ) → q ≢ k → bytes_of (record { number = k; bytes = b } ∷ gs) q ≡ bytes_of gs q
older gs k q b other = ap (λ (t : Bool). cond t b (bytes_of gs q)) (ne_eqb k q (λ e. other (sym e)))

module _ (frames : ℕ) (s : Vault) (r : Banked frames s) where
  -- a frame's two words are there
  words_there : (k : ℕ) → k < frames → k / 64 * 2 + 1 < length s.words
  words_there k l = let wide : length s.words ≡ (frames + 63) / 64 * 2 = r.wide in omega arith

  slot_there : (k : ℕ) → k < frames → k < length s.homes
  slot_there k l = let deep = r.slots in omega arith

  -- a frame at home has no empty slot
  not_both : (k : ℕ) → k < frames → home_bit s.words k ≡ 1 → empty_bit s.words k ≡ 0
  not_both k l home = not_one (get_or s.words (k / 64 * 2 + 1) 0) (k % 64) (λ full. let here = r.home k l home in let empty = r.empty k l full in let wrong = sym here ∙ empty in cc)

  as_known : (id word : ℕ) (v : View) → get_elem? s.views id ≡ some v → AsKnown v word (get_or s.words (word * 2) 0)
  as_known id word v at sole number e l = let a = r.sole id v at sole in let long = a.long in let inside : number < frames = omega arith in
      a.knows number inside ∙ ap (λ (i : ℕ). bit_at (get_or s.words (i * 2) 0) (number % 64)) e

  learns : (id : ℕ) (v : View) → get_elem? s.views id ≡ some v → Learns v r.gives
  learns id v at = record { later = r.seen id v at; alone = λ sole. sym (r.sole id v at sole).all }

pub looks : (frames slots id word : ℕ) (me : SeatState) → me.0.rests ≡ false → Allows (Banked frames) slots id me (word * 2) (λ n. n) (looked (step slots (word * 2) 0 0 none) me)
looks frames slots id word me acts s r _ at _ = let was : ℕ = get_or s.words (word * 2) 0 in let w : View = saw me.0 word was in
    let same : SameHand me.0 w = record { has = refl; empty = refl; sole = refl; home = refl; gives = refl; one = refl; other = refl; token = refl } in (
      w,
      keeps,
      tt,
      subst (λ (ws : List ℕ). Banked frames record { words = ws; homes = s.homes; views = set s.views id w }) (sym (set-get_or s.words (word * 2) 0))
          (stays frames id me.0 w s r at acts s.words refl (λ q. refl) (λ q. refl) same),
      λ q e. let here : word ≡ q = omega arith in subst (λ (z : ℕ). ((let m : SeatState = (w, me.1) in m) ≡ (saw me.0 z was, me.1)) × AsKnown me.0 z was) here (refl, as_known frames s r id word me.0 at),
    )

-- the frame was at home
module _ (frames id k : ℕ) (me : SeatState) (inside : k < frames) (acts : me.0.rests ≡ false) (bare : me.0.has ≡ 0) (s : Vault) (r : Banked frames s) (at : get_elem? s.views id ≡ some me.0) where
  abbrev found : ℕ
  found = get_or s.words (k / 64 * 2) 0

  abbrev left_over : List ℕ
  left_over = set s.words (k / 64 * 2) (bit_and found (mask_of k))

  there : k / 64 * 2 + 1 < length s.words
  there = words_there frames s r k inside

  gone_now : home_bit left_over k ≡ 0
  gone_now = home_here s.words k (bit_and found (mask_of k)) there ∙ clear_here found k

  clear_moves : home_bit s.words k ≡ 1 → Moves frames id k me.0 (took me.0 k found r.gives) s r left_over (set s.homes k none) r.gives
  clear_moves home = record {
    inside = inside;
    acts = acts;
    wide = length-set s.words (k / 64 * 2) (bit_and found (mask_of k));
    slots = length-set s.homes k none;
    homes_else = λ q other. homes_else s.words k (bit_and found (mask_of k)) there q (clear_stays found k) other;
    empties_else = λ q other. empties_apart s.words k (bit_and found (mask_of k)) there q;
    slots_else = λ q other. set_else s.homes k q none other;
    bytes_else = λ q other. refl;
    home = λ one. let none_left = gone_now in absurd (omega arith);
    empty = λ one. let full = not_both frames s r k inside home in let same = empties_apart s.words k (bit_and found (mask_of k)) there k in absurd (omega arith);
    out = λ _. refl;
    nobody = λ j u other has_it own. let gone = (r.each j u has_it k own).gone in absurd (omega arith);
    before = λ q has. absurd (omega arith);
    after = λ q has. let same : q ≡ k = omega arith in (same, gone_now, empties_apart s.words k (bit_and found (mask_of k)) there k ∙ not_both frames s r k inside home);
    history = extends_none r.gives;
    seen = extends_none r.gives;
    was_sole = λ sole. sole;
    long = length-set me.0.home k 0;
    knows = λ sole. let long = (r.sole id me.0 at sole).long in get_or-set_same me.0.home k 0 0 (omega arith) ∙ sym gone_now;
    knows_else = λ q other. get_or-set_other me.0.home k q 0 0 other;
    all = λ _. refl;
    token = refl;
    later = r.seen id me.0 at;
    one = refl;
    other = refl;
  }

  miss_stays : bit_at found (k % 64) ≡ 0 → Banked frames record { words = left_over; homes = s.homes; views = set s.views id (fetched me.0 k found) }
  miss_stays zero_bit = let same : SameHand me.0 (fetched me.0 k found) = record { has = refl; empty = refl; sole = refl; home = refl; gives = refl; one = refl; other = refl; token = refl } in
      stays frames id me.0 (fetched me.0 k found) s r at acts left_over (length-set s.words (k / 64 * 2) (bit_and found (mask_of k)))
      (λ q. dite (ℕ_discrete q k) (λ (e : q ≡ k). subst (λ (z : ℕ). home_bit left_over z ≡ home_bit s.words z) (sym e) (gone_now ∙ sym zero_bit))
      (λ other. homes_else s.words k (bit_and found (mask_of k)) there q (clear_stays found k) other))
      (λ q. empties_apart s.words k (bit_and found (mask_of k)) there q) same

pub clears : (frames slots id k : ℕ) (me : SeatState) → k < frames → me.0.rests ≡ false → me.0.has ≡ 0
    → Allows (Banked frames) slots id me (k / 64 * 2) (λ n. bit_and n (mask_of k)) (cleared (step slots (k / 64 * 2) (mask_of k) 0 none) me)
clears frames slots id k me inside acts bare s r _ at _ = let was : ℕ = get_or s.words (k / 64 * 2) 0 in
    let known : AsKnown me.0 (k / 64) was = as_known frames s r id (k / 64) me.0 at in dite (ℕ_discrete (bit_at was (k % 64)) 1)
    (λ (one : bit_at was (k % 64) ≡ 1). let m' : SeatState = (took me.0 k was r.gives, (k, Some (bytes_of r.gives k)) ∷ me.1) in
    let hit : Hit k me was m' = record { gives = r.gives; learns = learns frames s r id me.0 at; is = refl } in (
      took me.0 k was r.gives,
      takes k (Some (bytes_of r.gives k)),
      r.home k inside one,
      moved frames id k me.0 (took me.0 k was r.gives) s r at (set s.words (k / 64 * 2) (bit_and was (mask_of k))) (set s.homes k none) r.gives (clear_moves frames id k me inside acts bare s r at one),
      λ q word mask. let same : q ≡ k = one_mask q k (sym word) (sym mask) in
          subst (λ (z : ℕ). AsKnown me.0 (z / 64) was × (bit_at was (z % 64) ≡ 1 → Hit z me was m') × (bit_at was (z % 64) ≡ 0 → m' ≡ (fetched me.0 z was, me.1))) (sym same)
          (known, (λ _. hit), (λ zero_bit. absurd (omega arith))),
    ))
    (λ other. let zero_bit : bit_at was (k % 64) ≡ 0 = not_one was (k % 64) other in let m' : SeatState = (fetched me.0 k was, me.1) in (
      fetched me.0 k was,
      keeps,
      tt,
      miss_stays frames id k me inside acts bare s r at zero_bit,
      λ q word mask. let same : q ≡ k = one_mask q k (sym word) (sym mask) in
          subst (λ (z : ℕ). AsKnown me.0 (z / 64) was × (bit_at was (z % 64) ≡ 1 → Hit z me was m') × (bit_at was (z % 64) ≡ 0 → m' ≡ (fetched me.0 z was, me.1))) (sym same)
          (known, (λ one. absurd (other one)), (λ _. refl)),
    ))

-- the seat has the frame, and holds its slot or not
module _ (frames id k : ℕ) (v : View) (has : v.has ≡ suc k) (acts : v.rests ≡ false) (s : Vault) (r : Banked frames s) (at : get_elem? s.views id ≡ some v) where
  abbrev hold : Has frames k s.words (r.owner k) id v
  hold = r.each id v at k has

  inside_now : k < frames
  inside_now = hold.within

  abbrev empties : ℕ
  empties = get_or s.words (k / 64 * 2 + 1) 0

  -- the word of empty slots becomes another, and the slot too
  slot_moves : (now e : ℕ) (slot : maybe.Option Slot) → OthersStay k empties now → bit_at now (k % 64) ≡ e → (e ≡ 1 → slot ≡ some None)
      → Moves frames id k v (record v { empty = e }) s r (set s.words (k / 64 * 2 + 1) now) (set s.homes k slot) r.gives
  slot_moves now e slot stay bit full = let inside = inside_now in let there = words_there frames s r k inside_now in let gone : home_bit (set s.words (k / 64 * 2 + 1) now) k ≡ 0 = homes_apart s.words k now there k ∙ hold.gone in record {
    inside = inside;
    acts = acts;
    wide = length-set s.words (k / 64 * 2 + 1) now;
    slots = length-set s.homes k slot;
    homes_else = λ q other. homes_apart s.words k now there q;
    empties_else = λ q other. empties_else s.words k now there q stay other;
    slots_else = λ q other. set_else s.homes k q slot other;
    bytes_else = λ q other. refl;
    home = λ one. absurd (omega arith);
    empty = λ one. set_here s.homes k slot (slot_there frames s r k inside) ∙ ap some (full (sym bit ∙ (sym (empty_here s.words k now there) ∙ one)));
    out = λ _. has;
    nobody = λ j u other has_it own. other (sym (r.each j u has_it k own).mine ∙ hold.mine);
    before = λ q own. omega arith;
    after = λ q own. let same : q ≡ k = omega arith in (same, gone, empty_here s.words k now there ∙ bit);
    history = extends_none r.gives;
    seen = r.seen id v at;
    was_sole = λ sole. sole;
    long = refl;
    knows = λ sole. (r.sole id v at sole).knows k inside ∙ sym (homes_apart s.words k now there k);
    knows_else = λ q other. refl;
    all = λ sole. (r.sole id v at sole).all;
    token = refl;
    later = extends_none v.gives;
    one = refl;
    other = refl;
  }

  abbrev homes : ℕ
  homes = get_or s.words (k / 64 * 2) 0

  give_moves : (b : List ℕ) → v.empty ≡ 0
      → Moves frames id k v (gave v k homes b r.gives) s r (set s.words (k / 64 * 2) (bit_or homes (bit_of k))) (set s.homes k (some (Some b))) (record { number = k; bytes = b } ∷ r.gives)
  give_moves b held = let now : ℕ = bit_or homes (bit_of k) in let inside = inside_now in let there = words_there frames s r k inside_now in
      let one : home_bit (set s.words (k / 64 * 2) now) k ≡ 1 = home_here s.words k now there ∙ set_one homes k in let gs : List Given = record { number = k; bytes = b } ∷ r.gives in record {
        inside = inside;
        acts = acts;
        wide = length-set s.words (k / 64 * 2) now;
        slots = length-set s.homes k (some (Some b));
        homes_else = λ q other. homes_else s.words k now there q (set_stays homes k) other;
        empties_else = λ q other. empties_apart s.words k now there q;
        slots_else = λ q other. set_else s.homes k q (some (Some b)) other;
        bytes_else = λ q other. older r.gives k q b other;
        home = λ _. set_here s.homes k (some (Some b)) (slot_there frames s r k inside) ∙ ap (λ (x : List ℕ). some (some (Some x))) (sym (newest r.gives k b));
        empty = λ full. let same = empties_apart s.words k now there k in let is = hold.empty in absurd (omega arith);
        out = λ gone. absurd (omega arith);
        nobody = λ j u other has_it own. other (sym (r.each j u has_it k own).mine ∙ hold.mine);
        before = λ q own. omega arith;
        after = λ q (own : 0 ≡ suc q). absurd (omega arith);
        history = record { newer = record { number = k; bytes = b } ∷ []; is = refl };
        seen = extends_none gs;
        was_sole = λ sole. sole;
        long = length-set v.home k 1;
        knows = λ sole. let long = (r.sole id v at sole).long in get_or-set_same v.home k 1 0 (omega arith) ∙ sym one;
        knows_else = λ q other. get_or-set_other v.home k q 1 0 other;
        all = λ _. refl;
        token = refl;
        later = extends_more v.gives r.gives gs (r.seen id v at) (record { newer = record { number = k; bytes = b } ∷ []; is = refl });
        one = refl;
        other = refl;
      }

pub vacates : (frames slots id k : ℕ) (v : View) (cs : List (ℕ × Slot)) → v.has ≡ suc k → v.rests ≡ false
    → (let me : SeatState = (v, (k, None) ∷ cs) in Allows (Banked frames) slots id me (k / 64 * 2 + 1) (λ n. bit_or n (bit_of k)) (vacated (step slots (k / 64 * 2 + 1) (bit_of k) 0 none) me))
vacates frames slots id k v cs has acts s r _ at _ = let was : ℕ = get_or s.words (k / 64 * 2 + 1) 0 in (
  record v { empty = 1 },
  gives,
  tt,
  moved frames id k v (record v { empty = 1 }) s r at (set s.words (k / 64 * 2 + 1) (bit_or was (bit_of k))) (set s.homes k (some None)) r.gives
      (slot_moves frames id k v has acts s r at (bit_or was (bit_of k)) 1 (some None) (set_stays was k) (set_one was k) (λ _. refl)),
  refl,
)

pub reclaims : (frames slots id k : ℕ) (me : SeatState) → me.0.has ≡ suc k → me.0.empty ≡ 1 → me.0.rests ≡ false
    → Allows (Banked frames) slots id me (k / 64 * 2 + 1) (λ n. bit_and n (mask_of k)) (reclaimed (step slots (k / 64 * 2 + 1) (mask_of k) 0 none) me)
reclaims frames slots id k me has full acts s r _ at _ = let was : ℕ = get_or s.words (k / 64 * 2 + 1) 0 in let h = r.each id me.0 at k has in
    let m' : SeatState = (record me.0 { empty = 0 }, (k, None) ∷ me.1) in (
      record me.0 { empty = 0 },
      takes k None,
      r.empty k h.within (h.empty ∙ full),
      moved frames id k me.0 (record me.0 { empty = 0 }) s r at (set s.words (k / 64 * 2 + 1) (bit_and was (mask_of k))) (set s.homes k none) r.gives
          (slot_moves frames id k me.0 has acts s r at (bit_and was (mask_of k)) 0 none (clear_stays was k) (clear_here was k) (λ one. absurd (omega arith))),
      λ q own. let same : k ≡ q = omega arith in subst (λ (z : ℕ). m' ≡ (record me.0 { empty = 0 }, (z, None) ∷ me.1)) same refl,
    )

first_bytes : List (ℕ × Slot) → List ℕ
first_bytes [] = []
first_bytes ((k, None) ∷ cs) = []
first_bytes ((k, Some b) ∷ cs) = b

same_bytes : (k q : ℕ) (b d : List ℕ) (cs ds : List (ℕ × Slot)) → (k, Some b) ∷ cs ≡ (q, Some d) ∷ ds → b ≡ d
unfolding first_bytes
same_bytes k q b d cs ds e = ap first_bytes e

pub restores : (frames slots id k : ℕ) (v : View) (b : List ℕ) (cs : List (ℕ × Slot)) → v.has ≡ suc k → v.empty ≡ 0 → v.rests ≡ false
    → (let me : SeatState = (v, (k, Some b) ∷ cs) in Allows (Banked frames) slots id me (k / 64 * 2) (λ n. bit_or n (bit_of k)) (restored (step slots (k / 64 * 2) (bit_of k) 0 none) me))
restores frames slots id k v b cs has held acts s r _ at _ = let me : SeatState = (v, (k, Some b) ∷ cs) in let was : ℕ = get_or s.words (k / 64 * 2) 0 in let h = r.each id v at k has in
    let m' : SeatState = (gave v k was b r.gives, cs) in
    let done : Put k b me was m' = record { gives = r.gives; learns = learns frames s r id v at; gone = h.gone; known = as_known frames s r id (k / 64) v at; is = refl } in (
      gave v k was b r.gives,
      gives,
      tt,
      moved frames id k v (gave v k was b r.gives) s r at (set s.words (k / 64 * 2) (bit_or was (bit_of k))) (set s.homes k (some (Some b))) (record { number = k; bytes = b } ∷ r.gives)
          (give_moves frames id k v has acts s r at b held),
      λ q d own is. let same : k ≡ q = omega arith in let bytes : b ≡ d = same_bytes k q b d cs cs is in
          subst (λ (z : ℕ × List ℕ). Put z.0 z.1 me was m') (λ i. (same i, bytes i)) done,
    )

-- all frames are at home at the start
all_there : {A : Type 0} (n i : ℕ) (a : A) → i < n → get_elem? (map some (replicate n a)) i ≡ some (some a)
all_there zero i a l = absurd (omega arith)
all_there (suc n) zero a l = refl
all_there (suc n) (suc i) a l = all_there n i a (omega arith)

pub opens : (frames : ℕ) (kind : FrameKind) (words : List ℕ) → length words ≡ words_of frames * 2 → ((i : ℕ) → i < words_of frames → get_or words (i * 2) 0 ≡ 2 ^ 64 - 1)
    → ((i : ℕ) → i < words_of frames → get_or words (i * 2 + 1) 0 ≡ 0) → Banked frames (opening words (replicate frames (Some zero_bytes)) (newcomer frames kind))
opens frames kind words wide full empty = let s : Vault = opening words (replicate frames (Some zero_bytes)) (newcomer frames kind) in
    let home_all : (k : ℕ) → k < frames → home_bit words k ≡ 1 = (λ k l. ap (λ (n : ℕ). bit_at n (k % 64)) (full (k / 64) (omega arith)) ∙ bit_at_ones 64 (k % 64) (omega arith)) in
    let empty_none : (k : ℕ) → k < frames → empty_bit words k ≡ 0 = (λ k l. ap (λ (n : ℕ). bit_at n (k % 64)) (empty (k / 64) (omega arith)) ∙ bit_at-zero (k % 64)) in
    let one : (j : ℕ) (u : View) → get_elem? (newcomer frames kind ∷ []) j ≡ some u → (j ≡ 0) × (newcomer frames kind ≡ u) = (λ j u e. only j u e) in record {
      owner = λ _. 0;
      gives = [];
      wide = wide;
      slots = length-map (replicate frames (Some zero_bytes)) some ∙ length-replicate frames (Some zero_bytes);
      home = λ k l _. all_there frames k (Some zero_bytes) l;
      empty = λ k l full_bit. let none_is = empty_none k l in absurd (omega arith);
      out = λ k l gone. let home_is = home_all k l in absurd (omega arith);
      each = λ j u there k has. let wrong : 0 ≡ suc k = ap (λ (x : View). x.has) (one j u there).1 ∙ has in absurd (omega arith);
      seen = λ j u there. subst (λ (x : View). Extends x.gives []) (one j u there).1 (extends_none []);
      keeper = λ _. 0;
      met = λ j u there. subst Met (one j u there).1 (record { one = extends_none []; other = extends_none [] });
      tokens = λ j u there k is. let wrong : 0 ≡ suc k = ap (λ (x : View). x.token) (one j u there).1 ∙ is in absurd (omega arith);
      sole = λ j u there sole. let mine : Alone frames 0 (newcomer frames kind) s [] = record {
        others = λ i x here other. absurd (other (one i x here).0);
        long = length-replicate frames 1;
        knows = λ k l. get_or-replicate frames k 1 0 l ∙ sym (home_all k l);
        all = refl;
      } in subst (λ (z : ℕ × View). Alone frames z.0 z.1 s []) (λ i. (sym (one j u there).0 i, (one j u there).1 i)) mine;
    } where
      only : (j : ℕ) (u : View) → get_elem? (newcomer frames kind ∷ []) j ≡ some u → (j ≡ 0) × (newcomer frames kind ≡ u)
      only zero u e = (refl, some-injective (newcomer frames kind) u e)
      only (suc j) u e = absurd (maybe.some-ne-none u (sym e))
