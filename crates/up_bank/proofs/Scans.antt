-- A claim over the frames of a word, and over the words.
use Rattle.std.proofs.Common.{◌≡◌, ◌≢◌, ℕ, ◌+◌, ◌-◌, ◌*◌, ◌/◌, ◌%◌, ◌<◌, ◌≤◌, ◌⊎◌, true, List, [], ◌∷◌, ◌++◌, length, get_or, min, sym, refl, ap, ◌∙◌, subst, ⊎_elim, inl, inr, arith, append-nil, append_assoc, length-append, Option, Some, None}
use Rattle.std.specs.Int.{bit_at}
use Rattle.std.specs.List.{Any, sum}
use Rattle.std.specs.Prelude.{bit_and, MatchOption}
use Rattle.std.proofs.lemmas.List.{get_or_past, get_or_append_left, get_or-append_right, get_or_default}
use Rattle.std.proofs.lemmas.List.Quantifiers.{Any-push}
use Rattle.std.proofs.lemmas.List.Sums.{sum_by-le}
use Rattle.std.proofs.lemmas.Nat.Bits.{bit_at_and, bit_at-zero}
use mathlib.Core.Logic.{dite}
use native.Mathlib.Decide.{ℕ_discrete, dec_lt}
use Rattle.up_bank.specs.Find.{Find, looks, HasOut, words_of, NoneTwice, Scanned}
use Rattle.up_bank.specs.SeatSteps.{SeatState, saw, fetched, AsKnown}
use Rattle.up_bank.specs.Scan.{Idle, Gone, Orderly, Claimed, claimed, with_finds, Missed, Scanning}
use Rattle.up_bank.specs.declared.view.View.{View}
use Rattle.up_bank.proofs.RisingFinds.{rising_all, looks_long, orderly_wider, orderly_then, one_try, one_look}

-- what an answer that may be nothing tells
pub told_none : {T : Type 0} (o : Option T) (X : Type 0) (Y : T → Type 0) → o ≡ None → MatchOption o X Y → X
told_none o X Y e h = subst (λ z. MatchOption z X Y) e h

pub told_some : {T : Type 0} (o : Option T) (X : Type 0) (Y : T → Type 0) (t : T) → o ≡ Some t → MatchOption o X Y → Y t
told_some o X Y t e h = subst (λ z. MatchOption z X Y) e h

-- finds that come later change nothing of what was found
any_left : (P : Find → Type 0) (xs ys : List Find) → Any P xs → Any P (xs ++ ys)
any_left P xs ys a = let k : ℕ = a.0 in let inside : k < length xs = a.2 in
    (k, a.1, (omega (arith, length-append xs ys)), get_or_append_left xs ys a.1 k inside ∙ a.3, a.4)

-- finds that came before change nothing either
any_right : (P : Find → Type 0) (xs ys : List Find) → Any P ys → Any P (xs ++ ys)
any_right P xs ys a = let k : ℕ = a.0 in let inside : k < length ys = a.2 in let at : ℕ = length xs + k in
    (at, a.1, (omega (arith, length-append xs ys)), get_or-append_right xs ys (length xs) at a.1 refl (omega arith) ∙ (ap (λ (i : ℕ). get_or ys i a.1) (let back : at - length xs ≡ k = omega arith in back) ∙ a.3), a.4)

any_last : (P : Find → Type 0) (xs : List Find) (f : Find) → P f → Any P (xs ++ f ∷ [])
any_last P xs f p = Any-push P xs f p

gone_still : (v : View) (more extra : List Find) (k : ℕ) → Gone v more k → Gone v (more ++ extra) k
gone_still v more extra k g = record { found = any_left (HasOut k) more extra g.found; known = g.known }

-- a word that is as a sole seat knows has the frame out
pub known_out : (v : View) (word was k : ℕ) → AsKnown v word was → k / 64 ≡ word → bit_at was (k % 64) ≡ 0 → v.sole ≡ true → get_or v.home k 0 ≡ 0
known_out v word was k known same out sole = dite (dec_lt k (length v.home)) (λ (inside : k < length v.home). known sole k same inside ∙ out) (λ outside. get_or_past v.home k 0 (omega arith))

gone_by : (v : View) (more : List Find) (f : Find) (k : ℕ) → AsKnown v f.word f.was → k / 64 ≡ f.word → bit_at f.was (k % 64) ≡ 0 → Gone v (more ++ f ∷ []) k
gone_by v more f k known same out = record {
  found = any_last (HasOut k) more f (sym same, out);
  known = known_out v f.word f.was k known same out;
}

-- the load of a word begins its scan
pub begins : (m m' : SeatState) (word was : ℕ) → Idle m → m' ≡ (saw m.0 word was, m.1) → AsKnown m.0 word was → Scanning m.0 m' word 0 was
begins m m' word was idle e known = let find : Find = record { word = word; was = was; tried = None } in record {
  more = find ∷ [];
  orderly = orderly_wider word (word + 1) (word + 1) (word * 64) (word * 64) (word * 64 + 0) (find ∷ []) (one_look word (word * 64) was) (omega arith) (omega arith);
  one = refl;
  done = λ k same low. absurd (omega arith);
  hint = λ k same out. gone_by m.0 [] find k known same out;
  is = e ∙ ap (λ l. let x : SeatState = (saw m.0 word was, l) in x) idle.bare;
}

-- a frame that was found out is passed over
pub skips : (v : View) (m' : SeatState) (word bit left : ℕ) → Scanning v m' word bit left → bit_at left bit ≡ 0 → bit < 64 → Scanning v m' word (bit + 1) left
skips v m' word bit left s out small = record {
  more = s.more;
  orderly = orderly_wider word (word + 1) (word + 1) (word * 64) (word * 64 + bit) (word * 64 + (bit + 1)) s.more s.orderly (omega arith) (omega arith);
  one = s.one;
  done = λ k same low. dite (ℕ_discrete (k % 64) bit) (λ (here : k % 64 ≡ bit). s.hint k same (ap (bit_at left) here ∙ out)) (λ (other : k % 64 ≢ bit). s.done k same (omega arith));
  hint = s.hint;
  is = s.is;
}

-- a bit of two words is 0 where it is in one of them
one_out : (a b i : ℕ) → bit_at (bit_and a b) i ≡ 0 → (bit_at a i ≡ 0) ⊎ (bit_at b i ≡ 0)
one_out a b i e = let both : min (bit_at a i) (bit_at b i) ≡ 0 = sym (bit_at_and a b i) ∙ e in let x : ℕ = bit_at a i in let y : ℕ = bit_at b i in let least : min x y ≡ 0 = both in
    dite (ℕ_discrete x 0) (λ (z : x ≡ 0). inl z) (λ (n : x ≢ 0). let z : y ≡ 0 = omega arith in inr z)

-- a frame that was tried in vain
pub after_miss : (v : View) (m' m2 : SeatState) (word bit left found k : ℕ) (s : Scanning v m' word bit left) → k / 64 ≡ word → k % 64 ≡ bit → bit_at found (k % 64) ≡ 0
    → m2 ≡ (fetched m'.0 k found, []) → AsKnown m'.0 (k / 64) found → Scanning v m2 word (bit + 1) (bit_and left found)
after_miss v m' m2 word bit left found k s same at out e known =
    let find : Find = record { word = k / 64; was = found; tried = Some k } in let more : List Find = s.more ++ find ∷ [] in
    let same_view : m'.0 ≡ with_finds v s.more = ap (λ (x : SeatState). x.0) s.is in
    let known_v : AsKnown v (k / 64) found = subst (λ (x : View). AsKnown x (k / 64) found) same_view known in record {
      more = more;
      orderly = orderly_then word (word + 1) (word + 1) (word + 1) (word * 64) (word * 64 + bit) k (word * 64 + (bit + 1)) s.more (find ∷ []) s.orderly (omega arith) (omega arith) (one_try (word + 1) k (word * 64 + (bit + 1)) found (omega arith));
      one = let h = s.one in let none : length (looks (find ∷ [])) ≡ 0 = refl in let both = looks_long s.more (find ∷ []) in omega arith;
      done = λ q there low. dite (ℕ_discrete (q % 64) bit)
          (λ (here : q % 64 ≡ bit). let one : q ≡ k = omega arith in gone_by v s.more find q known_v (there ∙ sym same) (ap (λ (z : ℕ). bit_at found (z % 64)) one ∙ out))
          (λ (other : q % 64 ≢ bit). gone_still v s.more (find ∷ []) q (s.done q there (omega arith)));
      hint = λ q there gone. ⊎_elim (λ (l : bit_at left (q % 64) ≡ 0). gone_still v s.more (find ∷ []) q (s.hint q there l)) (λ (f : bit_at found (q % 64) ≡ 0). gone_by v s.more find q known_v (there ∙ sym same) f) (one_out left found (q % 64) gone);
      is = e ∙ (ap (λ (x : View). let y : SeatState = (fetched x k found, []) in y) same_view ∙ ap (λ (l : List Find). let y : SeatState = (record v { finds = l }, []) in y) (append_assoc v.finds s.more (find ∷ [])));
    }

-- a claim after finds in vain is a claim with all these finds
pub claims_after : (v : View) (m' m2 : SeatState) (more : List Find) (k : ℕ) (b : List ℕ) (word words next last all from to on end most : ℕ) → m' ≡ (with_finds v more, []) → Orderly word words from to more
    → Claimed m'.0 m2 k b next last on end → words ≤ next → to ≤ on → last ≤ all → end ≤ most → Claimed v m2 k b word all from most
claims_after v m' m2 more k b word words next last all from to on end most e o c w f wide long =
    let same : m'.0 ≡ with_finds v more = ap (λ (x : SeatState). x.0) e in let d = subst (λ (x : View). Claimed x m2 k b next last on end) same c in
    let rise : Orderly word last from end (more ++ (d.others ++ d.last ∷ [])) = orderly_then word words next last from to on end more (d.others ++ d.last ∷ []) o w f d.orderly in record {
      others = more ++ d.others;
      last = d.last;
      gives = d.gives;
      home = d.home;
      orderly = orderly_wider word last all from end most ((more ++ d.others) ++ d.last ∷ []) (subst (Orderly word last from end) (sym (append_assoc more d.others (d.last ∷ []))) rise) wide long;
      known = d.known;
      learns = record { later = d.learns.later; alone = d.learns.alone };
      bytes_are = d.bytes_are;
      is = d.is ∙ ap (λ (l : List Find). let y : SeatState = (record (claimed v k [] d.gives) { finds = l }, []) in y)
          (append_assoc v.finds more (d.others ++ d.last ∷ []) ∙ ap (λ (l : List Find). v.finds ++ l) (sym (append_assoc more d.others (d.last ∷ []))));
    }

-- a frame that was tried with success
pub after_hit : (v : View) (m' m2 : SeatState) (word bit left frames k n : ℕ) (b : List ℕ) → Scanning v m' word bit left → k ≡ word * 64 + bit → bit < min (frames - word * 64) 64 → n ≡ k
    → Claimed m'.0 m2 k b (k / 64 + 1) (k / 64 + 1) k (k + 1) → Claimed v m2 n b word (word + 1) (word * 64) (word * 64 + min (frames - word * 64) 64)
after_hit v m' m2 word bit left frames k n b s at inside e c = let end : ℕ = word * 64 + min (frames - word * 64) 64 in
    subst (λ (z : ℕ). Claimed v m2 z b word (word + 1) (word * 64) end) (sym e)
    (claims_after v m' m2 s.more k b word (word + 1) (k / 64 + 1) (k / 64 + 1) (word + 1) (word * 64) (word * 64 + bit) k (k + 1) end s.is s.orderly c (omega arith) (omega arith) (omega arith) (omega arith))

-- words that were scanned in vain, and one more
pub one_word_more : (v : View) (m' m2 : SeatState) (word frames : ℕ) → Missed v m' 0 word 0 (min (word * 64) frames) (λ k. (k / 64 < word) × (k < frames))
    → Missed m'.0 m2 word (word + 1) (word * 64) (word * 64 + min (frames - word * 64) 64) (λ k. (k / 64 ≡ word) × (k < frames)) → word < words_of frames
    → Missed v m2 0 (word + 1) 0 (min ((word + 1) * 64) frames) (λ k. (k / 64 < word + 1) × (k < frames))
one_word_more v m' m2 word frames a b inside =
    let same : m'.0 ≡ with_finds v a.more = ap (λ (x : SeatState). x.0) a.is in
    let end : ℕ = word * 64 + min (frames - word * 64) 64 in
    let d = subst (λ (x : View). Missed x m2 word (word + 1) (word * 64) end (λ k. (k / 64 ≡ word) × (k < frames))) same b in
    let rise : Orderly 0 (word + 1) 0 end (a.more ++ d.more) = orderly_then 0 word word (word + 1) 0 (min (word * 64) frames) (word * 64) end a.more d.more a.orderly (omega arith) (omega arith) d.orderly in record {
      more = a.more ++ d.more;
      orderly = orderly_wider 0 (word + 1) (word + 1) 0 end (min ((word + 1) * 64) frames) (a.more ++ d.more) rise (omega arith) (omega arith);
      all = let h = a.all in let g = d.all in let both = looks_long a.more d.more in omega arith;
      each = λ k there. let low : k / 64 < word + 1 = there.0 in dite (ℕ_discrete (k / 64) word)
          (λ (here : k / 64 ≡ word). let g = d.each k (here, there.1) in let h : Gone v (a.more ++ d.more) k = record { found = any_right (HasOut k) a.more d.more g.found; known = g.known } in h)
          (λ (other : k / 64 ≢ word). gone_still v a.more d.more k (a.each k ((omega arith), there.1)));
      is = d.is ∙ ap (λ (l : List Find). let y : SeatState = (record v { finds = l }, []) in y) (append_assoc v.finds a.more d.more);
    }

-- no word yet
pub no_word : (m : SeatState) (frames : ℕ) → Idle m → Missed m.0 m 0 0 0 (min (0 * 64) frames) (λ k. (k / 64 < 0) × (k < frames))
no_word m frames idle = record {
  more = [];
  orderly = record { loads = (let none : 0 ≤ 0 = omega arith in none); fetches = (let none : 0 ≤ min (0 * 64) frames = omega arith in none) };
  all = refl;
  each = λ k there. let wrong : k / 64 < 0 = there.0 in absurd (omega arith);
  is = ap (λ l. let y : SeatState = (m.0, l) in y) idle.bare ∙ ap (λ (l : List Find). let y : SeatState = (record m.0 { finds = l }, []) in y) (sym (append-nil m.0.finds));
}

-- all words were scanned in vain
pub all_words : (v : View) (m' : SeatState) (frames : ℕ) → Missed v m' 0 (words_of frames) 0 (min (words_of frames * 64) frames) (λ k. (k / 64 < words_of frames) × (k < frames))
    → Missed v m' 0 (words_of frames) 0 frames (λ k. k < frames)
all_words v m' frames a = record {
  more = a.more;
  orderly = orderly_wider 0 (words_of frames) (words_of frames) 0 (min (words_of frames * 64) frames) frames a.more a.orderly (omega arith) (omega arith);
  all = a.all;
  each = λ k inside. a.each k ((let l : k < frames = inside in omega arith), inside);
  is = a.is;
}

-- what a claim in vain tells of the seat
pub scanned_by : (v : View) (m' : SeatState) (frames : ℕ) → Missed v m' 0 (words_of frames) 0 frames (λ k. k < frames) → Scanned v.finds m'.0.finds frames
scanned_by v m' frames a = record {
  more = a.more;
  is = ap (λ (x : SeatState). x.0.finds) a.is;
  one_each = let all = a.all in omega arith;
  in_order = λ i inside. rising_all 0 (words_of frames) (looks a.more) a.orderly.loads a.all i inside ∙ (let z : 0 + i ≡ i = omega arith in z);
  each = λ k inside. (a.each k inside).found;
}

-- a sole seat that scanned in vain knew of no frame at home
pub none_home : (v : View) (m' : SeatState) (words frames : ℕ) → Missed v m' 0 words 0 frames (λ k. k < frames) → v.sole ≡ true → length v.home ≡ frames → sum v.home ≡ 0
none_home v m' words frames a sole long = let low = sum_by-le (λ (x : ℕ). x) 0 v.home (λ k d inside. let zero_here : get_or v.home k 0 ≡ 0 = (a.each k (omega arith)).known sole in
    let same : get_or v.home k d ≡ get_or v.home k 0 = get_or_default v.home k d 0 inside in omega arith) in omega arith

-- a word in which no frame is at home needs no try
pub empty_word : (v : View) (m' : SeatState) (word to frames : ℕ) → Scanning v m' word 0 0 → word * 64 ≤ to → Missed v m' word (word + 1) (word * 64) to (λ k. (k / 64 ≡ word) × (k < frames))
empty_word v m' word to frames s enough = record {
  more = s.more;
  orderly = orderly_wider word (word + 1) (word + 1) (word * 64) (word * 64 + 0) to s.more s.orderly (omega arith) (omega arith);
  all = let one = s.one in omega arith;
  each = λ k there. s.hint k there.0 (bit_at-zero (k % 64));
  is = s.is;
}

-- a claim of such finds makes none twice
pub claim_once : (v : View) (m' : SeatState) (k : ℕ) (b : List ℕ) (frames : ℕ) → Claimed v m' k b 0 (words_of frames) 0 frames → NoneTwice v.finds m'.0.finds frames
claim_once v m' k b frames c = record { more = c.others ++ c.last ∷ []; is = ap (λ (x : SeatState). x.0.finds) c.is; loads = c.orderly.loads; fetches = c.orderly.fetches }

-- so does a claim in vain
pub scan_once : (v : View) (m' : SeatState) (frames : ℕ) → Missed v m' 0 (words_of frames) 0 frames (λ k. k < frames) → NoneTwice v.finds m'.0.finds frames
scan_once v m' frames a = record { more = a.more; is = ap (λ (x : SeatState). x.0.finds) a.is; loads = a.orderly.loads; fetches = a.orderly.fetches }
