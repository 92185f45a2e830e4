-- A count of the frames at home, word by word.
use Rattle.std.proofs.Common.{◌≡◌, ◌≢◌, ℕ, zero, suc, ◌+◌, ◌-◌, ◌*◌, ◌/◌, ◌%◌, ◌<◌, ◌≤◌, List, [], ◌∷◌, ◌++◌, length, get_or, take, map, None, min, sym, refl, ap, ◌∙◌, subst, arith, append-nil, append_assoc, length-append}
use Rattle.std.specs.Int.{bit_at}
use Rattle.std.specs.List.{sum}
use Rattle.std.proofs.lemmas.List.{get_or-append_right, get_or_append_left}
use Rattle.std.proofs.lemmas.List.Sums.{sum_by_more}
use mathlib.Core.Logic.{dite}
use mathlib.Core.List.{map-append}
use native.Mathlib.Decide.{ℕ_discrete}
use lib.ListN.{length-map}
use Rattle.up_bank.specs.Find.{Find, words_of, bits_set, homes_in}
use Rattle.up_bank.specs.SeatSteps.{SeatState, saw, AsKnown}
use Rattle.up_bank.specs.Scan.{Idle, with_finds, Counting}
use Rattle.up_bank.specs.declared.view.View.{View}

-- what one find more has at home
homes_more : (frames : ℕ) (fs : List Find) (f : Find) → homes_in frames (fs ++ f ∷ []) ≡ homes_in frames fs + bits_set f.was (min (frames - f.word * 64) 64)
homes_more frames [] f = omega arith
homes_more frames (g ∷ gs) f = let h = homes_more frames gs f in omega arith

-- a sole seat's frames of one word
bits_sum : (home : List ℕ) (first count was : ℕ) → first + count ≤ length home → ((i : ℕ) → i < count → get_or home (first + i) 0 ≡ bit_at was i) → sum (take (first + count) home) ≡ sum (take first home) + bits_set was count
bits_sum home first zero was fits each = let same : first + 0 ≡ first = omega arith in ap (λ (n : ℕ). sum (take n home)) same ∙ (let z : sum (take first home) ≡ sum (take first home) + 0 = omega arith in z)
bits_sum home first (suc count) was fits each = let n : ℕ = first + count in let next : first + suc count ≡ n + 1 = omega arith in
    let more : sum (take (n + 1) home) ≡ sum (take n home) + get_or home n 0 = sum_by_more (λ (x : ℕ). x) home n 0 (omega arith) in
    let before : sum (take n home) ≡ sum (take first home) + bits_set was count = bits_sum home first count was (omega arith) (λ i l. each i (omega arith)) in
    let here : get_or home n 0 ≡ bit_at was count = each count (omega arith) in
    ap (λ (k : ℕ). sum (take k home)) next ∙ (let z : sum (take (n + 1) home) ≡ sum (take first home) + (bits_set was count + bit_at was count) = omega arith in z)

pub no_count : (m : SeatState) (frames : ℕ) → Idle m → Counting m.0 m frames 0 0
no_count m frames idle = record {
  more = [];
  one_each = refl;
  in_order = λ i l. absurd (omega arith);
  homes = refl;
  alone = λ sole long. let none : min (0 * 64) frames ≡ 0 = omega arith in sym (ap (λ (n : ℕ). sum (take n m.0.home)) none);
  is = ap (λ l. let y : SeatState = (m.0, l) in y) idle.bare ∙ ap (λ (l : List Find). let y : SeatState = (record m.0 { finds = l }, []) in y) (sym (append-nil m.0.finds));
}

order_more : (fs : List Find) (f : Find) → f.word ≡ length fs → ((i : ℕ) → i < length fs → get_or (map (λ (x : Find). x.word) fs) i 0 ≡ i) → (i : ℕ) → i < length (fs ++ f ∷ [])
    → get_or (map (λ (x : Find). x.word) (fs ++ f ∷ [])) i 0 ≡ i
order_more fs f last each i inside = let words : List ℕ = map (λ (x : Find). x.word) fs in let long : length words ≡ length fs = length-map fs (λ (x : Find). x.word) in
    let both : map (λ (x : Find). x.word) (fs ++ f ∷ []) ≡ words ++ f.word ∷ [] = map-append (λ (x : Find). x.word) fs (f ∷ []) in
    let all : length (fs ++ f ∷ []) ≡ length fs + 1 = length-append fs (f ∷ []) in
    ap (λ (l : List ℕ). get_or l i 0) both ∙ dite (ℕ_discrete i (length fs))
    (λ (here : i ≡ length fs). get_or-append_right words (f.word ∷ []) (length words) i 0 refl (omega arith) ∙ (ap (λ (k : ℕ). get_or (f.word ∷ []) k 0) (let z : i - length words ≡ 0 = omega arith in z) ∙ (last ∙ sym here)))
    (λ (other : i ≢ length fs). get_or_append_left words (f.word ∷ []) 0 i (omega arith) ∙ each i (omega arith))

pub count_more : (v : View) (m' m2 : SeatState) (word frames count was bits : ℕ) → Counting v m' frames word count → m2 ≡ (saw m'.0 word was, m'.1) → AsKnown m'.0 word was → word < words_of frames
    → bits ≡ bits_set was (min (frames - word * 64) 64) → Counting v m2 frames (word + 1) (count + bits)
count_more v m' m2 word frames count was bits c e known inside is =
    let find : Find = record { word = word; was = was; tried = None } in let same : m'.0 ≡ with_finds v c.more = ap (λ (x : SeatState). x.0) c.is in
    let known_v : AsKnown v word was = subst (λ (x : View). AsKnown x word was) same known in record {
      more = c.more ++ find ∷ [];
      one_each = let h = c.one_each in omega (arith, length-append c.more (find ∷ []));
      in_order = order_more c.more find (sym c.one_each) c.in_order;
      homes = let h = c.homes in let g = homes_more frames c.more find in omega arith;
      alone = λ sole long. let few : ℕ = min (frames - word * 64) 64 in let first : ℕ = word * 64 in let so_far = c.alone sole long in
          let low : min first frames ≡ first = omega arith in let next : min ((word + 1) * 64) frames ≡ first + few = omega arith in
          let added : sum (take (first + few) v.home) ≡ sum (take first v.home) + bits_set was few =
          bits_sum v.home first few was (omega arith) (λ i l. let there : (first + i) / 64 ≡ word = omega arith in let bit : (first + i) % 64 ≡ i = omega arith in known_v sole (first + i) there (omega arith) ∙ ap (bit_at was) bit) in
          let before : count ≡ sum (take first v.home) = so_far ∙ ap (λ (n : ℕ). sum (take n v.home)) low in
          let sums : count + bits ≡ sum (take (first + few) v.home) = omega arith in sums ∙ ap (λ (n : ℕ). sum (take n v.home)) (sym next);
      is = e ∙ (ap (λ (x : SeatState). let y : SeatState = (saw x.0 word was, x.1) in y) c.is ∙ ap (λ (l : List Find). let y : SeatState = (record v { finds = l }, []) in y) (append_assoc v.finds c.more (find ∷ [])));
    }
