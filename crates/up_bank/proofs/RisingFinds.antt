-- Finds whose loads and tries rise, one part of a claim after the other.
use Rattle.std.proofs.Common.{◌≡◌, ℕ, zero, suc, ◌+◌, ◌/◌, ◌<◌, ◌≤◌, Bool, List, [], ◌∷◌, ◌++◌, length, get_or, map, cond, sym, ap, ◌∙◌, subst, arith, length-append, Option, Some, None, is_none}
use Rattle.std.specs.List.{filter, cons_option}
use Rattle.std.proofs.lemmas.List.Elements.{filter-append, filter_map-append}
use mathlib.Core.List.{map-append}
use Rattle.up_bank.specs.Find.{Find, looks, tries, Rising, words_of, NoneTwice}
use Rattle.up_bank.specs.Scan.{Orderly}

rising_wider : (a b c d : ℕ) (ns : List ℕ) → a ≤ b → c ≤ d → Rising b c ns → Rising a d ns
rising_wider a b c d [] low high r = let h : b ≤ c = r in omega arith
rising_wider a b c d (n ∷ ns) low high r = let h : b ≤ n = r.0 in let here : a ≤ n = omega arith in (here, rising_wider (suc n) (suc n) c d ns (omega arith) high r.1)

rising_then : (a b c d : ℕ) (xs ys : List ℕ) → Rising a b xs → b ≤ c → Rising c d ys → Rising a d (xs ++ ys)
rising_then a b c d [] ys r gap s = let h : a ≤ b = r in rising_wider a c d d ys (omega arith) (omega arith) s
rising_then a b c d (n ∷ ns) ys r gap s = (r.0, rising_then (suc n) b c d ns ys r.1 gap s)

-- numbers that rise are no more than there is room for
rising_few : (a b : ℕ) (ns : List ℕ) → Rising a b ns → a + length ns ≤ b
rising_few a b [] r = let h : a ≤ b = r in omega arith
rising_few a b (n ∷ ns) r = let low : a ≤ n = r.0 in let h = rising_few (suc n) b ns r.1 in omega arith

-- numbers that rise and fill their room are all the numbers there
pub rising_all : (a b : ℕ) (ns : List ℕ) → Rising a b ns → a + length ns ≡ b → (i : ℕ) → i < length ns → get_or ns i 0 ≡ a + i
rising_all a b [] r full i inside = absurd (omega arith)
rising_all a b (n ∷ ns) r full zero inside = let low : a ≤ n = r.0 in let few = rising_few (suc n) b ns r.1 in let here : n ≡ a + 0 = omega arith in here
rising_all a b (n ∷ ns) r full (suc i) inside = let low : a ≤ n = r.0 in let few = rising_few (suc n) b ns r.1 in let there : get_or ns i 0 ≡ suc n + i = rising_all (suc n) b ns r.1 (omega arith) i (omega arith) in
    there ∙ (let z : suc n + i ≡ a + suc i = omega arith in z)

looks_both : (xs ys : List Find) → looks (xs ++ ys) ≡ looks xs ++ looks ys
looks_both xs ys = let load : Find → Bool = (λ f. is_none f.tried) in let word : Find → ℕ = (λ f. f.word) in
    ap (map word) (filter-append load xs ys) ∙ map-append word (filter load xs) (filter load ys)

-- how many loads there are in both
pub looks_long : (xs ys : List Find) → length (looks (xs ++ ys)) ≡ length (looks xs) + length (looks ys)
looks_long xs ys = ap length (looks_both xs ys) ∙ length-append (looks xs) (looks ys)

pub orderly_wider : (word words more_words from to more : ℕ) (xs : List Find) → Orderly word words from to xs → words ≤ more_words → to ≤ more → Orderly word more_words from more xs
orderly_wider word words more_words from to more xs o w f = record {
  loads = rising_wider word word words more_words (looks xs) (omega arith) w o.loads;
  fetches = rising_wider from from to more (tries xs) (omega arith) f o.fetches;
}

pub orderly_then : (word words next last from to on end : ℕ) (xs ys : List Find) → Orderly word words from to xs → words ≤ next → to ≤ on → Orderly next last on end ys → Orderly word last from end (xs ++ ys)
orderly_then word words next last from to on end xs ys o w f p = record {
  loads = subst (Rising word last) (sym (looks_both xs ys)) (rising_then word words next last (looks xs) (looks ys) o.loads w p.loads);
  fetches = subst (Rising from end) (sym (filter_map-append (λ (f : Find). f.tried) xs ys)) (rising_then from to on end (tries xs) (tries ys) o.fetches f p.fetches);
}

-- a try of one frame, after the load of some words
pub one_try : (word from to was : ℕ) → from < to → Orderly word word from to (record { word = from / 64; was = was; tried = Some from } ∷ [])
one_try word from to was l = let none : word ≤ word = omega arith in let here : from ≤ from = omega arith in let next : suc from ≤ to = omega arith in record { loads = none; fetches = (here, next) }

-- a load of one word, before the try of a frame
pub one_look : (word from was : ℕ) → Orderly word (word + 1) from from (record { word = word; was = was; tried = None } ∷ [])
one_look word from was = let none : from ≤ from = omega arith in let here : word ≤ word = omega arith in let next : suc word ≤ word + 1 = omega arith in record { loads = (here, next); fetches = none }

-- one find is a load or a try
one_kind : (o : Option ℕ) (f : Find) (fs : List Find) (ns : List ℕ) → length (map (λ (x : Find). x.word) (cond (is_none o) (f ∷ fs) fs)) + length (cons_option o ns) ≡ suc (length (map (λ (x : Find). x.word) fs) + length ns)
one_kind None f fs ns = omega arith
one_kind (Some n) f fs ns = omega arith

all_kinds : (fs : List Find) → length (looks fs) + length (tries fs) ≡ length fs
all_kinds [] = omega arith
all_kinds (f ∷ fs) = one_kind f.tried f (filter (λ (x : Find). is_none x.tried) fs) (tries fs) ∙ ap suc (all_kinds fs)

-- finds of which none is made twice are few
pub few_then : (before after : List Find) (frames : ℕ) → NoneTwice before after frames → length after ≤ length before + (frames + words_of frames)
few_then before after frames o = let long : length after ≡ length before + length o.more = ap length o.is ∙ length-append before o.more in
    let w = rising_few 0 (words_of frames) (looks o.more) o.loads in let f = rising_few 0 frames (tries o.more) o.fetches in let all = all_kinds o.more in omega arith
