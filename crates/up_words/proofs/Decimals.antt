-- A number is read from its decimal text alone, and words join to their line.
use Rattle.std.proofs.Common.{◌≡◌, ℕ, zero, suc, ◌+◌, ◌-◌, ◌*◌, ◌<◌, ◌≤◌, ◌^◌, Bool, true, false, ◌&&◌, ◌⊎◌, lit<, eqb, leb, List, [], ◌∷◌, length, get_or, Option, Some, None, Result, Ok, cond, refl, sym, ap, subst, ◌∙◌, arith, rules, tests, inl, inr}
use Rattle.std.specs.Fmt.{decimal}
use Rattle.std.specs.List.{list_all, join_with_byte}
use Rattle.std.proofs.lemmas.Bool.{leb-true, le-leb}
use Rattle.std.proofs.lemmas.Fmt.{decimal_digit, decimal_nonempty, first_decimal, digits_decimal, digits_value-decimal, decimal-digits_value}
use Rattle.std.proofs.lemmas.List.Splits.{join_with_byte-slice_split}
use Rattle.std.proofs.lemmas.Str.Parse.{IsNumeralModel, numerals_by_fold}
use Rattle.up_words.specs.ReadSteps.{◌>>=◌, check}
use Rattle.up_words.specs.declared.fault.Why.{Why}
use Rattle.up_words.specs.declared.fault.Why.TheVariants.{Word}
use Rattle.up_words.specs.Words.{split, is_word}
use Rattle.up_words.specs.Numbers.{is_digit, digits_from, has_bad_front}
use Rattle.up_words.specs.Laws.{ReadsDecimal, ReadsOnlyDecimal, JoinsWords}

-- the number that digits go on from n to, with no limit
abbrev pub read_on : ℕ → List ℕ → ℕ
read_on n [] = n
read_on n (c ∷ cs) = read_on (n * 10 + (c - 48)) cs

abbrev pub AreDigits : List ℕ → Type 0
AreDigits word = list_all is_digit word ≡ true

pub own : IsNumeralModel AreDigits (read_on 0)
own = numerals_by_fold AreDigits (search (rules, tests)) read_on (search rules)

-- a condition that held, and what stands behind it
pub then_some : {Y : Type 0} (holds : Bool) (r : Option Y) (y : Y) → cond holds r None ≡ Some y → (holds ≡ true) × (r ≡ Some y)
then_some true r y e = (refl, e)
then_some false r y e = absurd cc

pub else_some : {Y : Type 0} (bad : Bool) (r : Option Y) (y : Y) → cond bad None r ≡ Some y → (bad ≡ false) × (r ≡ Some y)
else_some true r y e = absurd cc
else_some false r y e = (refl, e)

pub then_ok : {Y : Type 0} (reason : Why) (holds : Bool) (r : Result Y Why) (y : Y) → (check reason holds >>= λ _. r) ≡ Ok y → (holds ≡ true) × (r ≡ Ok y)
then_ok reason true r y e = (refl, e)
then_ok reason false r y e = absurd cc

pub both : (a b : Bool) → a ≡ true → b ≡ true → (a && b) ≡ true
both true b p q = q
both false b p q = absurd cc

pub parts_of : (a b : Bool) → (a && b) ≡ true → (a ≡ true) × (b ≡ true)
parts_of true b e = (refl, e)
parts_of false b e = absurd cc

pub some_is : {Y : Type 0} (x y : Y) → Some x ≡ Some y → x ≡ y
some_is x y e = cc

digits_take : (limit n m : ℕ) (word : List ℕ) → n ≤ limit → digits_from limit n word ≡ Some m → AreDigits word × (read_on n word ≡ m) × (m ≤ limit)
unfolding digits_from
digits_take limit n m [] le e = (refl, some_is n m e, subst (λ (k : ℕ). k ≤ limit) (some_is n m e) le)
digits_take limit n m (c ∷ cs) le e =
    let next = n * 10 + (c - 48) in
    let p = then_some (is_digit c && leb next limit) (digits_from limit next cs) m e in
    let q = parts_of (is_digit c) (leb next limit) p.0 in
    let r = digits_take limit next m cs (leb-true next limit q.1) p.1 in
    (both (is_digit c) (list_all is_digit cs) q.0 r.0, r.1, r.2)

pub grows : (n : ℕ) (word : List ℕ) → n ≤ read_on n word
grows n [] = omega arith
grows n (c ∷ cs) = omega (arith, grows (n * 10 + (c - 48)) cs)

digits_again : (limit n : ℕ) (word : List ℕ) → AreDigits word → read_on n word ≤ limit → digits_from limit n word ≡ Some (read_on n word)
unfolding digits_from
digits_again limit n [] digits le = refl
digits_again limit n (c ∷ cs) digits le =
    let p = parts_of (is_digit c) (list_all is_digit cs) digits in
    let next = n * 10 + (c - 48) in
    let within : leb next limit ≡ true = le-leb next limit (omega (arith, grows next cs)) in
    rw (p.0, within) (digits_again limit next cs p.1 le)

-- the front of a word that is a number
pub good_front : (word : List ℕ) → has_bad_front word ≡ false → (0 < length word) × (get_or word 0 0 ≡ 48 → length word ≡ 1)
good_front [] e = absurd cc
good_front (b ∷ []) e = (omega arith, λ _. refl)
good_front (b ∷ c ∷ bs) e = (omega arith, λ h. absurd (let no : eqb b 48 ≡ true = rw h refl in cc))

pub front_is_good : (word : List ℕ) → 0 < length word → (48 < get_or word 0 0) ⊎ (length word ≡ 1) → has_bad_front word ≡ false
front_is_good [] some h = absurd (omega arith)
front_is_good (b ∷ []) some h = refl
front_is_good (b ∷ c ∷ bs) some (inl high) = grind arith
front_is_good (b ∷ c ∷ bs) some (inr one) = absurd (omega arith)

pub front_of : (n : ℕ) → n < 2 ^ 64 → (48 < get_or (decimal n) 0 0) ⊎ (length (decimal n) ≡ 1)
front_of zero fits = inr (ap length (decimal_digit 0 (lit< tt)))
front_of (suc n) fits = inl (first_decimal (suc n) (omega arith) fits)

pub back : ReadsDecimal
back limit n small le =
    let fits : n < 2 ^ 64 = omega arith in
    let value : read_on 0 (decimal n) ≡ n = digits_value-decimal own n fits in
    let within : read_on 0 (decimal n) ≤ limit = omega arith in
    rw (front_is_good (decimal n) (decimal_nonempty n fits) (front_of n fits)) (digits_again limit 0 (decimal n) (digits_decimal own n fits) within ∙ ap (λ (m : ℕ). Some m) value)

pub only : ReadsOnlyDecimal
only limit n word small e =
    let p = else_some (has_bad_front word) (digits_from limit 0 word) n e in
    let front = good_front word p.0 in
    let q = digits_take limit 0 n word (omega arith) p.1 in
    let same : decimal (read_on 0 word) ≡ word = decimal-digits_value own word q.0 front.0 front.1 (omega arith) in
    (sym same ∙ ap decimal q.1, q.2)

pub ok_is : {Y : Type 0} (x y : Y) → ◌≡◌ {A = Result Y Why} (Ok x) (Ok y) → x ≡ y
ok_is x y e = cc

pub joins : JoinsWords
joins line words e =
    let p = then_ok Word (list_all is_word (split 32 line)) (Ok (split 32 line)) words e in
    subst (λ (ws : List (List ℕ)). join_with_byte 32 ws ≡ line) (ok_is (split 32 line) words p.1) (join_with_byte-slice_split 32 line)
