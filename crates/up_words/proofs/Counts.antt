-- How often a byte stands is read from its decimal text alone, where it is below the most that is told apart.
use Rattle.std.proofs.Common.{◌≡◌, ℕ, ◌+◌, ◌-◌, ◌*◌, ◌^◌, ◌<◌, ◌≤◌, min, List, [], ◌∷◌, Some, refl, sym, ap, ◌∙◌, arith}
use Rattle.std.specs.Fmt.{decimal}
use Rattle.std.specs.List.{list_all}
use Rattle.std.proofs.lemmas.Fmt.{decimal_nonempty, digits_decimal, digits_value-decimal, decimal-digits_value}
use Rattle.up_words.specs.Numbers.{is_digit, digits_up_to, has_bad_front, number_up_to}
use Rattle.up_words.proofs.Decimals.{read_on, AreDigits, own, grows, then_some, else_some, both, parts_of, some_is, good_front, front_is_good, front_of}

-- digits whose number is within the most are read as that number
capped_again : (most n : ℕ) (word : List ℕ) → AreDigits word → read_on n word ≤ most → digits_up_to most n word ≡ Some (read_on n word)
unfolding digits_up_to
capped_again most n [] digits le = refl
capped_again most n (c ∷ cs) digits le =
    let p = parts_of (is_digit c) (list_all is_digit cs) digits in
    let next = n * 10 + (c - 48) in
    let within : min next most ≡ next = omega (arith, grows next cs) in
    rw (p.0, within) (capped_again most next cs p.1 le)

-- what is read as a number below the most is digits of that number
capped_takes : (most n m : ℕ) (word : List ℕ) → digits_up_to most n word ≡ Some m → m < most → AreDigits word × (read_on n word ≡ m)
unfolding digits_up_to
capped_takes most n m [] e less = (refl, some_is n m e)
capped_takes most n m (c ∷ cs) e less =
    let next = n * 10 + (c - 48) in
    let p = then_some (is_digit c) (digits_up_to most (min next most) cs) m e in
    let r = capped_takes most (min next most) m cs p.1 less in
    let within : min next most ≡ next = omega (arith, grows (min next most) cs, r.1) in
    (both (is_digit c) (list_all is_digit cs) p.0 r.0, ap (λ k. read_on k cs) (sym within) ∙ r.1)

-- a count's text is read as the count
pub count_again : (most n : ℕ) → n ≤ most → n < 2 ^ 64 → number_up_to most (decimal n) ≡ Some n
count_again most n le fits =
    let value : read_on 0 (decimal n) ≡ n = digits_value-decimal own n fits in
    let within : read_on 0 (decimal n) ≤ most = omega arith in
    rw (front_is_good (decimal n) (decimal_nonempty n fits) (front_of n fits)) (capped_again most 0 (decimal n) (digits_decimal own n fits) within ∙ ap (λ (m : ℕ). Some m) value)

-- no other word is read as the count
pub count_takes : (most n : ℕ) (word : List ℕ) → number_up_to most word ≡ Some n → n < most → n < 2 ^ 64 → word ≡ decimal n
count_takes most n word e less fits =
    let p = else_some (has_bad_front word) (digits_up_to most 0 word) n e in
    let front = good_front word p.0 in
    let q = capped_takes most 0 n word p.1 less in
    let same : decimal (read_on 0 word) ≡ word = decimal-digits_value own word q.0 front.0 front.1 (omega (arith, q.1)) in
    sym same ∙ ap decimal q.1
