-- One run: it is read from its text alone, and no plus sign stands in its text.
use Rattle.std.proofs.Common.{◌≡◌, ℕ, zero, suc, ◌+◌, ◌*◌, ◌/◌, ◌%◌, ◌^◌, ◌<◌, ◌≤◌, true, false, eqb, ltb, leb, All, List, [], ◌∷◌, length, get_or, drop, Option, Some, None, Result, Ok, refl, ap, ◌∙◌, arith}
use Rattle.std.specs.Fmt.{decimal}
use Rattle.std.proofs.lemmas.Bool.{eqb-true, lt-ltb, ltb-true, le-leb, leb-true, ne_eqb}
use Rattle.std.proofs.lemmas.Fmt.{digits_decimal}
use Rattle.std.proofs.lemmas.List.Sums.{AllPass-from_list_all}
use Rattle.up_words.specs.ReadSteps.{◌>>=◌, or_why}
use Rattle.up_words.specs.Numbers.{is_digit, number_up_to}
use Rattle.up_words.specs.Runs.{too_many, hex, hex_value, run_in, run_text}
use Rattle.up_words.specs.declared.fault.Why.{Why}
use Rattle.up_words.specs.declared.fault.Why.TheVariants as why
use Rattle.up_words.specs.declared.runs.ByteRun.{ByteRun}
use Rattle.up_words.proofs.Decimals.{own, parts_of, then_ok, ok_is}
use Rattle.up_words.proofs.Hex.{hex_least, hex_again, hex_takes}
use Rattle.up_words.proofs.Counts.{count_again, count_takes}

-- a value that was found, and what stands behind it
found_ok : {X Y : Type 0} (reason : Why) (found : Option X) (next : X → Result Y Why) (y : Y) → (or_why reason found >>= next) ≡ Ok y → (x : X) × (found ≡ Some x) × (next x ≡ Ok y)
found_ok reason None next y e = absurd cc
found_ok reason (Some x) next y e = (x, refl, e)

-- the text of a run is read as the run
pub run_again : (b n : ℕ) → b < 256 → 0 < n → n ≤ too_many → run_in (run_text b n) ≡ Ok (record { byte = b; count = n })
run_again b n byte some le =
    let whole : b / 16 * 16 + b % 16 ≡ b = omega arith in
    let long : leb 3 (length (run_text b n)) ≡ true = le-leb 3 (length (run_text b n)) (omega arith) in
    let made = λ (k : ℕ). ok_run (record { byte = k; count = n }) in
    rw (long, hex_again (b / 16) (omega arith), hex_again (b % 16) (omega arith), count_again too_many n le (omega arith), lt-ltb 0 n some) (ap made whole)
  where
    ok_run : ByteRun → Result ByteRun Why
    ok_run run = Ok run

-- the piece's digits, star and count are those of the run
record IsRead (piece : List ℕ) (run : ByteRun) : Type 0 where
  pub high : ℕ
  pub low : ℕ
  pub high_is : hex_value (get_or piece 0 0) ≡ Some high
  pub low_is : hex_value (get_or piece 1 0) ≡ Some low
  pub star_is : get_or piece 2 0 ≡ 42
  pub count_is : number_up_to too_many (drop 3 piece) ≡ Some run.count
  pub byte_is : high * 16 + low ≡ run.byte
  pub some : 0 < run.count
  pub long : 3 ≤ length piece

-- a piece that is read as a run has its digits, star and count
read_from : (piece : List ℕ) (run : ByteRun) → run_in piece ≡ Ok run → IsRead piece run
read_from piece run e =
    let long = then_ok why.Bytes (leb 3 (length piece)) _ run e in
    let high = found_ok why.Bytes (hex_value (get_or piece 0 0)) _ run long.1 in
    let low = found_ok why.Bytes (hex_value (get_or piece 1 0)) _ run high.2 in
    let star = then_ok why.Bytes (eqb (get_or piece 2 0) 42) _ run low.2 in
    let count = found_ok why.Bytes (number_up_to too_many (drop 3 piece)) _ run star.1 in
    let some = then_ok why.Bytes (ltb 0 count.0) _ run count.2 in
    let made = ok_is (record { byte = high.0 * 16 + low.0; count = count.0 }) run some.1 in
    let count_same : count.0 ≡ run.count = ap (λ (r : ByteRun). r.count) made in
    record {
      high = high.0;
      low = low.0;
      high_is = high.1;
      low_is = low.1;
      star_is = eqb-true (get_or piece 2 0) 42 star.0;
      count_is = count.1 ∙ ap (λ (n : ℕ). Some n) count_same;
      byte_is = ap (λ (r : ByteRun). r.byte) made;
      some = rw count_same at (ltb-true 0 count.0 some.0);
      long = leb-true 3 (length piece) long.0;
    }

-- a piece is its first three bytes and the rest
front_three : (piece : List ℕ) → 3 ≤ length piece → piece ≡ get_or piece 0 0 ∷ get_or piece 1 0 ∷ get_or piece 2 0 ∷ drop 3 piece
front_three [] long = absurd (omega arith)
front_three (a ∷ []) long = absurd (omega arith)
front_three (a ∷ b ∷ []) long = absurd (omega arith)
front_three (a ∷ b ∷ c ∷ rest) long = refl

-- no other piece is read as the run
pub run_takes : (piece : List ℕ) (run : ByteRun) → run_in piece ≡ Ok run → run.count < too_many → (piece ≡ run_text run.byte run.count) × (0 < run.count)
run_takes piece run e less =
    let r = read_from piece run e in
    let high = hex_takes (get_or piece 0 0) r.high r.high_is in
    let low = hex_takes (get_or piece 1 0) r.low r.low_is in
    let count = count_takes too_many run.count (drop 3 piece) r.count_is less (omega arith) in
    let high_same : r.high ≡ run.byte / 16 = omega (arith, r.byte_is, high.1, low.1) in
    let low_same : r.low ≡ run.byte % 16 = omega (arith, r.byte_is, high.1, low.1) in
    let whole = front_three piece r.long in
    (cc (whole, high.0, low.0, r.star_is, count, high_same, low_same), r.some)

-- no plus sign stands in a run's text
pub run_unparted : (b n : ℕ) → n < 2 ^ 64 → All (λ byte. eqb byte 43 ≡ false) (run_text b n)
run_unparted b n fits zero d at = ne_eqb (hex (b / 16)) 43 (λ same. omega (arith, hex_least (b / 16)))
run_unparted b n fits (suc zero) d at = ne_eqb (hex (b % 16)) 43 (λ same. omega (arith, hex_least (b % 16)))
run_unparted b n fits (suc (suc zero)) d at = refl
run_unparted b n fits (suc (suc (suc k))) d at =
    let p = parts_of (leb 48 (get_or (decimal n) k d)) (leb (get_or (decimal n) k d) 57) (AllPass-from_list_all is_digit (decimal n) (digits_decimal own n fits) k d (omega arith)) in
    let least = leb-true 48 (get_or (decimal n) k d) p.0 in
    ne_eqb (get_or (decimal n) k d) 43 (λ same. omega arith)
