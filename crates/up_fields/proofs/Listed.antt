-- Lists whose items a comma parts: each is read from its text, and from no other, and its text is a word.
use Rattle.std.proofs.Common.{◌≡◌, ℕ, ◌^◌, ◌<◌, Bool, true, false, ◌||◌, ◌⊎◌, ⊎_elim, inl, inr, eqb, leb, not, All, map, List, [], ◌∷◌, ◌++◌, length, get_or, Result, Ok, refl, sym, ap, ap₂, ◌∙◌, append_assoc, append-nil, arith}
use Rattle.std.specs.Fmt.{decimal}
use Rattle.std.specs.Prelude.{codes}
use Rattle.std.specs.List.{list_all, join_with_byte}
use Rattle.std.specs.Str.{bytes_eq}
use Rattle.std.proofs.lemmas.Bool.{leb-true, eqb-true, ne_eqb, not-true, and_parts}
use Rattle.std.proofs.lemmas.List.{length-append}
use Rattle.std.proofs.lemmas.Fmt.{decimal_nonempty, digits_decimal}
use Rattle.std.proofs.lemmas.List.Sums.{AllPass-from_list_all}
use Rattle.std.proofs.lemmas.List.Folds.{list_all-append}
use Rattle.std.proofs.lemmas.List.Splits.{slice_split_none, slice_split_at, length-slice_split, join_with_byte-slice_split}
use Rattle.up_num.specs.declared.pages.DirtyRange.{DirtyRange}
use Rattle.up_words.specs.ReadSteps.{each}
use Rattle.up_words.specs.Words.{split, word_at, is_word, is_word_byte}
use Rattle.up_words.specs.Numbers.{is_digit, number_between}
use Rattle.up_words.specs.declared.fault.Why.{Why}
use Rattle.up_words.specs.declared.fault.Why.TheVariants as why
use Rattle.up_words.proofs.Decimals.{own, then_ok, ok_is, both}
use Rattle.up_fields.specs.Limits.{all_tickets, all_pages, all_sizes}
use Rattle.up_fields.specs.Text.{flag_text, more_text, list_text, page_text, run_of_pages}
use Rattle.up_fields.specs.Fields.{is_found, flag_in, page_in, range_in, list_step, list_in, run_parts, run_numbers, is_run, run_of, are_runs}
use Rattle.up_fields.specs.Allowed.{lies, page_lies, range_lies}
use Rattle.up_fields.proofs.Values.{bind_ok, found_ok, either, same_word, other_first, number_again, number_takes, number_bytes, first_digit, make_word, page_again, page_takes, range_again, range_takes, flag_again, flag_takes}

-- the byte c isn't among these
abbrev pub is_free : ℕ → List ℕ → Bool
is_free c bytes = list_all (λ byte. not (eqb byte c)) bytes

pub free_of : (test : ℕ → Bool) (c : ℕ) → ((byte : ℕ) → test byte ≡ true → eqb byte c ≡ false) → (bytes : List ℕ) → list_all test bytes ≡ true → is_free c bytes ≡ true
free_of test c other [] e = refl
free_of test c other (byte ∷ bytes) e =
    let p = and_parts (test byte) (list_all test bytes) e in
    both (not (eqb byte c)) (is_free c bytes) (ap not (other byte p.0)) (free_of test c other bytes p.1)

all_free : (c : ℕ) (bytes : List ℕ) → is_free c bytes ≡ true → All (λ byte. eqb byte c ≡ false) bytes
all_free c bytes e k d at = not-true (eqb (get_or bytes k d) c) (AllPass-from_list_all (λ byte. not (eqb byte c)) bytes e k d at)

-- a piece that ends at the byte, and the pieces behind it
pub split_at : (c : ℕ) (piece rest : List ℕ) → is_free c piece ≡ true → eqb c c ≡ true → split c (piece ++ c ∷ rest) ≡ piece ∷ split c rest
split_at c piece rest e same = slice_split_at (λ byte. eqb byte c) piece c rest (all_free c piece e) same

-- the last piece
pub split_end : (c : ℕ) (piece : List ℕ) → is_free c piece ≡ true → split c piece ≡ piece ∷ []
split_end c piece e = slice_split_none (λ byte. eqb byte c) piece (all_free c piece e)

-- no byte below 33 stands in a word
pub word_free : (c : ℕ) (bytes : List ℕ) → c < 33 → list_all is_word_byte bytes ≡ true → is_free c bytes ≡ true
word_free c bytes low e = free_of is_word_byte c (λ byte f. ne_eqb byte c (λ same. omega (arith, leb-true 33 byte (and_parts (leb 33 byte) (leb byte 126) f).0, same))) bytes e

-- no byte but digits stands in a number's text
pub number_free : (c n : ℕ) → n < 2 ^ 64 → (c < 48) ⊎ (57 < c) → is_free c (decimal n) ≡ true
number_free c n fits far = free_of is_digit c (λ byte f. ne_eqb byte c (λ same. differ byte (and_parts (leb 48 byte) (leb byte 57) f) same far)) (decimal n) (digits_decimal own n fits)
  where
    differ : (byte : ℕ) → (leb 48 byte ≡ true) × (leb byte 57 ≡ true) → byte ≡ c → (c < 48) ⊎ (57 < c) → ⊥
    differ byte p same (inl low) = omega (arith, leb-true 48 byte p.0, same)
    differ byte p same (inr high) = omega (arith, leb-true byte 57 p.1, same)

-- what is known of items that are fine: how they are read from their texts
pub record AreItems {X : Type 0} (text : X → List ℕ) (item : List ℕ → Result X Why) (fine : X → Bool) : Type 0 where
  pub again : (x : X) → fine x ≡ true → item (text x) ≡ Ok x
  pub takes : (word : List ℕ) (x : X) → item word ≡ Ok x → word ≡ text x
  pub free : (x : X) → fine x ≡ true → is_free 44 (text x) ≡ true
  pub some : (x : X) → fine x ≡ true → 0 < length (text x)
  pub first : (x : X) → fine x ≡ true → get_or (text x) 0 0 ≡ 45 → ⊥
  pub bytes : (x : X) → fine x ≡ true → list_all is_word_byte (text x) ≡ true

first_of : (front back : List ℕ) → 0 < length front → get_or (front ++ back) 0 0 ≡ get_or front 0 0
first_of [] back some = absurd (omega arith)
first_of (byte ∷ front) back some = refl

pieces_of : {X : Type 0} {text : X → List ℕ} {item : List ℕ → Result X Why} {fine : X → Bool} → AreItems text item fine → (x : X) (xs : List X) → fine x ≡ true → list_all fine xs ≡ true → split 44 (text x ++ more_text text xs) ≡ text x ∷ map text xs
unfolding more_text
pieces_of {text = text} {fine = fine} is x [] e all = ap (split 44) (append-nil (text x)) ∙ split_end 44 (text x) (is.free x e)
pieces_of {text = text} {fine = fine} is x (y ∷ ys) e all =
    let p = and_parts (fine y) (list_all fine ys) all in
    split_at 44 (text x) (text y ++ more_text text ys) (is.free x e) refl ∙ ap (λ ps. text x ∷ ps) (pieces_of is y ys p.0 p.1)

each_again : {X : Type 0} {text : X → List ℕ} {item : List ℕ → Result X Why} {fine : X → Bool} → AreItems text item fine → (found xs : List X) → list_all fine xs ≡ true → each (list_step item) found (map text xs) ≡ Ok (found ++ xs)
unfolding each
each_again is found [] all = ap Ok (sym (append-nil found))
each_again {item = item} {fine = fine} is found (x ∷ xs) all =
    let p = and_parts (fine x) (list_all fine xs) all in
    rw (is.again x p.0) (each_again is (found ++ x ∷ []) xs p.1 ∙ ap Ok (append_assoc found (x ∷ []) xs))

-- a list of fine items is read from its text
pub list_again : {X : Type 0} {text : X → List ℕ} {item : List ℕ → Result X Why} {fine : X → Bool} → AreItems text item fine → (xs : List X) → list_all fine xs ≡ true → list_in item (list_text text xs) ≡ Ok xs
list_again is [] all = refl
list_again {text = text} {item = item} {fine = fine} is (x ∷ xs) all =
    let p = and_parts (fine x) (list_all fine xs) all in
    let whole = text x ++ more_text text xs in
    let dash : bytes_eq whole (codes "-") ≡ false = other_first whole (codes "-") (λ same. is.first x p.0 (sym (first_of (text x) (more_text text xs) (is.some x p.0)) ∙ same)) in
    rw (dash, pieces_of is x xs p.0 p.1) (each_again is [] (x ∷ xs) all)

more_bytes : {X : Type 0} {text : X → List ℕ} {item : List ℕ → Result X Why} {fine : X → Bool} → AreItems text item fine → (xs : List X) → list_all fine xs ≡ true → list_all is_word_byte (more_text text xs) ≡ true
unfolding more_text
more_bytes is [] all = refl
more_bytes {text = text} {fine = fine} is (x ∷ xs) all =
    let p = and_parts (fine x) (list_all fine xs) all in
    list_all-append is_word_byte (text x) (more_text text xs) ∙ both (list_all is_word_byte (text x)) (list_all is_word_byte (more_text text xs)) (is.bytes x p.0) (more_bytes is xs p.1)

word_of : (front back : List ℕ) → 0 < length front → list_all is_word_byte front ≡ true → list_all is_word_byte back ≡ true → is_word (front ++ back) ≡ true
word_of front back some e f = make_word (front ++ back) (omega (arith, some, length-append front back)) (list_all-append is_word_byte front back ∙ both (list_all is_word_byte front) (list_all is_word_byte back) e f)

-- its text is a word
pub list_word : {X : Type 0} {text : X → List ℕ} {item : List ℕ → Result X Why} {fine : X → Bool} → AreItems text item fine → (xs : List X) → list_all fine xs ≡ true → is_word (list_text text xs) ≡ true
list_word is [] all = refl
list_word {text = text} {fine = fine} is (x ∷ xs) all =
    let p = and_parts (fine x) (list_all fine xs) all in
    word_of (text x) (more_text text xs) (is.some x p.0) (is.bytes x p.0) (more_bytes is xs p.1)

each_takes : {X : Type 0} {text : X → List ℕ} {item : List ℕ → Result X Why} {fine : X → Bool} → AreItems text item fine → (found all : List X) (pieces : List (List ℕ)) → each (list_step item) found pieces ≡ Ok all → (xs : List X) × (all ≡ found ++ xs) × (pieces ≡ map text xs)
unfolding each
each_takes is found all [] e = ([], sym (ok_is found all e) ∙ sym (append-nil found), refl)
each_takes {text = text} {item = item} is found all (piece ∷ pieces) e =
    let step = bind_ok (list_step item found piece) _ all e in
    let one = bind_ok (item piece) _ step.0 step.1 in
    let more = each_takes is step.0 all pieces step.2 in
    let x = one.0 in
    (x ∷ more.0, more.1 ∙ ap (λ xs. xs ++ more.0) (sym (ok_is (found ++ x ∷ []) step.0 one.2)) ∙ append_assoc found (x ∷ []) more.0, ap₂ (λ p ps. p ∷ ps) (is.takes piece x one.1) more.2)

joined : {X : Type 0} (text : X → List ℕ) (x : X) (xs : List X) → join_with_byte 44 (map text (x ∷ xs)) ≡ text x ++ more_text text xs
unfolding more_text
joined text x [] = sym (append-nil (text x))
joined text x (y ∷ ys) = ap (λ rest. text x ++ 44 ∷ rest) (joined text y ys)

-- no other word is read as the list
pub list_takes : {X : Type 0} {text : X → List ℕ} {item : List ℕ → Result X Why} {fine : X → Bool} → AreItems text item fine → (word : List ℕ) (xs : List X) → list_in item word ≡ Ok xs → word ≡ list_text text xs
list_takes {X = X} {text = text} {item = item} is word xs e = ⊎_elim empty pieces (either (bytes_eq word (codes "-")) (Ok []) (each (list_step item) [] (split 44 word)) (Ok xs) e)
  where
    empty : (bytes_eq word (codes "-") ≡ true) × (◌≡◌ {A = Result (List X) Why} (Ok []) (Ok xs)) → word ≡ list_text text xs
    empty p = same_word word (codes "-") p.0 ∙ ap (list_text text) (ok_is [] xs p.1)

    by : (found : List X) → split 44 word ≡ map text found → xs ≡ found → word ≡ list_text text xs
    by [] split_is same = absurd (omega (arith, length-slice_split (λ byte. eqb byte 44) word, ap length split_is))
    by (x ∷ more) split_is same = sym (join_with_byte-slice_split 44 word) ∙ ap (join_with_byte 44) split_is ∙ joined text x more ∙ ap (list_text text) (sym same)

    pieces : (bytes_eq word (codes "-") ≡ false) × (each (list_step item) [] (split 44 word) ≡ Ok xs) → word ≡ list_text text xs
    pieces p =
        let r = each_takes is [] xs (split 44 word) p.1 in
        by r.0 r.2 r.1

fits_of : (high n : ℕ) → high < 2 ^ 64 → lies 0 high n ≡ true → n < 2 ^ 64
fits_of high n fits e = omega (arith, leb-true n high (and_parts (leb 0 n) (leb n high) e).1)

no_dash : (n : ℕ) → n < 2 ^ 64 → get_or (decimal n) 0 0 ≡ 45 → ⊥
no_dash n fits same = omega (arith, (first_digit n fits).0, same)

-- tickets are items
pub tickets : AreItems decimal (number_between 0 all_tickets) (lies 0 all_tickets)
tickets = record {
  again = λ n e. number_again 0 all_tickets n (omega arith) e;
  takes = λ word n e. number_takes 0 all_tickets n word (omega arith) e;
  free = λ n e. number_free 44 n (fits_of all_tickets n (omega arith) e) (inl (omega arith));
  some = λ n e. decimal_nonempty n (fits_of all_tickets n (omega arith) e);
  first = λ n e. no_dash n (fits_of all_tickets n (omega arith) e);
  bytes = λ n e. number_bytes n (fits_of all_tickets n (omega arith) e);
}

-- numbers of pages are items
pub pages : AreItems page_text (page_in all_pages) page_lies
pages = record {
  again = λ page e. page_again all_pages page (omega arith) e;
  takes = λ word page e. page_takes all_pages page word (omega arith) e;
  free = λ page e. number_free 44 page.0 (fits_of all_pages page.0 (omega arith) e) (inl (omega arith));
  some = λ page e. decimal_nonempty page.0 (fits_of all_pages page.0 (omega arith) e);
  first = λ page e. no_dash page.0 (fits_of all_pages page.0 (omega arith) e);
  bytes = λ page e. number_bytes page.0 (fits_of all_pages page.0 (omega arith) e);
}

-- the range's part of a run's text
abbrev numbers_text : DirtyRange → List ℕ
numbers_text run = decimal run.range.first ++ 43 ∷ decimal run.range.count

-- d or z
abbrev end_text : DirtyRange → List ℕ
end_text run = flag_text (codes "z") (codes "d") run.zero

-- a run's text is its numbers, a colon and its end
run_sides : (run : DirtyRange) → run_of_pages run ≡ numbers_text run ++ 58 ∷ end_text run
run_sides run = refl

record RunFits (run : DirtyRange) : Type 0 where
  pub first : run.range.first < 2 ^ 64
  pub count : run.range.count < 2 ^ 64

run_fits : (run : DirtyRange) → range_lies run.range ≡ true → RunFits run
run_fits run e =
    let p = and_parts (lies 0 all_pages run.range.first) (lies 1 all_sizes run.range.count) e in
    let q = and_parts (leb 0 run.range.first) (leb run.range.first all_pages) p.0 in
    let r = and_parts (leb 1 run.range.count) (leb run.range.count all_sizes) p.1 in
    record {
      first = omega (arith, leb-true run.range.first all_pages q.1);
      count = omega (arith, leb-true run.range.count all_sizes r.1);
    }

-- a byte that no digit is, and that isn't the plus sign either, isn't among the numbers
numbers_free : (c : ℕ) (run : DirtyRange) → RunFits run → (c < 48) ⊎ (57 < c) → eqb 43 c ≡ false → is_free c (numbers_text run) ≡ true
numbers_free c run fits far plus =
    list_all-append (λ byte. not (eqb byte c)) (decimal run.range.first) (43 ∷ decimal run.range.count)
    ∙ both (is_free c (decimal run.range.first)) (is_free c (43 ∷ decimal run.range.count)) (number_free c run.range.first fits.first far)
    (both (not (eqb 43 c)) (is_free c (decimal run.range.count)) (ap not plus) (number_free c run.range.count fits.count far))

end_free : (c : ℕ) (zero : Bool) → is_free c (codes "z") ≡ true → is_free c (codes "d") ≡ true → is_free c (flag_text (codes "z") (codes "d") zero) ≡ true
end_free c true e f = e
end_free c false e f = f

parts_again : (run : DirtyRange) → RunFits run → run_parts (run_of_pages run) ≡ numbers_text run ∷ end_text run ∷ []
parts_again run fits =
    ap (split 58) (run_sides run) ∙ split_at 58 (numbers_text run) (end_text run) (numbers_free 58 run fits (inr (omega arith)) refl) refl
    ∙ ap (λ ps. numbers_text run ∷ ps) (split_end 58 (end_text run) (end_free 58 run.zero refl refl))

numbers_again : (run : DirtyRange) → RunFits run → split 43 (numbers_text run) ≡ decimal run.range.first ∷ decimal run.range.count ∷ []
numbers_again run fits =
    split_at 43 (decimal run.range.first) (decimal run.range.count) (number_free 43 run.range.first fits.first (inl (omega arith))) refl
    ∙ ap (λ ps. decimal run.range.first ∷ ps) (split_end 43 (decimal run.range.count) (number_free 43 run.range.count fits.count (inl (omega arith))))

shaped_again : (run : DirtyRange) → range_lies run.range ≡ true → is_run (run_of_pages run) ≡ true
shaped_again run e =
    let fits = run_fits run e in
    rw (parts_again run fits, numbers_again run fits, flag_again (codes "z") (codes "d") run.zero refl refl refl) refl

run_again : (run : DirtyRange) → range_lies run.range ≡ true → run_of (run_of_pages run) ≡ Ok run
run_again run e =
    let fits = run_fits run e in
    rw (shaped_again run e, parts_again run fits, numbers_again run fits, flag_again (codes "z") (codes "d") run.zero refl refl refl, range_again run.range e) refl

two_words : (words : List (List ℕ)) → length words ≡ 2 → words ≡ word_at words 0 ∷ word_at words 1 ∷ []
two_words [] e = absurd (omega (arith, e))
two_words (a ∷ []) e = absurd (omega (arith, e))
two_words (a ∷ b ∷ []) e = refl
two_words (a ∷ b ∷ c ∷ more) e = absurd (omega (arith, e))

-- two pieces make the whole
rejoined : (c : ℕ) (bytes : List ℕ) → eqb (length (split c bytes)) 2 ≡ true → bytes ≡ word_at (split c bytes) 0 ++ c ∷ word_at (split c bytes) 1
rejoined c bytes e = sym (join_with_byte-slice_split c bytes) ∙ ap (join_with_byte c) (two_words (split c bytes) (eqb-true (length (split c bytes)) 2 e))

run_takes : (word : List ℕ) (run : DirtyRange) → run_of word ≡ Ok run → word ≡ run_of_pages run
run_takes word run e =
    let shaped = then_ok why.Word (is_run word) _ run e in
    let zero = found_ok why.Word (flag_in (codes "z") (codes "d") (word_at (run_parts word) 1)) _ run shaped.1 in
    let range = bind_ok (range_in (word_at (run_numbers word) 0) (word_at (run_numbers word) 1)) _ run zero.2 in
    let made = ok_is (record { range = range.0; zero = zero.0 }) run range.2 in
    let p = and_parts (eqb (length (run_parts word)) 2) _ shaped.0 in
    let q = and_parts (is_found (flag_in (codes "z") (codes "d") (word_at (run_parts word) 1))) (eqb (length (run_numbers word)) 2) p.1 in
    let numbers = range_takes range.0 (word_at (run_numbers word) 0) (word_at (run_numbers word) 1) range.1 in
    let sides = rejoined 58 word p.0 in
    let inner = rejoined 43 (word_at (run_parts word) 0) q.1 in
    let flag = flag_takes (codes "z") (codes "d") (word_at (run_parts word) 1) zero.0 zero.1 in
    let left : word_at (run_parts word) 0 ≡ decimal range.0.first ++ 43 ∷ decimal range.0.count = inner ∙ ap₂ (λ a b. a ++ 43 ∷ b) numbers.0 numbers.1 in
    let read : DirtyRange = record { range = range.0; zero = zero.0 } in
    sides ∙ ap₂ (λ a b. a ++ 58 ∷ b) left flag ∙ sym (run_sides read) ∙ ap run_of_pages made

run_bytes : (run : DirtyRange) → range_lies run.range ≡ true → list_all is_word_byte (run_of_pages run) ≡ true
run_bytes run e =
    let fits = run_fits run e in
    list_all-append is_word_byte (numbers_text run) (58 ∷ end_text run)
    ∙ both (list_all is_word_byte (numbers_text run)) (list_all is_word_byte (end_text run))
    (list_all-append is_word_byte (decimal run.range.first) (43 ∷ decimal run.range.count)
    ∙ both (list_all is_word_byte (decimal run.range.first)) (list_all is_word_byte (decimal run.range.count)) (number_bytes run.range.first fits.first) (number_bytes run.range.count fits.count))
    (end_word run.zero)
  where
    end_word : (zero : Bool) → list_all is_word_byte (flag_text (codes "z") (codes "d") zero) ≡ true
    end_word true = refl
    end_word false = refl

run_free : (run : DirtyRange) → range_lies run.range ≡ true → is_free 44 (run_of_pages run) ≡ true
run_free run e =
    let fits = run_fits run e in
    ap (is_free 44) (run_sides run) ∙ list_all-append (λ byte. not (eqb byte 44)) (numbers_text run) (58 ∷ end_text run)
    ∙ both (is_free 44 (numbers_text run)) (is_free 44 (58 ∷ end_text run)) (numbers_free 44 run fits (inl (omega arith)) refl) (end_free 44 run.zero refl refl)

run_first : (run : DirtyRange) → RunFits run → (0 < length (run_of_pages run)) × (get_or (run_of_pages run) 0 0 ≡ get_or (decimal run.range.first) 0 0)
run_first run fits = by (decimal run.range.first) (43 ∷ decimal run.range.count) (58 ∷ end_text run) (decimal_nonempty run.range.first fits.first)
  where
    by : (front middle back : List ℕ) → 0 < length front → (0 < length ((front ++ middle) ++ back)) × (get_or ((front ++ middle) ++ back) 0 0 ≡ get_or front 0 0)
    by [] middle back some = absurd (omega arith)
    by (byte ∷ front) middle back some = (omega arith, refl)

-- runs of pages are items
pub runs : AreItems run_of_pages run_of (λ run. range_lies run.range)
runs = record {
  again = run_again;
  takes = run_takes;
  free = run_free;
  some = λ run e. (run_first run (run_fits run e)).0;
  first = λ run e same. no_dash run.range.first (run_fits run e).first (sym (run_first run (run_fits run e)).1 ∙ same);
  bytes = run_bytes;
}

all_shaped : (xs : List DirtyRange) → list_all (λ run. range_lies run.range) xs ≡ true → list_all is_run (map run_of_pages xs) ≡ true
all_shaped [] all = refl
all_shaped (run ∷ xs) all =
    let p = and_parts (range_lies run.range) (list_all (λ (r : DirtyRange). range_lies r.range) xs) all in
    both (is_run (run_of_pages run)) (list_all is_run (map run_of_pages xs)) (shaped_again run p.0) (all_shaped xs p.1)

-- the text of runs of pages is of the form of such a list
pub runs_shown : (xs : List DirtyRange) → list_all (λ run. range_lies run.range) xs ≡ true → are_runs (list_text run_of_pages xs) ≡ true
runs_shown [] all = refl
runs_shown (run ∷ xs) all =
    let p = and_parts (range_lies run.range) (list_all (λ (r : DirtyRange). range_lies r.range) xs) all in
    rw (pieces_of runs run xs p.0 p.1, all_shaped (run ∷ xs) all) (or_last (bytes_eq (list_text run_of_pages (run ∷ xs)) (codes "-")))
  where
    or_last : (b : Bool) → (b || true) ≡ true
    or_last true = refl
    or_last false = refl
