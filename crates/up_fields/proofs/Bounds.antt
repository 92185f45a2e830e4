-- What was read keeps the limits: numbers, ranges, lists and byte lists.
use Rattle.std.proofs.Common.{◌≡◌, ℕ, zero, suc, ◌+◌, ◌*◌, ◌^◌, ◌<◌, Bool, true, false, ⊎_elim, eqb, leb, ltb, not, List, [], ◌∷◌, ◌++◌, length, replicate, get_or, drop, Result, Ok, refl, sym, ap, subst, ◌∙◌, append-nil, arith}
use Rattle.std.specs.Prelude.{codes}
use Rattle.std.specs.List.{list_all}
use Rattle.std.specs.Str.{bytes_eq}
use Rattle.std.proofs.lemmas.Bool.{le-leb, lt-ltb}
use Rattle.std.proofs.lemmas.List.Concat.{flat_map-append}
use Rattle.std.proofs.lemmas.List.Folds.{list_all-append}
use Rattle.up_num.specs.Span.{Span}
use Rattle.up_num.specs.declared.pages.PageNo.{PageNo}
use Rattle.up_num.specs.declared.pages.DirtyRange.{DirtyRange}
use Rattle.up_words.specs.ReadSteps.{each}
use Rattle.up_words.specs.Words.{split, word_at, is_byte}
use Rattle.up_words.specs.Numbers.{number, number_between, number_up_to}
use Rattle.up_words.specs.Runs.{too_many, hex_value, run_in, run_step, no_runs, runs_in, spread, bytes_text}
use Rattle.up_words.specs.declared.fault.Why.{Why}
use Rattle.up_words.specs.declared.fault.Why.TheVariants as why
use Rattle.up_words.specs.declared.runs.ByteRun.{ByteRun}
use Rattle.up_words.specs.declared.runs.ByteRuns.{ByteRuns}
use Rattle.up_words.proofs.Decimals.{then_ok, ok_is, both, only as only_decimal}
use Rattle.up_words.proofs.Hex.{hex_takes}
use Rattle.up_words.proofs.ByteLists.{only as only_bytes}
use Rattle.up_fields.specs.Limits.{all_tickets, all_pages, all_sizes}
use Rattle.up_fields.specs.Fields.{flag_in, page_in, range_in, list_step, list_in, run_parts, run_numbers, is_run, run_of}
use Rattle.up_fields.specs.Allowed.{lies, page_lies, range_lies, are_bytes}
use Rattle.up_fields.proofs.Values.{bind_ok, found_ok, either}

-- a number that was read lies between its bounds
pub number_within : (low high n : ℕ) (word : List ℕ) → high < 2 ^ 64 → number_between low high word ≡ Ok n → lies low high n ≡ true
number_within low high n word fits e =
    let a = found_ok why.Number (number high word) _ n e in
    let b = then_ok why.Number (leb low a.0) _ n a.2 in
    subst (λ (m : ℕ). lies low high m ≡ true) (ok_is a.0 n b.1) (both (leb low a.0) (leb a.0 high) b.0 (le-leb a.0 high (only_decimal high a.0 word fits a.1).1))

pub page_within : (most : ℕ) (page : PageNo) (word : List ℕ) → most < 2 ^ 64 → page_in most word ≡ Ok page → lies 0 most page.0 ≡ true
page_within most page word fits e =
    let a = bind_ok (number_between 0 most word) _ page e in
    subst (λ (p : PageNo). lies 0 most p.0 ≡ true) (ok_is _ page a.2) (number_within 0 most a.0 word fits a.1)

pub range_within : (range : Span) (first count : List ℕ) → range_in first count ≡ Ok range → range_lies range ≡ true
range_within range first count e =
    let a = bind_ok (number_between 0 all_pages first) _ range e in
    let b = bind_ok (number_between 1 all_sizes count) _ range a.2 in
    subst (λ (r : Span). range_lies r ≡ true) (ok_is _ range b.2)
    (both (lies 0 all_pages a.0) (lies 1 all_sizes b.0) (number_within 0 all_pages a.0 first (omega arith) a.1) (number_within 1 all_sizes b.0 count (omega arith) b.1))

-- every item that was read is fine
pub AllFine : {X : Type 0} → (List ℕ → Result X Why) → (X → Bool) → Type 0
AllFine {X = X} item fine = (word : List ℕ) (x : X) → item word ≡ Ok x → fine x ≡ true

items_within : {X : Type 0} (item : List ℕ → Result X Why) (fine : X → Bool) → AllFine item fine → (found all : List X) (pieces : List (List ℕ)) → list_all fine found ≡ true → each (list_step item) found pieces ≡ Ok all → list_all fine all ≡ true
unfolding AllFine each
items_within item fine is found all [] so_far e = subst (λ xs. list_all fine xs ≡ true) (ok_is found all e) so_far
items_within item fine is found all (piece ∷ pieces) so_far e =
    let step = bind_ok (list_step item found piece) _ all e in
    let one = bind_ok (item piece) _ step.0 step.1 in
    let last : list_all fine (one.0 ∷ []) ≡ true = both (fine one.0) true (is piece one.0 one.1) refl in
    let more : list_all fine step.0 ≡ true = subst (λ xs. list_all fine xs ≡ true) (ok_is (found ++ one.0 ∷ []) step.0 one.2)
    (list_all-append fine found (one.0 ∷ []) ∙ both (list_all fine found) (list_all fine (one.0 ∷ [])) so_far last) in
    items_within item fine is step.0 all pieces more step.2

pub list_within : {X : Type 0} (item : List ℕ → Result X Why) (fine : X → Bool) → AllFine item fine → (word : List ℕ) (xs : List X) → list_in item word ≡ Ok xs → list_all fine xs ≡ true
list_within {X = X} item fine is word xs e = ⊎_elim empty pieces (either (bytes_eq word (codes "-")) (Ok []) (each (list_step item) [] (split 44 word)) (Ok xs) e)
  where
    empty : (bytes_eq word (codes "-") ≡ true) × (◌≡◌ {A = Result (List X) Why} (Ok []) (Ok xs)) → list_all fine xs ≡ true
    empty p = ap (list_all fine) (sym (ok_is [] xs p.1))

    pieces : (bytes_eq word (codes "-") ≡ false) × (each (list_step item) [] (split 44 word) ≡ Ok xs) → list_all fine xs ≡ true
    pieces p = items_within item fine is [] xs (split 44 word) refl p.1

pub tickets_fine : AllFine (number_between 0 all_tickets) (lies 0 all_tickets)
unfolding AllFine
tickets_fine word n e = number_within 0 all_tickets n word (omega arith) e

pub pages_fine : AllFine (page_in all_pages) page_lies
unfolding AllFine
pages_fine word page e = page_within all_pages page word (omega arith) e

pub runs_fine : AllFine run_of (λ run. range_lies run.range)
unfolding AllFine
runs_fine word run e =
    let shaped = then_ok why.Word (is_run word) _ run e in
    let flag = found_ok why.Word (flag_in (codes "z") (codes "d") (word_at (run_parts word) 1)) _ run shaped.1 in
    let range = bind_ok (range_in (word_at (run_numbers word) 0) (word_at (run_numbers word) 1)) _ run flag.2 in
    subst (λ (r : DirtyRange). range_lies r.range ≡ true) (ok_is _ run range.2) (range_within range.0 (word_at (run_numbers word) 0) (word_at (run_numbers word) 1) range.1)

-- the byte of a run is one
run_byte : (piece : List ℕ) (run : ByteRun) → run_in piece ≡ Ok run → is_byte run.byte ≡ true
run_byte piece run e =
    let long = then_ok why.Bytes (leb 3 (length piece)) _ run e in
    let high = found_ok why.Bytes (hex_value (get_or piece 0 0)) _ run long.1 in
    let low = found_ok why.Bytes (hex_value (get_or piece 1 0)) _ run high.2 in
    let star = then_ok why.Bytes (eqb (get_or piece 2 0) 42) _ run low.2 in
    let count = found_ok why.Bytes (number_up_to too_many (drop 3 piece)) _ run star.1 in
    let some = then_ok why.Bytes (ltb 0 count.0) _ run count.2 in
    let small : high.0 * 16 + low.0 < 256 = omega (arith, (hex_takes (get_or piece 0 0) high.0 high.1).1, (hex_takes (get_or piece 1 0) low.0 low.1).1) in
    subst (λ (r : ByteRun). is_byte r.byte ≡ true) (ok_is (record { byte = high.0 * 16 + low.0; count = count.0 }) run some.1) (lt-ltb (high.0 * 16 + low.0) 256 small)

bytes_of : (n b : ℕ) → is_byte b ≡ true → list_all is_byte (replicate n b) ≡ true
bytes_of zero b e = refl
bytes_of (suc n) b e = both (is_byte b) (list_all is_byte (replicate n b)) e (bytes_of n b e)

spread_within : (s t : ByteRuns) (pieces : List (List ℕ)) → list_all is_byte (spread s.found) ≡ true → each run_step s pieces ≡ Ok t → list_all is_byte (spread t.found) ≡ true
unfolding each
spread_within s t [] so_far e = subst (λ (r : ByteRuns). list_all is_byte (spread r.found) ≡ true) (ok_is s t e) so_far
spread_within s t (piece ∷ pieces) so_far e =
    let step = bind_ok (run_step s piece) _ t e in
    let run = bind_ok (run_in piece) _ step.0 step.1 in
    let other = then_ok why.Bytes (not (eqb run.0.byte s.last)) _ step.0 run.2 in
    let bytes = replicate run.0.count run.0.byte in
    let whole : spread (s.found ++ run.0 ∷ []) ≡ spread s.found ++ bytes =
    flat_map-append (λ (r : ByteRun). replicate r.count r.byte) s.found (run.0 ∷ []) ∙ ap (λ bs. spread s.found ++ bs) (append-nil bytes) in
    let more : list_all is_byte (spread (s.found ++ run.0 ∷ [])) ≡ true =
    ap (list_all is_byte) whole ∙ list_all-append is_byte (spread s.found) bytes ∙ both (list_all is_byte (spread s.found)) (list_all is_byte bytes) so_far (bytes_of run.0.count run.0.byte (run_byte piece run.0 run.1)) in
    spread_within step.0 t pieces (subst (λ (r : ByteRuns). list_all is_byte (spread r.found) ≡ true) (ok_is _ step.0 other.1) more) step.2

-- no runs are read from no bytes
none_read : (word bytes : List ℕ) (runs : ByteRuns) → runs_in word ≡ Ok runs → word ≡ bytes_text bytes → 0 < length bytes
unfolding each
none_read word [] runs e same = absurd (no_empty (ap runs_in (sym same) ∙ e))
  where
    no_empty : runs_in [] ≡ Ok runs → ⊥
    no_empty f = cc
none_read word (b ∷ bs) runs e same = omega arith

-- a byte list that was read has bytes, at least one
pub bytes_within : (word : List ℕ) (runs : ByteRuns) → runs_in word ≡ Ok runs → runs.total < too_many → are_bytes (spread runs.found) ≡ true
bytes_within word runs e less =
    let is = only_bytes word runs e less in
    let bytes = spread runs.found in
    let some = none_read word bytes runs e is.0 in
    both (lies 1 all_tickets (length bytes)) (list_all is_byte bytes)
    (both (leb 1 (length bytes)) (leb (length bytes) all_tickets) (le-leb 1 (length bytes) some) (le-leb (length bytes) all_tickets (omega (arith, is.1, less))))
    (spread_within no_runs runs (split 43 word) refl e)
