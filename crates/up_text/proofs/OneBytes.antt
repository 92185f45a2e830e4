-- A byte list has one text, however long it is.
use Rattle.std.proofs.Common.{◌≡◌, ℕ, ◌+◌, ◌*◌, ◌/◌, ◌%◌, ◌<◌, ◌≤◌, true, false, ⊎_elim, eqb, List, [], ◌∷◌, ◌++◌, length, replicate, get_or, drop, Option, Some, None, refl, sym, ap, ◌∙◌, append_assoc, arith}
use Rattle.std.specs.Fmt.{decimal}
use Rattle.std.specs.List.{list_all}
use Rattle.std.proofs.lemmas.Bool.{and_parts, eqb-true, ltb-true, cases_Bool}
use Rattle.std.proofs.lemmas.List.{replicate_more}
use Rattle.std.proofs.lemmas.List.Splits.{slice_split_none, slice_split_at}
use Rattle.up_words.specs.Words.{split, is_byte}
use Rattle.up_words.specs.Numbers.{number}
use Rattle.up_words.specs.Runs.{hex_value, run_text, text_from, bytes_text}
use Rattle.up_words.proofs.Decimals.{back, some_is}
use Rattle.up_words.proofs.Hex.{hex_again}
use Rattle.up_words.proofs.Pieces.{run_unparted}
use Rattle.up_fields.specs.Limits.{all_tickets}

-- a number has one text
pub number_one : (m n : ℕ) → m ≤ all_tickets → n ≤ all_tickets → decimal m ≡ decimal n → m ≡ n
number_one m n few less e = some_is m n (sym (back all_tickets m (omega arith) few) ∙ ap (number all_tickets) e ∙ back all_tickets n (omega arith) less)

abbrev or_zero : Option ℕ → ℕ
or_zero None = 0
or_zero (Some n) = n

-- the bytes of a run's text, however many they are
abbrev piece_bytes : List ℕ → List ℕ
piece_bytes piece = replicate (or_zero (number all_tickets (drop 3 piece))) (or_zero (hex_value (get_or piece 0 0)) * 16 + or_zero (hex_value (get_or piece 1 0)))

abbrev pieces_bytes : List (List ℕ) → List ℕ
pieces_bytes [] = []
pieces_bytes (piece ∷ pieces) = piece_bytes piece ++ pieces_bytes pieces

run_bytes : (b n : ℕ) → b < 256 → n ≤ all_tickets → piece_bytes (run_text b n) ≡ replicate n b
run_bytes b n byte few =
    let whole : b / 16 * 16 + b % 16 ≡ b = omega arith in
    rw (hex_again (b / 16) (omega arith), hex_again (b % 16) (omega arith), back all_tickets n (omega arith) few) (ap (replicate n) whole)

same_run : (b n c : ℕ) (cs : List ℕ) → eqb c b ≡ true → text_from b n (c ∷ cs) ≡ text_from b (n + 1) cs
unfolding text_from
same_run b n c cs e = rw e refl

other_run : (b n c : ℕ) (cs : List ℕ) → eqb c b ≡ false → text_from b n (c ∷ cs) ≡ run_text b n ++ 43 ∷ text_from c 1 cs
unfolding text_from
other_run b n c cs e = rw e (append_assoc (run_text b n) (43 ∷ []) (text_from c 1 cs))

longer_run : (n b c : ℕ) (cs : List ℕ) → eqb c b ≡ true → replicate (n + 1) b ++ cs ≡ replicate n b ++ c ∷ cs
longer_run n b c cs e = ap (λ bs. bs ++ cs) (sym (replicate_more n b)) ∙ append_assoc (replicate n b) (b ∷ []) cs ∙ ap (λ k. replicate n b ++ k ∷ cs) (sym (eqb-true c b e))

text_bytes : (b n : ℕ) (bytes : List ℕ) → b < 256 → list_all is_byte bytes ≡ true → n + length bytes ≤ all_tickets → pieces_bytes (split 43 (text_from b n bytes)) ≡ replicate n b ++ bytes
unfolding text_from
text_bytes b n [] byte all few =
    ap pieces_bytes (slice_split_none (λ x. eqb x 43) (run_text b n) (run_unparted b n (omega (arith, few)))) ∙ ap (λ bs. bs ++ []) (run_bytes b n byte (omega (arith, few)))
text_bytes b n (c ∷ cs) byte all few =
    let bytes = and_parts (is_byte c) (list_all is_byte cs) all in
    let same : eqb c b ≡ true → pieces_bytes (split 43 (text_from b n (c ∷ cs))) ≡ replicate n b ++ c ∷ cs = λ e.
    ap (λ t. pieces_bytes (split 43 t)) (same_run b n c cs e) ∙ text_bytes b (n + 1) cs byte bytes.1 (omega (arith, few)) ∙ longer_run n b c cs e in
    let differs : eqb c b ≡ false → pieces_bytes (split 43 (text_from b n (c ∷ cs))) ≡ replicate n b ++ c ∷ cs = λ e.
    ap (λ t. pieces_bytes (split 43 t)) (other_run b n c cs e)
    ∙ ap pieces_bytes (slice_split_at (λ x. eqb x 43) (run_text b n) 43 (text_from c 1 cs) (run_unparted b n (omega (arith, few))) refl)
    ∙ ap (λ bs. bs ++ pieces_bytes (split 43 (text_from c 1 cs))) (run_bytes b n byte (omega (arith, few)))
    ∙ ap (λ bs. replicate n b ++ bs) (text_bytes c 1 cs (ltb-true c 256 bytes.0) bytes.1 (omega (arith, few))) in
    ⊎_elim same differs (cases_Bool (eqb c b))

bytes_back : (bytes : List ℕ) → list_all is_byte bytes ≡ true → length bytes ≤ all_tickets → pieces_bytes (split 43 (bytes_text bytes)) ≡ bytes
bytes_back [] all few = refl
bytes_back (b ∷ bs) all few =
    let bytes = and_parts (is_byte b) (list_all is_byte bs) all in
    text_bytes b 1 bs (ltb-true b 256 bytes.0) bytes.1 (omega (arith, few))

-- byte lists of one text are one
pub bytes_one : (a b : List ℕ) → list_all is_byte a ≡ true → list_all is_byte b ≡ true → length a ≤ all_tickets → length b ≤ all_tickets → bytes_text a ≡ bytes_text b → a ≡ b
bytes_one a b all each few less e = sym (bytes_back a all few) ∙ ap (λ t. pieces_bytes (split 43 t)) e ∙ bytes_back b each less
