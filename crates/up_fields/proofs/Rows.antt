-- Rows of words, and the words that byte lists and ranges have.
use Rattle.std.proofs.Common.{◌≡◌, ℕ, ◌+◌, ◌/◌, ◌%◌, ◌^◌, ◌<◌, ◌≤◌, true, false, ⊎_elim, eqb, leb, ltb, List, [], ◌∷◌, ◌++◌, length, take, refl, ap, ap₂, ◌∙◌, arith}
use Rattle.std.specs.Fmt.{decimal}
use Rattle.std.specs.List.{list_all}
use Rattle.std.proofs.lemmas.Bool.{and_parts, leb-true, le-leb, ltb-true, cases_Bool}
use Rattle.std.proofs.lemmas.List.Folds.{list_all-append}
use Rattle.up_num.specs.Span.{Span}
use Rattle.up_words.specs.Words.{word_at, is_word, is_word_byte, is_byte}
use Rattle.up_words.specs.Runs.{hex, run_text, text_from, bytes_text}
use Rattle.up_words.proofs.Decimals.{both}
use Rattle.up_fields.specs.Limits.{all_tickets, all_pages, all_sizes}
use Rattle.up_fields.specs.Allowed.{lies, range_lies, are_bytes}
use Rattle.up_fields.proofs.Values.{lies_word, number_bytes, make_word}

pub one : {a b : List ℕ} → a ≡ b → (a ∷ []) ≡ (b ∷ [])
one e = ap (λ (w : List ℕ). w ∷ []) e

next : {a b : List ℕ} {cs ds : List (List ℕ)} → a ≡ b → cs ≡ ds → (a ∷ cs) ≡ (b ∷ ds)
next e f = ap₂ (λ (w : List ℕ) (ws : List (List ℕ)). w ∷ ws) e f

pub two : {a b c d : List ℕ} → a ≡ b → c ≡ d → (a ∷ c ∷ []) ≡ (b ∷ d ∷ [])
two e f = next e (one f)

pub three : {a b c d f g : List ℕ} → a ≡ b → c ≡ d → f ≡ g → (a ∷ c ∷ f ∷ []) ≡ (b ∷ d ∷ g ∷ [])
three e f g = next e (two f g)

pub four : {a b c d f g h i : List ℕ} → a ≡ b → c ≡ d → f ≡ g → h ≡ i → (a ∷ c ∷ f ∷ h ∷ []) ≡ (b ∷ d ∷ g ∷ i ∷ [])
four e f g h = next e (three f g h)

pub five : {a b c d f g h i j k : List ℕ} → a ≡ b → c ≡ d → f ≡ g → h ≡ i → j ≡ k → (a ∷ c ∷ f ∷ h ∷ j ∷ []) ≡ (b ∷ d ∷ g ∷ i ∷ k ∷ [])
five e f g h i = next e (four f g h i)

-- the first words of a line that has so many
pub front_one : (words : List (List ℕ)) → 1 ≤ length words → take 1 words ≡ word_at words 0 ∷ []
front_one [] e = absurd (omega arith)
front_one (a ∷ more) e = refl

pub front_two : (words : List (List ℕ)) → 2 ≤ length words → take 2 words ≡ word_at words 0 ∷ word_at words 1 ∷ []
front_two [] e = absurd (omega arith)
front_two (a ∷ []) e = absurd (omega arith)
front_two (a ∷ b ∷ more) e = refl

pub front_three : (words : List (List ℕ)) → 3 ≤ length words → take 3 words ≡ word_at words 0 ∷ word_at words 1 ∷ word_at words 2 ∷ []
front_three [] e = absurd (omega arith)
front_three (a ∷ []) e = absurd (omega arith)
front_three (a ∷ b ∷ []) e = absurd (omega arith)
front_three (a ∷ b ∷ c ∷ more) e = refl

pub front_four : (words : List (List ℕ)) → 4 ≤ length words → take 4 words ≡ word_at words 0 ∷ word_at words 1 ∷ word_at words 2 ∷ word_at words 3 ∷ []
front_four [] e = absurd (omega arith)
front_four (a ∷ []) e = absurd (omega arith)
front_four (a ∷ b ∷ []) e = absurd (omega arith)
front_four (a ∷ b ∷ c ∷ []) e = absurd (omega arith)
front_four (a ∷ b ∷ c ∷ d ∷ more) e = refl

pub front_five : (words : List (List ℕ)) → 5 ≤ length words → take 5 words ≡ word_at words 0 ∷ word_at words 1 ∷ word_at words 2 ∷ word_at words 3 ∷ word_at words 4 ∷ []
front_five [] e = absurd (omega arith)
front_five (a ∷ []) e = absurd (omega arith)
front_five (a ∷ b ∷ []) e = absurd (omega arith)
front_five (a ∷ b ∷ c ∷ []) e = absurd (omega arith)
front_five (a ∷ b ∷ c ∷ d ∷ []) e = absurd (omega arith)
front_five (a ∷ b ∷ c ∷ d ∷ f ∷ more) e = refl

pub first_word : (range : Span) → range_lies range ≡ true → is_word (decimal range.first) ≡ true
first_word range e = lies_word 0 all_pages range.first (omega arith) (and_parts (lies 0 all_pages range.first) (lies 1 all_sizes range.count) e).0

pub count_word : (range : Span) → range_lies range ≡ true → is_word (decimal range.count) ≡ true
count_word range e = lies_word 1 all_sizes range.count (omega arith) (and_parts (lies 0 all_pages range.first) (lies 1 all_sizes range.count) e).1

-- what allowed bytes are: some, not too many, and all of them bytes
pub bytes_fit : (bytes : List ℕ) → are_bytes bytes ≡ true → (0 < length bytes) × (list_all is_byte bytes ≡ true) × (length bytes ≤ all_tickets)
bytes_fit bytes e =
    let p = and_parts (lies 1 all_tickets (length bytes)) (list_all is_byte bytes) e in
    let q = and_parts (leb 1 (length bytes)) (leb (length bytes) all_tickets) p.0 in
    (omega (arith, leb-true 1 (length bytes) q.0), p.1, leb-true (length bytes) all_tickets q.1)

hex_byte : (d : ℕ) → d < 16 → is_word_byte (hex d) ≡ true
hex_byte d small = ⊎_elim low high (cases_Bool (ltb d 10))
  where
    low : ltb d 10 ≡ true → is_word_byte (hex d) ≡ true
    low e = rw e (both (leb 33 (48 + d)) (leb (48 + d) 126) (le-leb 33 (48 + d) (omega arith)) (le-leb (48 + d) 126 (omega arith)))

    high : ltb d 10 ≡ false → is_word_byte (hex d) ≡ true
    high e = rw e (both (leb 33 (87 + d)) (leb (87 + d) 126) (le-leb 33 (87 + d) (omega arith)) (le-leb (87 + d) 126 (omega arith)))

run_bytes : (b n : ℕ) → b < 256 → n < 2 ^ 64 → list_all is_word_byte (run_text b n) ≡ true
run_bytes b n byte fits =
    both (is_word_byte (hex (b / 16))) (list_all is_word_byte (hex (b % 16) ∷ 42 ∷ decimal n)) (hex_byte (b / 16) (omega arith))
    (both (is_word_byte (hex (b % 16))) (list_all is_word_byte (42 ∷ decimal n)) (hex_byte (b % 16) (omega arith)) (number_bytes n fits))

text_bytes : (b n : ℕ) (bytes : List ℕ) → b < 256 → n + length bytes < 2 ^ 64 → list_all is_byte bytes ≡ true → list_all is_word_byte (text_from b n bytes) ≡ true
unfolding text_from
text_bytes b n [] byte fits all = run_bytes b n byte (omega (arith, fits))
text_bytes b n (c ∷ cs) byte fits all =
    let parts = and_parts (is_byte c) (list_all is_byte cs) all in
    ⊎_elim (λ e. rw e (text_bytes b (n + 1) cs byte (omega (arith, fits)) parts.1))
    (λ e. rw e (list_all-append is_word_byte (run_text b n ++ 43 ∷ []) (text_from c 1 cs)
    ∙ both (list_all is_word_byte (run_text b n ++ 43 ∷ [])) (list_all is_word_byte (text_from c 1 cs))
    (list_all-append is_word_byte (run_text b n) (43 ∷ []) ∙ both (list_all is_word_byte (run_text b n)) true (run_bytes b n byte (omega (arith, fits))) refl)
    (text_bytes c 1 cs (ltb-true c 256 parts.0) (omega (arith, fits)) parts.1))) (cases_Bool (eqb c b))

some_text : (b n : ℕ) (bytes : List ℕ) → 0 < length (text_from b n bytes)
unfolding text_from
some_text b n [] = omega arith
some_text b n (c ∷ cs) = ⊎_elim (λ e. rw e (some_text b (n + 1) cs)) (λ e. rw e (omega arith)) (cases_Bool (eqb c b))

-- the text of allowed bytes is a word
pub bytes_word : (bytes : List ℕ) → are_bytes bytes ≡ true → is_word (bytes_text bytes) ≡ true
bytes_word [] e = absurd cc
bytes_word (b ∷ bs) e =
    let fit = bytes_fit (b ∷ bs) e in
    let p = and_parts (is_byte b) (list_all is_byte bs) fit.1 in
    make_word (text_from b 1 bs) (some_text b 1 bs) (text_bytes b 1 bs (ltb-true b 256 p.0) (omega (arith, fit.2)) p.1)
