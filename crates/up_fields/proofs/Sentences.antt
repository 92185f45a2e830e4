-- Lines and their words.
use Rattle.std.proofs.Common.{◌≡◌, ℕ, ◌<◌, true, eqb, not, List, [], ◌∷◌, ◌++◌, length, Ok, refl, sym, ap, ◌∙◌, append_assoc, append-nil, arith}
use Rattle.std.specs.List.{list_all, join_with_byte}
use Rattle.std.proofs.lemmas.Bool.{and_parts}
use Rattle.std.proofs.lemmas.List.Folds.{list_all-append}
use Rattle.up_words.specs.Words.{split, words_in, is_word, is_word_byte}
use Rattle.up_words.proofs.Decimals.{both, joins}
use Rattle.up_fields.specs.Text.{spaced, line_of}
use Rattle.up_fields.proofs.Listed.{is_free, word_free, split_at, split_end}

word_bytes : (word : List ℕ) → is_word word ≡ true → list_all is_word_byte word ≡ true
word_bytes word e = (and_parts (not (eqb (length word) 0)) (list_all is_word_byte word) e).1

-- the words of a line, which single spaces part, come back
pub split_words : (words : List (List ℕ)) → 0 < length words → list_all is_word words ≡ true → split 32 (line_of words) ≡ words
split_words [] some all = absurd (omega arith)
split_words (word ∷ []) some all =
    let p = and_parts (is_word word) true all in
    ap (split 32) (append-nil word) ∙ split_end 32 word (word_free 32 word (omega arith) (word_bytes word p.0))
split_words (word ∷ next ∷ words) some all =
    let p = and_parts (is_word word) (list_all is_word (next ∷ words)) all in
    split_at 32 word (line_of (next ∷ words)) (word_free 32 word (omega arith) (word_bytes word p.0)) refl ∙ ap (λ (ws : List (List ℕ)). word ∷ ws) (split_words (next ∷ words) (omega arith) p.1)

pub words_again : (words : List (List ℕ)) → 0 < length words → list_all is_word words ≡ true → words_in (line_of words) ≡ Ok words
words_again words some all = rw (split_words words some all, all) refl

line_join : (words : List (List ℕ)) → line_of words ≡ join_with_byte 32 words
line_join [] = refl
line_join (word ∷ []) = append-nil word
line_join (word ∷ next ∷ words) = ap (λ (rest : List ℕ). word ++ 32 ∷ rest) (line_join (next ∷ words))

-- a line that is read as words is the line of these words
pub words_take : (line : List ℕ) (words : List (List ℕ)) → words_in line ≡ Ok words → line ≡ line_of words
words_take line words e = sym (line_join words ∙ joins line words e)

spaced_free : (words : List (List ℕ)) → list_all is_word words ≡ true → is_free 10 (spaced words) ≡ true
spaced_free [] all = refl
spaced_free (word ∷ words) all =
    let p = and_parts (is_word word) (list_all is_word words) all in
    list_all-append (λ byte. not (eqb byte 10)) word (spaced words) ∙ both (is_free 10 word) (is_free 10 (spaced words)) (word_free 10 word (omega arith) (word_bytes word p.0)) (spaced_free words p.1)

-- no newline stands in a line of words
pub line_free : (words : List (List ℕ)) → list_all is_word words ≡ true → is_free 10 (line_of words) ≡ true
line_free [] all = refl
line_free (word ∷ words) all =
    let p = and_parts (is_word word) (list_all is_word words) all in
    list_all-append (λ byte. not (eqb byte 10)) word (spaced words) ∙ both (is_free 10 word) (is_free 10 (spaced words)) (word_free 10 word (omega arith) (word_bytes word p.0)) (spaced_free words p.1)

-- a line, and the lines behind its newline
pub split_line : (line rest : List ℕ) → is_free 10 line ≡ true → split 10 ((line ++ 10 ∷ []) ++ rest) ≡ line ∷ split 10 rest
split_line line rest free = ap (split 10) (append_assoc line (10 ∷ []) rest) ∙ split_at 10 line rest free refl
