-- Numbers and fixed words: each is read from its text, and from no other, and its text is a word.
use Rattle.std.proofs.Common.{◌≡◌, ℕ, ◌^◌, ◌<◌, ◌≤◌, Bool, true, false, ◌⊎◌, ⊎_elim, inl, inr, eqb, leb, not, cond, List, [], ◌∷◌, length, get_or, Option, Some, None, Result, Ok, Err, refl, ap, ◌∙◌, arith}
use Rattle.std.specs.Fmt.{decimal}
use Rattle.std.specs.Prelude.{codes}
use Rattle.std.specs.List.{list_all}
use Rattle.std.specs.Str.{bytes_eq}
use Rattle.std.proofs.lemmas.Bool.{leb-true, le-leb, ne_eqb, and_parts}
use Rattle.std.proofs.lemmas.Slice.Eq.{bytes_eq-Decides}
use Rattle.std.proofs.lemmas.Fmt.{decimal_nonempty, digits_decimal}
use Rattle.up_num.specs.Span.{Span}
use Rattle.up_num.specs.declared.pages.PageNo.{PageNo}
use Rattle.up_num.specs.declared.answers.Code.{Code}
use Rattle.up_num.specs.declared.answers.Code.TheVariants.{Io, IoDataIntegrity, BadState, NoSpace, BufferTooSmall}
use Rattle.up_words.specs.ReadSteps.{◌>>=◌, or_why}
use Rattle.up_words.specs.Words.{is_word, is_word_byte}
use Rattle.up_words.specs.Numbers.{is_digit, number, number_between}
use Rattle.up_words.specs.declared.fault.Why.{Why}
use Rattle.up_words.specs.declared.fault.Why.TheVariants as why
use Rattle.up_words.proofs.Decimals.{own, back, only, then_ok, ok_is, some_is, both}
use Rattle.up_fields.specs.Limits.{all_pages, all_sizes}
use Rattle.up_fields.specs.Text.{flag_text, code_text, page_text}
use Rattle.up_fields.specs.Fields.{flag_in, page_in, range_in}
use Rattle.up_words.specs.Refusals.{code_in}
use Rattle.up_fields.specs.Allowed.{lies, range_lies}

-- nothing was found
pub none_some : {X : Type 0} (x : X) → None ≡ Some x → ⊥
none_some x e = cc

-- what went well before the next step
pub bind_ok : {X Y : Type 0} (r : Result X Why) (next : X → Result Y Why) (y : Y) → (r >>= next) ≡ Ok y → (x : X) × (r ≡ Ok x) × (next x ≡ Ok y)
bind_ok (Ok x) next y e = (x, refl, e)
bind_ok (Err reason) next y e = absurd cc

-- a value that was found, and what stands behind it
pub found_ok : {X Y : Type 0} (reason : Why) (found : Option X) (next : X → Result Y Why) (y : Y) → (or_why reason found >>= next) ≡ Ok y → (x : X) × (found ≡ Some x) × (next x ≡ Ok y)
found_ok reason None next y e = absurd cc
found_ok reason (Some x) next y e = (x, refl, e)

-- which of two ways a value came
pub either : {Y : Type 0} (test : Bool) (x y r : Y) → cond test x y ≡ r → ((test ≡ true) × (x ≡ r)) ⊎ ((test ≡ false) × (y ≡ r))
either true x y r e = inl (refl, e)
either false x y r e = inr (refl, e)

-- words that are the same by the test are the same
pub same_word : (first second : List ℕ) → bytes_eq first second ≡ true → first ≡ second
same_word first second e = (bytes_eq-Decides first second).0 e

-- words that differ, by the test
pub other_word : (first second : List ℕ) → (first ≡ second → ⊥) → bytes_eq first second ≡ false
other_word first second differ = by (bytes_eq first second) (λ e. differ (same_word first second e))
  where
    by : (b : Bool) → (b ≡ true → ⊥) → b ≡ false
    by true no_way = absurd (no_way refl)
    by false no_way = refl

-- a word's first byte is that of no other word
pub other_first : (first second : List ℕ) → (get_or first 0 0 ≡ get_or second 0 0 → ⊥) → bytes_eq first second ≡ false
other_first first second differ = other_word first second (λ e. differ (ap (λ w. get_or w 0 0) e))

-- a number between bounds is read from its decimal text
pub number_again : (low high n : ℕ) → high < 2 ^ 64 → lies low high n ≡ true → number_between low high (decimal n) ≡ Ok n
number_again low high n fits e =
    let p = and_parts (leb low n) (leb n high) e in
    rw (back high n fits (leb-true n high p.1), p.0) refl

-- and from no other
pub number_takes : (low high n : ℕ) (word : List ℕ) → high < 2 ^ 64 → number_between low high word ≡ Ok n → word ≡ decimal n
number_takes low high n word fits e =
    let a = found_ok why.Number (number high word) _ n e in
    let b = then_ok why.Number (leb low a.0) _ n a.2 in
    (only high a.0 word fits a.1).0 ∙ ap decimal (ok_is a.0 n b.1)

digit_byte : (byte : ℕ) → is_digit byte ≡ true → is_word_byte byte ≡ true
digit_byte byte e =
    let p = and_parts (leb 48 byte) (leb byte 57) e in
    both (leb 33 byte) (leb byte 126) (le-leb 33 byte (omega (arith, leb-true 48 byte p.0))) (le-leb byte 126 (omega (arith, leb-true byte 57 p.1)))

-- digits are bytes that a word may have
pub digit_bytes : (bytes : List ℕ) → list_all is_digit bytes ≡ true → list_all is_word_byte bytes ≡ true
digit_bytes [] e = refl
digit_bytes (byte ∷ bytes) e =
    let p = and_parts (is_digit byte) (list_all is_digit bytes) e in
    both (is_word_byte byte) (list_all is_word_byte bytes) (digit_byte byte p.0) (digit_bytes bytes p.1)

-- the bytes of a number's text are bytes that a word may have
pub number_bytes : (n : ℕ) → n < 2 ^ 64 → list_all is_word_byte (decimal n) ≡ true
number_bytes n fits = digit_bytes (decimal n) (digits_decimal own n fits)

some_bytes : (bytes : List ℕ) → 0 < length bytes → not (eqb (length bytes) 0) ≡ true
some_bytes bytes some = ap not (ne_eqb (length bytes) 0 (λ same. omega (arith, some, same)))

-- bytes that a word may have are a word, where there is one
pub make_word : (bytes : List ℕ) → 0 < length bytes → list_all is_word_byte bytes ≡ true → is_word bytes ≡ true
make_word bytes some e = both (not (eqb (length bytes) 0)) (list_all is_word_byte bytes) (some_bytes bytes some) e

-- a number's text is a word
pub number_word : (n : ℕ) → n < 2 ^ 64 → is_word (decimal n) ≡ true
number_word n fits = make_word (decimal n) (decimal_nonempty n fits) (number_bytes n fits)

-- the same of a number between bounds
pub lies_word : (low high n : ℕ) → high < 2 ^ 64 → lies low high n ≡ true → is_word (decimal n) ≡ true
lies_word low high n fits e = number_word n (omega (arith, leb-true n high (and_parts (leb low n) (leb n high) e).1))

-- the first byte of a number's text is a digit
pub first_digit : (n : ℕ) → n < 2 ^ 64 → (48 ≤ get_or (decimal n) 0 0) × (get_or (decimal n) 0 0 ≤ 57)
first_digit n fits = by (decimal n) (decimal_nonempty n fits) (digits_decimal own n fits)
  where
    by : (bytes : List ℕ) → 0 < length bytes → list_all is_digit bytes ≡ true → (48 ≤ get_or bytes 0 0) × (get_or bytes 0 0 ≤ 57)
    by [] some e = absurd (omega arith)
    by (byte ∷ bytes) some e =
        let p = and_parts (is_digit byte) (list_all is_digit bytes) e in
        let q = and_parts (leb 48 byte) (leb byte 57) p.0 in
        (leb-true 48 byte q.0, leb-true byte 57 q.1)

-- a page's number, both ways
pub page_again : (most : ℕ) (page : PageNo) → most < 2 ^ 64 → lies 0 most page.0 ≡ true → page_in most (page_text page) ≡ Ok page
page_again most page fits e = rw (number_again 0 most page.0 fits e) refl

pub page_takes : (most : ℕ) (page : PageNo) (word : List ℕ) → most < 2 ^ 64 → page_in most word ≡ Ok page → word ≡ page_text page
page_takes most page word fits e =
    let a = bind_ok (number_between 0 most word) _ page e in
    number_takes 0 most a.0 word fits a.1 ∙ ap page_text (ok_is _ page a.2)

-- a range, both ways
pub range_again : (range : Span) → range_lies range ≡ true → range_in (decimal range.first) (decimal range.count) ≡ Ok range
range_again range e =
    let p = and_parts (lies 0 all_pages range.first) (lies 1 all_sizes range.count) e in
    rw (number_again 0 all_pages range.first (omega arith) p.0, number_again 1 all_sizes range.count (omega arith) p.1) refl

pub range_takes : (range : Span) (first count : List ℕ) → range_in first count ≡ Ok range → (first ≡ decimal range.first) × (count ≡ decimal range.count)
range_takes range first count e =
    let a = bind_ok (number_between 0 all_pages first) _ range e in
    let b = bind_ok (number_between 1 all_sizes count) _ range a.2 in
    let same = ok_is _ range b.2 in
    (number_takes 0 all_pages a.0 first (omega arith) a.1 ∙ ap (λ (r : Span). decimal r.first) same, number_takes 1 all_sizes b.0 count (omega arith) b.1 ∙ ap (λ (r : Span). decimal r.count) same)

-- one of two fixed words, both ways
pub flag_again : (set unset : List ℕ) (flag : Bool) → bytes_eq set set ≡ true → bytes_eq unset set ≡ false → bytes_eq unset unset ≡ true → flag_in set unset (flag_text set unset flag) ≡ Some flag
flag_again set unset true e f g = rw e refl
flag_again set unset false e f g = rw (f, g) refl

pub flag_takes : (set unset word : List ℕ) (flag : Bool) → flag_in set unset word ≡ Some flag → word ≡ flag_text set unset flag
flag_takes set unset word flag e = ⊎_elim first rest (either (bytes_eq word set) (Some true) (cond (bytes_eq word unset) (Some false) None) (Some flag) e)
  where
    second : (bytes_eq word unset ≡ true) × (Some false ≡ Some flag) → word ≡ flag_text set unset flag
    second p = same_word word unset p.0 ∙ ap (flag_text set unset) (some_is false flag p.1)

    neither : (bytes_eq word unset ≡ false) × (None ≡ Some flag) → word ≡ flag_text set unset flag
    neither p = absurd (none_some flag p.1)

    first : (bytes_eq word set ≡ true) × (Some true ≡ Some flag) → word ≡ flag_text set unset flag
    first p = same_word word set p.0 ∙ ap (flag_text set unset) (some_is true flag p.1)

    rest : (bytes_eq word set ≡ false) × (cond (bytes_eq word unset) (Some false) None ≡ Some flag) → word ≡ flag_text set unset flag
    rest p = ⊎_elim second neither (either (bytes_eq word unset) (Some false) None (Some flag) p.1)

pub flag_word : (set unset : List ℕ) (flag : Bool) → is_word set ≡ true → is_word unset ≡ true → is_word (flag_text set unset flag) ≡ true
flag_word set unset true e f = e
flag_word set unset false e f = f

-- a code, both ways
pub code_again : (code : Code) → code_in (code_text code) ≡ Some code
code_again Io = refl
code_again IoDataIntegrity = refl
code_again BadState = refl
code_again NoSpace = refl
code_again BufferTooSmall = refl

pub code_word : (code : Code) → is_word (code_text code) ≡ true
code_word Io = refl
code_word IoDataIntegrity = refl
code_word BadState = refl
code_word NoSpace = refl
code_word BufferTooSmall = refl

-- one test of a chain that finds something by a word: the word is this one, or the rest of the chain found it
pub chosen : {X : Type 0} (word this : List ℕ) (x : X) (rest : Option X) (y : X) → cond (bytes_eq word this) (Some x) rest ≡ Some y → ((word ≡ this) × (x ≡ y)) ⊎ (rest ≡ Some y)
chosen word this x rest y e = ⊎_elim (λ p. inl (same_word word this p.0, some_is x y p.1)) (λ p. inr p.1) (either (bytes_eq word this) (Some x) rest (Some y) e)

-- a chain over words: each step gives its own, and the last one the rest
pub link : {X : Type 0} (text : X → List ℕ) (word this : List ℕ) (x : X) (rest : Option X) (y : X) → cond (bytes_eq word this) (Some x) rest ≡ Some y → this ≡ text x → (rest ≡ Some y → word ≡ text y) → word ≡ text y
link text word this x rest y e is more = ⊎_elim (λ p. p.0 ∙ is ∙ ap text p.1) more (chosen word this x rest y e)

pub code_takes : (word : List ℕ) (code : Code) → code_in word ≡ Some code → word ≡ code_text code
code_takes word code e =
    link code_text word (codes "io") Io _ code e refl
    (λ e. link code_text word (codes "io-data-integrity") IoDataIntegrity _ code e refl
    (λ e. link code_text word (codes "bad-state") BadState _ code e refl
    (λ e. link code_text word (codes "no-space") NoSpace _ code e refl
    (λ e. link code_text word (codes "buffer-too-small") BufferTooSmall _ code e refl (λ e. absurd (none_some code e))))))
