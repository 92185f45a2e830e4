-- What the pages that are kept say of the pages of the journal: which are unclean, in which runs, and the bytes of one.
use Rattle.std.proofs.Common.{◌≡◌, ℕ, ◌+◌, ◌*◌, ◌<◌, ◌≤◌, ◌&&◌, not, Bool, true, false, cond, Option, Some, None, List, ◌∷◌, length, map, take, drop, replicate, zero, suc, get_or, refl, ap, sym, ◌∙◌, ◌%◌, arith, nat_lt}
use Rattle.std.proofs.lemmas.Bool.{and_parts}
use Rattle.std.proofs.lemmas.Bool.Decides.{nat_tests}
use Rattle.std.proofs.Math.Seq.{drop-cons}
use Rattle.up_num.specs.Span.{Span}
use Rattle.up_num.specs.declared.answers.PageState.TheVariants.{Clean, Dirty, AwaitingClean}
use Rattle.up_span.specs.Pages.{count_pages}
use Rattle.up_span.specs.Runs.{kind_runs}
use Rattle.up_pages.specs.declared.page.Page.{Page}
use Rattle.up_pages.specs.declared.page.Page.TheVariants.{Absent, Zero, Held as HeldPage}
use Rattle.up_pages.specs.Pages.{PageMap, page_at, look_of as look_at, bytes_in, unclean_kind as kept_kind, unclean_runs as kept_runs}
use Rattle.up_pages.proofs.HeldCounts.{count_last}
use Rattle.up_model.specs.Value.{value, there, marked, begun, settled, byte_or_zero, bytes_from}
use Rattle.up_model.specs.States.{unclean}
use Rattle.up_model.specs.Pins.{loaned}
use Rattle.up_model.specs.Looks.{PageLook, Missing, Zeros, Framed, look_by, look_of, is_unclean, is_unclean_state, is_present}
use Rattle.up_model.specs.Reply.{unclean_kind, unclean_runs, dirty_run, within_page}
use Rattle.up_model.specs.declared.entry.Birth.{Birth}
use Rattle.up_model.specs.declared.entry.Entry.{Entry}
use Rattle.up_object.specs.Parts.{shown, content}

-- Unclean pages.

unclean_by : (here mark rest run loan : Bool) → is_unclean (look_by here mark rest run loan) ≡ (here && not rest)
unclean_by false mark rest run loan = refl
unclean_by true true true run loan = refl
unclean_by true false true run loan = refl
unclean_by true true false true loan = refl
unclean_by true true false false loan = refl
unclean_by true false false true loan = refl
unclean_by true false false false loan = refl

pub unclean_is : (birth : Birth) (h : List Entry) (p : ℕ) → is_unclean (look_of birth h p) ≡ unclean birth h p
unclean_is birth h p = unclean_by (there birth h p) (marked birth h p) (settled birth h p) (begun birth h p) (loaned birth h p)

-- the unclean pages that are kept are those of the journal
pub unclean_counted : (pages : PageMap) (birth : Birth) (h : List Entry) (n : ℕ) → ((p : ℕ) → look_of birth h p ≡ shown (look_at (page_at pages p))) →
    count_pages (λ p. is_unclean (shown (look_at (page_at pages p)))) 0 n ≡ count_pages (unclean birth h) 0 n
unclean_counted pages birth h n looks = λ i. count_pages (λ p. (ap is_unclean (sym (looks p)) ∙ unclean_is birth h p) i) 0 n

-- one page further
pub counts_more : (test : ℕ → Bool) (n count more : ℕ) → count ≡ count_pages test 0 n → more ≡ cond (test n) 1 0 → count + more ≡ count_pages test 0 (n + 1)
counts_more test n count more was is =
    let one : n + 1 ≡ suc n = omega arith in
    let first : 0 + n ≡ n = omega arith in
    let last : count_pages test 0 (suc n) ≡ count_pages test 0 n + cond (test n) 1 0 = count_last test 0 n ∙ ap (λ m. count_pages test 0 n + cond (test m) 1 0) first in
    rw one (omega (arith, last, was, is))

-- Runs of unclean pages.

-- which kind of unclean page a look is
abbrev kind_in : PageLook → Option Bool
kind_in Missing = None
kind_in (Zeros state) = cond (is_unclean_state state) (Some true) None
kind_in (Framed state loan) = cond (is_unclean_state state) (Some false) None

kind_kept : (page : Page) → kept_kind page ≡ kind_in (shown (look_at page))
kind_kept Absent = refl
kind_kept (Zero Clean) = refl
kind_kept (Zero Dirty) = refl
kind_kept (Zero AwaitingClean) = refl
kind_kept (HeldPage frame Clean) = refl
kind_kept (HeldPage frame Dirty) = refl
kind_kept (HeldPage frame AwaitingClean) = refl

kind_by : (here mark rest run loan : Bool) → kind_in (look_by here mark rest run loan) ≡ cond (here && not rest) (Some (here && mark)) None
kind_by false mark rest run loan = refl
kind_by true true true run loan = refl
kind_by true false true run loan = refl
kind_by true true false true loan = refl
kind_by true true false false loan = refl
kind_by true false false true loan = refl
kind_by true false false false loan = refl

kind_is : (birth : Birth) (h : List Entry) (p : ℕ) → kind_in (look_of birth h p) ≡ unclean_kind birth h p
kind_is birth h p = kind_by (there birth h p) (marked birth h p) (settled birth h p) (begun birth h p) (loaned birth h p)

pub runs_are : (pages : PageMap) (birth : Birth) (h : List Entry) (range : Span) → ((p : ℕ) → look_of birth h p ≡ shown (look_at (page_at pages p))) →
    kept_runs pages range ≡ unclean_runs birth h range
runs_are pages birth h range looks =
    λ i. map dirty_run (kind_runs (λ p. (kind_kept (page_at pages p) ∙ ap kind_in (sym (looks p)) ∙ kind_is birth h p) i) range.first None 0 range.count)

-- The bytes of a piece of a page.

present_by : (here mark rest run loan : Bool) → is_present (look_by here mark rest run loan) ≡ here
present_by false mark rest run loan = refl
present_by true true rest run loan = refl
present_by true false rest run loan = refl

pub present_is : (birth : Birth) (h : List Entry) (p : ℕ) → is_present (look_of birth h p) ≡ there birth h p
present_is birth h p = present_by (there birth h p) (marked birth h p) (settled birth h p) (begun birth h p) (loaned birth h p)

pub content_of : (page : Page) (bytes : List ℕ) (i : ℕ) → Some bytes ≡ bytes_in page → content page i ≡ Some (get_or bytes i 0)
content_of Absent bytes i is = absurd cc
content_of (Zero state) bytes i is = absurd cc
content_of (HeldPage frame state) bytes i is = let same : frame.bytes ≡ bytes = cc in ap (λ (xs : List ℕ). Some (get_or xs i 0)) same

abbrev pub Reads : Birth → List Entry → ℕ → List ℕ → Type 0
Reads birth h p bytes = (i : ℕ) → i < 4096 → value birth h (4096 * p + i) ≡ Some (get_or bytes i 0)

pub bytes_read : (birth : Birth) (h : List Entry) (p : ℕ) (bytes : List ℕ) → length bytes ≡ 4096 → Reads birth h p bytes → (n at : ℕ) → at + n ≤ 4096 →
    take n (drop at bytes) ≡ bytes_from birth h (4096 * p + at) n
bytes_read birth h p bytes whole reads zero at within = refl
bytes_read birth h p bytes whole reads (suc n) at within =
    let step : 4096 * p + suc at ≡ 4096 * p + at + 1 = omega arith in
    let here : byte_or_zero (value birth h (4096 * p + at)) ≡ get_or bytes at 0 = ap byte_or_zero (reads at (omega arith)) in
    ap (take (suc n)) (drop-cons bytes at 0 (omega arith))
    ∙ ap (λ (xs : List ℕ). get_or bytes at 0 ∷ xs) (bytes_read birth h p bytes whole reads n (suc at) (omega arith) ∙ ap (λ x. bytes_from birth h x n) step)
    ∙ ap (λ (b : ℕ). b ∷ bytes_from birth h (4096 * p + at + 1) n) (sym here)

pub zeros_read : (birth : Birth) (h : List Entry) (p : ℕ) → ((i : ℕ) → i < 4096 → value birth h (4096 * p + i) ≡ Some 0) → (n at : ℕ) → at + n ≤ 4096 →
    replicate n 0 ≡ bytes_from birth h (4096 * p + at) n
zeros_read birth h p reads zero at within = refl
zeros_read birth h p reads (suc n) at within =
    let step : 4096 * p + suc at ≡ 4096 * p + at + 1 = omega arith in
    let here : byte_or_zero (value birth h (4096 * p + at)) ≡ 0 = ap byte_or_zero (reads at (omega arith)) in
    ap (λ (xs : List ℕ). 0 ∷ xs) (zeros_read birth h p reads n (suc at) (omega arith) ∙ ap (λ x. bytes_from birth h x n) step)
    ∙ ap (λ (b : ℕ). b ∷ bytes_from birth h (4096 * p + at + 1) n) (sym here)

pub piece_fits : (off len : ℕ) → within_page off len ≡ true → off % 4096 + len ≤ 4096
piece_fits off len is = let fits = (and_parts (nat_lt 0 len) _ is).1 in grind (arith, nat_tests)
