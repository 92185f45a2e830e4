-- How many pages are held by frames of a kind, after a page was changed or pages were taken off.
use Rattle.std.proofs.Common.{◌≡◌, ℕ, zero, suc, ◌+◌, ◌-◌, ◌<◌, ◌≤◌, Bool, true, false, cond, Option, Some, None, List, [], ◌∷◌, length, get_or, set, take, refl, sym, ◌∙◌, ap, arith, option_to_list, sum_by}
use Rattle.std.proofs.lemmas.List.{length-append, length-take-le, get_or-take, get_or_default}
use Rattle.std.proofs.lemmas.List.Sums.{sum_by-cons, sum_by-append, sum_by-set}
use Rattle.up_span.specs.Pages.{count_pages}
use Rattle.up_bank.specs.Standing.{Held as Frame}
use Rattle.up_bank.specs.declared.kind.FrameKind.{FrameKind}
use Rattle.up_bank.specs.declared.kind.FrameKind.TheVariants.{Ordinary, Loaned}
use Rattle.up_pages.specs.Frames.{same_kind, count_kind}
use Rattle.up_pages.specs.Pages.{frame_of, frames_down, is_held_by}
use Rattle.up_pages.proofs.Places.{absent_past}
use Rattle.up_pages.specs.declared.page.Page.{Page}
use Rattle.up_pages.specs.declared.page.Page.TheVariants.{Absent, Zero, Held}

abbrev pub one_where : Bool → ℕ
one_where test = cond test 1 0

more_where : (test : Bool) (n : ℕ) → cond test (suc n) n ≡ one_where test + n
more_where true n = omega arith
more_where false n = omega arith

count_shift : (test : ℕ → Bool) (p n : ℕ) → count_pages test (suc p) n ≡ count_pages (λ q. test (suc q)) p n
count_shift test p zero = refl
count_shift test p (suc n) =
    let e : suc p + 1 ≡ suc (p + 1) = omega arith in
    ap (λ k. cond (test (suc p)) (suc k) k) (ap (λ r. count_pages test r n) e ∙ count_shift test (p + 1) n)

-- the count over a list of pages as a sum
pub count_is : (test : Page → Bool) (xs : List Page) → count_pages (λ p. test (get_or xs p Absent)) 0 (length xs) ≡ sum_by (λ x. one_where (test x)) xs
count_is test [] = refl
count_is test (x ∷ xs) =
    ap (λ k. cond (test x) (suc k) k) (count_shift (λ p. test (get_or (x ∷ xs) p Absent)) 0 (length xs) ∙ count_is test xs)
    ∙ (more_where (test x) (sum_by (λ y. one_where (test y)) xs) ∙ sym (sum_by-cons (λ y. one_where (test y)) x xs))

pub kind_of_one : (kind : FrameKind) (page : Page) → count_kind kind (option_to_list (frame_of page)) ≡ one_where (is_held_by kind page)
kind_of_one kind Absent = refl
kind_of_one kind (Zero state) = refl
kind_of_one kind (Held frame state) = elim (same_kind kind frame.bank.kind) as (λ b. 0 + one_where b ≡ one_where b) [ true ↦ refl | false ↦ refl ]

-- after one page was exchanged
pub kinds_set : (kind : FrameKind) (xs ys : List Page) (i : ℕ) (y : Page) (back : Option Frame) → i < length xs → ys ≡ set xs i y → back ≡ frame_of (get_or xs i Absent)
    → count_pages (λ p. is_held_by kind (get_or ys p Absent)) 0 (length ys) + count_kind kind (option_to_list back)
    ≡ count_pages (λ p. is_held_by kind (get_or xs p Absent)) 0 (length xs) + count_kind kind (option_to_list (frame_of y))
kinds_set kind xs ys i y back within is given =
    let now : count_pages (λ p. is_held_by kind (get_or ys p Absent)) 0 (length ys) ≡ sum_by (λ x. one_where (is_held_by kind x)) (set xs i y)
    = count_is (is_held_by kind) ys ∙ ap (sum_by (λ x. one_where (is_held_by kind x))) is in
    let before : count_pages (λ p. is_held_by kind (get_or xs p Absent)) 0 (length xs) ≡ sum_by (λ x. one_where (is_held_by kind x)) xs = count_is (is_held_by kind) xs in
    let out : count_kind kind (option_to_list back) ≡ one_where (is_held_by kind (get_or xs i Absent)) = ap (λ b. count_kind kind (option_to_list b)) given ∙ kind_of_one kind (get_or xs i Absent) in
    let put : count_kind kind (option_to_list (frame_of y)) ≡ one_where (is_held_by kind y) = kind_of_one kind y in
    let sums : sum_by (λ x. one_where (is_held_by kind x)) (set xs i y) + one_where (is_held_by kind (get_or xs i Absent)) ≡ sum_by (λ x. one_where (is_held_by kind x)) xs + one_where (is_held_by kind y)
    = sum_by-set (λ x. one_where (is_held_by kind x)) xs i y Absent within in
    rw (now, out, before, put) sums

-- one page more at the end of a range
pub count_last : (test : ℕ → Bool) (p n : ℕ) → count_pages test p (suc n) ≡ count_pages test p n + one_where (test (p + n))
count_last test p zero =
    let e : p + 0 ≡ p = omega arith in
    more_where (test p) 0 ∙ (ap (λ q. one_where (test q) + 0) (sym e) ∙ (omega arith))
count_last test p (suc n) =
    let e : p + 1 + n ≡ p + suc n = omega arith in
    let rest : count_pages test (p + 1) (suc n) ≡ count_pages test (p + 1) n + one_where (test (p + suc n)) = count_last test (p + 1) n ∙ ap (λ q. count_pages test (p + 1) n + one_where (test q)) e in
    let here : count_pages test p (suc n) ≡ one_where (test p) + count_pages test (p + 1) n = more_where (test p) (count_pages test (p + 1) n) in
    let all : count_pages test p (suc (suc n)) ≡ one_where (test p) + count_pages test (p + 1) (suc n) = more_where (test p) (count_pages test (p + 1) (suc n)) in
    all ∙ (ap (λ k. one_where (test p) + k) rest ∙ (omega (arith, here)))

-- the frames of pages at the end, and those before them
pub down_counts : (kind : FrameKind) (page : ℕ → Page) (first n : ℕ)
    → count_pages (λ p. is_held_by kind (page p)) 0 first + count_kind kind (frames_down page first n) ≡ count_pages (λ p. is_held_by kind (page p)) 0 (first + n)
down_counts kind page first zero = let e : first + 0 ≡ first = omega arith in rw e (omega arith)
down_counts kind page first (suc n) =
    let e : first + suc n ≡ suc (first + n) = omega arith in
    let zero_more : 0 + (first + n) ≡ first + n = omega arith in
    let last : count_pages (λ p. is_held_by kind (page p)) 0 (suc (first + n)) ≡ count_pages (λ p. is_held_by kind (page p)) 0 (first + n) + one_where (is_held_by kind (page (first + n)))
    = count_last (λ p. is_held_by kind (page p)) 0 (first + n) ∙ ap (λ q. count_pages (λ p. is_held_by kind (page p)) 0 (first + n) + one_where (is_held_by kind (page q))) zero_more in
    let parts : count_kind kind (frames_down page first (suc n)) ≡ one_where (is_held_by kind (page (first + n))) + count_kind kind (frames_down page first n)
    = sum_by-append (λ (frame : Frame). cond (same_kind kind frame.bank.kind) 1 0) (option_to_list (frame_of (page (first + n)))) (frames_down page first n)
    ∙ ap (λ k. k + count_kind kind (frames_down page first n)) (kind_of_one kind (page (first + n))) in
    let before : count_pages (λ p. is_held_by kind (page p)) 0 first + count_kind kind (frames_down page first n) ≡ count_pages (λ p. is_held_by kind (page p)) 0 (first + n) = down_counts kind page first n in
    rw (e, last, parts) (omega (arith, before))

-- pages that are the same below a number are counted the same
pub count_below : (test other : ℕ → Bool) (p n : ℕ) → ((q : ℕ) → q < p + n → test q ≡ other q) → count_pages test p n ≡ count_pages other p n
count_below test other p zero same = refl
count_below test other p (suc n) same =
    let rest : count_pages test (p + 1) n ≡ count_pages other (p + 1) n = count_below test other (p + 1) n (λ q below. same q (omega arith)) in
    ap (λ b. cond b (suc (count_pages test (p + 1) n)) (count_pages test (p + 1) n)) (same p (omega arith)) ∙ ap (λ k. cond (other p) (suc k) k) rest

one_at_most : (o : Option Frame) → length (option_to_list o) ≤ 1
one_at_most None = omega arith
one_at_most (Some frame) = omega arith

pub down_few : (page : ℕ → Page) (first n : ℕ) → length (frames_down page first n) ≤ n
down_few page first zero = omega arith
down_few page first (suc n) =
    let both : length (frames_down page first (suc n)) ≡ length (option_to_list (frame_of (page (first + n)))) + length (frames_down page first n) = length-append (option_to_list (frame_of (page (first + n)))) (frames_down page first n) in
    let one : length (option_to_list (frame_of (page (first + n)))) ≤ 1 = one_at_most (frame_of (page (first + n))) in
    let rest : length (frames_down page first n) ≤ n = down_few page first n in
    omega arith

pub down_none : (page : ℕ → Page) (first n : ℕ) → ((p : ℕ) → first ≤ p → frame_of (page p) ≡ None) → frames_down page first n ≡ []
down_none page first zero none = refl
down_none page first (suc n) none = rw (none (first + n) (omega arith)) (down_none page first n none)

kind_once : (kind : FrameKind) → cond (same_kind Ordinary kind) 1 0 + cond (same_kind Loaned kind) 1 0 ≡ 1
kind_once Ordinary = refl
kind_once Loaned = refl

pub of_one_kind : (frames : List Frame) → count_kind Ordinary frames + count_kind Loaned frames ≡ length frames
of_one_kind [] = refl
of_one_kind (frame ∷ rest) =
    let ordinary : count_kind Ordinary (frame ∷ rest) ≡ cond (same_kind Ordinary frame.bank.kind) 1 0 + count_kind Ordinary rest = sum_by-cons (λ (f : Frame). cond (same_kind Ordinary f.bank.kind) 1 0) frame rest in
    let loaned : count_kind Loaned (frame ∷ rest) ≡ cond (same_kind Loaned frame.bank.kind) 1 0 + count_kind Loaned rest = sum_by-cons (λ (f : Frame). cond (same_kind Loaned f.bank.kind) 1 0) frame rest in
    let once : cond (same_kind Ordinary frame.bank.kind) 1 0 + cond (same_kind Loaned frame.bank.kind) 1 0 ≡ 1 = kind_once frame.bank.kind in
    let others : count_kind Ordinary rest + count_kind Loaned rest ≡ length rest = of_one_kind rest in
    rw (ordinary, loaned) (omega (arith, once, others))

-- absent pages at the end change no count
pub grown_kinds : (kind : FrameKind) (xs ys : List Page) → length xs ≤ length ys → ((p : ℕ) → get_or ys p Absent ≡ get_or xs p Absent)
    → count_pages (λ p. is_held_by kind (get_or ys p Absent)) 0 (length ys) ≡ count_pages (λ p. is_held_by kind (get_or xs p Absent)) 0 (length xs)
grown_kinds kind xs ys longer same =
    let whole : length xs + (length ys - length xs) ≡ length ys = omega arith in
    let none : frames_down (λ p. get_or xs p Absent) (length xs) (length ys - length xs) ≡ [] = down_none (λ p. get_or xs p Absent) (length xs) (length ys - length xs) (λ p past. ap frame_of (absent_past xs p past)) in
    count_below (λ p. is_held_by kind (get_or ys p Absent)) (λ p. is_held_by kind (get_or xs p Absent)) 0 (length ys) (λ q below. ap (is_held_by kind) (same q))
    ∙ (ap (count_pages (λ p. is_held_by kind (get_or xs p Absent)) 0) (sym whole)
    ∙ (sym (down_counts kind (λ p. get_or xs p Absent) (length xs) (length ys - length xs))
    ∙ (ap (λ l. count_pages (λ p. is_held_by kind (get_or xs p Absent)) 0 (length xs) + count_kind kind l) none ∙ omega arith)))

-- pages that are cut off, and those that stay
pub cut_kinds : (kind : FrameKind) (xs ys : List Page) (first : ℕ) → first ≤ length xs → ys ≡ take first xs
    → count_pages (λ p. is_held_by kind (get_or ys p Absent)) 0 (length ys) + count_kind kind (frames_down (λ p. get_or xs p Absent) first (length xs - first))
    ≡ count_pages (λ p. is_held_by kind (get_or xs p Absent)) 0 (length xs)
cut_kinds kind xs ys first within is =
    let long : length ys ≡ first = ap length is ∙ length-take-le first xs within in
    let whole : first + (length xs - first) ≡ length xs = omega arith in
    let zero_more : (q : ℕ) → q < 0 + first → q < first = λ q below. omega arith in
    let kept : count_pages (λ p. is_held_by kind (get_or ys p Absent)) 0 first ≡ count_pages (λ p. is_held_by kind (get_or xs p Absent)) 0 first
    = count_below (λ p. is_held_by kind (get_or ys p Absent)) (λ p. is_held_by kind (get_or xs p Absent)) 0 first
    (λ q below. ap (is_held_by kind) (ap (λ l. get_or l q Absent) is ∙ get_or-take first xs q Absent (zero_more q below))) in
    ap (λ n. count_pages (λ p. is_held_by kind (get_or ys p Absent)) 0 n + count_kind kind (frames_down (λ p. get_or xs p Absent) first (length xs - first))) long
    ∙ (ap (λ k. k + count_kind kind (frames_down (λ p. get_or xs p Absent) first (length xs - first))) kept
    ∙ (down_counts kind (λ p. get_or xs p Absent) first (length xs - first) ∙ ap (count_pages (λ p. is_held_by kind (get_or xs p Absent)) 0) whole))

-- all frames of a list
pub all_kinds : (kind : FrameKind) (xs : List Page) → count_kind kind (frames_down (λ p. get_or xs p Absent) 0 (length xs)) ≡ count_pages (λ p. is_held_by kind (get_or xs p Absent)) 0 (length xs)
all_kinds kind xs =
    let whole : 0 + length xs ≡ length xs = omega arith in
    let sums : count_pages (λ p. is_held_by kind (get_or xs p Absent)) 0 0 + count_kind kind (frames_down (λ p. get_or xs p Absent) 0 (length xs)) ≡ count_pages (λ p. is_held_by kind (get_or xs p Absent)) 0 (0 + length xs)
    = down_counts kind (λ p. get_or xs p Absent) 0 (length xs) in
    omega (arith, sums, ap (count_pages (λ p. is_held_by kind (get_or xs p Absent)) 0) whole)

-- one frame more where the next page is held
pub down_more : (page : ℕ → Page) (first n : ℕ) → length (frames_down page first (n + 1)) ≡ length (frames_down page first n) + length (option_to_list (frame_of (page (first + n))))
down_more page first n =
    let one : n + 1 ≡ suc n = omega arith in
    ap (λ m. length (frames_down page first m)) one ∙ (length-append (option_to_list (frame_of (page (first + n)))) (frames_down page first n) ∙ omega arith)

pub held_next : (xs : List Page) (first place held one : ℕ) (x : Page) → first ≤ place → place < length xs → x ≡ get_or xs place x → one ≡ length (option_to_list (frame_of x))
    → held ≡ length (frames_down (λ p. get_or xs p Absent) first (place - first))
    → (held + one ≡ length (frames_down (λ p. get_or xs p Absent) first (place + 1 - first))) × (held + one ≤ length xs)
held_next xs first place held one x from within is one_is held_is =
    let at : first + (place - first) ≡ place = omega arith in
    let next : place + 1 - first ≡ place - first + 1 = omega arith in
    let here : length (option_to_list (frame_of (get_or xs (first + (place - first)) Absent))) ≡ one
    = ap (λ p. length (option_to_list (frame_of (get_or xs p Absent)))) at
    ∙ (ap (λ y. length (option_to_list (frame_of y))) (sym (is ∙ get_or_default xs place x Absent within)) ∙ sym one_is) in
    let more : length (frames_down (λ p. get_or xs p Absent) first (place - first + 1)) ≡ length (frames_down (λ p. get_or xs p Absent) first (place - first)) + length (option_to_list (frame_of (get_or xs (first + (place - first)) Absent)))
    = down_more (λ p. get_or xs p Absent) first (place - first) in
    let few : length (frames_down (λ p. get_or xs p Absent) first (place - first + 1)) ≤ place - first + 1 = down_few (λ p. get_or xs p Absent) first (place - first + 1) in
    (rw next (omega (arith, more, here, held_is)), omega (arith, more, here, held_is, few))
