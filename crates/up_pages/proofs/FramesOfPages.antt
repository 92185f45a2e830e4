-- What is true of the frame of each page is true of the frames that come back.
use Rattle.std.proofs.Common.{◌≡◌, ℕ, zero, suc, ◌+◌, ◌==◌, ◌<◌, ◌≤◌, inl, inr, Option, Some, None, List, [], ◌∷◌, ◌++◌, length, cond, true, false, refl, ap, subst, arith}
use Rattle.std.specs.Prelude.{option_to_list, is_some, Contains}
use Rattle.std.proofs.lemmas.Bool.Decides.{nat_tests}
use Rattle.std.proofs.lemmas.List.{length-append}
use Rattle.std.proofs.lemmas.List.Elements.{Contains-append_cases, Contains-append_left, Contains-append_right}
use Rattle.up_span.specs.Pages.{count_pages}
use Rattle.up_bank.specs.Standing.{Held as Frame}
use Rattle.up_pages.specs.Frames.{Each}
use Rattle.up_pages.specs.Pages.{frame_of, frames_down}
use Rattle.up_pages.specs.declared.page.Page.{Page}
use Rattle.up_pages.proofs.HeldCounts.{count_last}

pub each_join : (P : Frame → Type 0) (a b : List Frame) → Each P a → Each P b → Each P (a ++ b)
each_join P [] b e f = f
each_join P (x ∷ a) b e f = (e.0, each_join P a b e.1 f)

pub each_front : (P : Frame → Type 0) (a b : List Frame) → Each P (a ++ b) → Each P a
each_front P [] b e = tt
each_front P (x ∷ a) b e = (e.0, each_front P a b e.1)

pub each_last : (P : Frame → Type 0) (a : List Frame) (x : Frame) → Each P (a ++ x ∷ []) → P x
each_last P [] x e = e.0
each_last P (y ∷ a) x e = each_last P a x e.1

each_some : (P : Frame → Type 0) (o : Option Frame) → ((frame : Frame) → o ≡ Some frame → P frame) → Each P (option_to_list o)
each_some P None h = tt
each_some P (Some frame) h = (h frame refl, tt)

-- the frames of a range of pages
pub each_down : (P : Frame → Type 0) (page : ℕ → Page) (first n : ℕ) → ((p : ℕ) (frame : Frame) → frame_of (page p) ≡ Some frame → P frame) → Each P (frames_down page first n)
each_down P page first zero h = tt
each_down P page first (suc n) h = each_join P (option_to_list (frame_of (page (first + n)))) (frames_down page first n)
    (each_some P (frame_of (page (first + n))) (h (first + n))) (each_down P page first n h)

some_contains : (o : Option Frame) (frame : Frame) → Contains (option_to_list o) frame → o ≡ Some frame
some_contains None frame (k, below, is) = absurd (omega arith)
some_contains (Some x) frame (zero, below, is) = ap Some is
some_contains (Some x) frame (suc k, below, is) = absurd (omega arith)

contains_some : (o : Option Frame) (frame : Frame) → o ≡ Some frame → Contains (option_to_list o) frame
contains_some None frame is = absurd cc
contains_some (Some x) frame is = let same : x ≡ frame = cc in (0, omega arith, same)

-- a page of the range that is held by this frame
abbrev pub Stood : (ℕ → Page) → ℕ → ℕ → Frame → Type 0
Stood page first n frame = (p : ℕ) × (first ≤ p) × (p < first + n) × (frame_of (page p) ≡ Some frame)

pub stood : (page : ℕ → Page) (first n : ℕ) (frame : Frame) → Contains (frames_down page first n) frame → Stood page first n frame
stood page first zero frame (k, below, is) = absurd (omega arith)
stood page first (suc n) frame has =
    elim (Contains-append_cases (option_to_list (frame_of (page (first + n)))) (frames_down page first n) frame has) [
      | inl last ↦ (first + n, omega arith, omega arith, some_contains (frame_of (page (first + n))) frame last)
      | inr before ↦ let rest : Stood page first n frame = stood page first n frame before in (rest.0, rest.1, omega (arith, rest.2), rest.3)
    ]

pub comes_back : (page : ℕ → Page) (first n : ℕ) (p : ℕ) (frame : Frame) → first ≤ p → p < first + n → frame_of (page p) ≡ Some frame → Contains (frames_down page first n) frame
comes_back page first zero p frame above below is = absurd (omega arith)
comes_back page first (suc n) p frame above below is =
    elim (first + n == p) as (λ b. (first + n == p) ≡ b → Contains (frames_down page first (suc n)) frame) [
      | true ↦ λ e.
          let same : p ≡ first + n = grind (arith, nat_tests) in
          Contains-append_left (option_to_list (frame_of (page (first + n)))) (frames_down page first n) frame (contains_some (frame_of (page (first + n))) frame (subst (λ q. frame_of (page q) ≡ Some frame) same is))
      | false ↦ λ e.
          let lower : p < first + n = grind (arith, nat_tests) in
          Contains-append_right (option_to_list (frame_of (page (first + n)))) (frames_down page first n) frame (comes_back page first n p frame above lower is)
    ] refl

one_of : (o : Option Frame) → length (option_to_list o) ≡ cond (is_some o) 1 0
one_of None = refl
one_of (Some frame) = refl

pub as_many : (page : ℕ → Page) (first n : ℕ) → length (frames_down page first n) ≡ count_pages (λ p. is_some (frame_of (page p))) first n
as_many page first zero = refl
as_many page first (suc n) =
    let both : length (frames_down page first (suc n)) ≡ length (option_to_list (frame_of (page (first + n)))) + length (frames_down page first n) = length-append (option_to_list (frame_of (page (first + n)))) (frames_down page first n) in
    let one : length (option_to_list (frame_of (page (first + n)))) ≡ cond (is_some (frame_of (page (first + n)))) 1 0 = one_of (frame_of (page (first + n))) in
    let last : count_pages (λ p. is_some (frame_of (page p))) first (suc n) ≡ count_pages (λ p. is_some (frame_of (page p))) first n + cond (is_some (frame_of (page (first + n)))) 1 0 = count_last (λ p. is_some (frame_of (page p))) first n in
    let rest : length (frames_down page first n) ≡ count_pages (λ p. is_some (frame_of (page p))) first n = as_many page first n in
    omega (arith, both, one, last, rest)
