-- The runs of a range are ranges, no more than its pages, and each makes a packet.
use Rattle.std.proofs.Common.{◌≡◌, ℕ, ◌+◌, ◌^◌, ◌<◌, ◌≤◌, ◌++◌, Bool, true, false, cond, Some, List, [], ◌∷◌, take, length, slice_get, zero, suc, sym, ap, ◌∙◌, arith}
use Rattle.std.proofs.lemmas.List.{map_push, take_more, length-append}
use Rattle.std.proofs.lemmas.Option.{slice_get_within, get_or_from_slice_get, none-some, same_Some}
use Rattle.std.proofs.Common.{subst}
use Rattle.up_num.specs.Asks.{packet_of}
use Rattle.up_num.specs.declared.answers.AskKind.{AskKind}
use Rattle.up_span.specs.Runs.{closed, runs}
use Rattle.up_span.specs.declared.run.Run.{Run}
use Rattle.up_asks.specs.Asking.{packets_for}
use Rattle.up_asks.specs.Keeps.{AreRanges}

ranges_append : (xs ys : List Run) → AreRanges xs → AreRanges ys → AreRanges (xs ++ ys)
ranges_append [] ys a b = b
ranges_append (x ∷ xs) ys a b = (a.0, (a.1.0, ranges_append xs ys a.1.1 b))

closed_range : (p c : ℕ) → c ≤ p → p < 2 ^ 32 → AreRanges (closed p c)
closed_range p zero h g = tt
closed_range p (suc c) h g = (omega arith, (omega arith, tt))

ranges_by : (test : ℕ → Bool) (p c n : ℕ) → c ≤ p → p + n < 2 ^ 32 → AreRanges (runs test p c n)
ranges_by test p c zero h g = closed_range p c h (omega arith)
ranges_by test p c (suc n) h g = elim (test p) as (λ b. AreRanges (cond b (runs test (p + 1) (c + 1) n) (closed p c ++ runs test (p + 1) 0 n))) [
  | true ↦ ranges_by test (p + 1) (c + 1) n (omega arith) (omega arith)
  | false ↦ ranges_append (closed p c) (runs test (p + 1) 0 n) (closed_range p c h (omega arith)) (ranges_by test (p + 1) 0 n (omega arith) (omega arith))
]

pub runs_are_ranges : (test : ℕ → Bool) (first count : ℕ) (parts : List Run) → first + count < 2 ^ 32 → parts ≡ runs test first 0 count → AreRanges parts
runs_are_ranges test first count parts h is = subst (λ rs. AreRanges rs) (sym is) (ranges_by test first 0 count (omega arith) h)

closed_few : (p c : ℕ) → length (closed p c) ≤ c
closed_few p zero = omega arith
closed_few p (suc c) = omega arith

few_by : (test : ℕ → Bool) (p c n : ℕ) → length (runs test p c n) ≤ c + n
few_by test p c zero = let h : length (closed p c) ≤ c = closed_few p c in omega arith
few_by test p c (suc n) = elim (test p) as (λ b. length (cond b (runs test (p + 1) (c + 1) n) (closed p c ++ runs test (p + 1) 0 n)) ≤ c + suc n) [
  | true ↦ let h : length (runs test (p + 1) (c + 1) n) ≤ c + 1 + n = few_by test (p + 1) (c + 1) n in omega arith
  | false ↦ let h : length (closed p c) ≤ c = closed_few p c in
      let g : length (runs test (p + 1) 0 n) ≤ 0 + n = few_by test (p + 1) 0 n in
      let both : length (closed p c ++ runs test (p + 1) 0 n) ≡ length (closed p c) + length (runs test (p + 1) 0 n) = length-append (closed p c) (runs test (p + 1) 0 n) in
      omega arith
]

pub runs_are_few : (test : ℕ → Bool) (first count : ℕ) (parts : List Run) → parts ≡ runs test first 0 count → length parts ≤ count
runs_are_few test first count parts is =
    let few : length (runs test first 0 count) ≤ 0 + count = few_by test first 0 count in
    subst (λ rs. length rs ≤ count) (sym is) (omega arith)

pub range_at : (parts : List Run) (i : ℕ) (run : Run) → AreRanges parts → slice_get parts i ≡ Some run → (0 < run.count) × (run.first + run.count < 2 ^ 32)
range_at [] i run all is = absurd (none-some run is)
range_at (r ∷ rs) zero run all is = subst (λ (x : Run). (0 < x.count) × (x.first + x.count < 2 ^ 32)) (same_Some r run is) (all.0, all.1.0)
range_at (r ∷ rs) (suc i) run all is = range_at rs i run all.1.1 is

pub packets_more : (kind : AskKind) (parts : List Run) (i : ℕ) (run : Run) → slice_get parts i ≡ Some run →
    packets_for kind (take (i + 1) parts) ≡ packets_for kind (take i parts) ++ packet_of kind run.first run.count ∷ []
packets_more kind parts i run is =
    ap (λ rs. packets_for kind rs) (take_more parts i run (slice_get_within parts i run is)
    ∙ ap (λ (r : Run). take i parts ++ r ∷ []) (get_or_from_slice_get parts i run run is))
    ∙ map_push (λ (r : Run). packet_of kind r.first r.count) (take i parts) run
