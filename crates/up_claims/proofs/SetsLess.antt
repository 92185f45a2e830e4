-- A set of pages, less the pages of a range, is the list of its runs.
use Rattle.std.proofs.Common.{◌≡◌, ℕ, ◌&&◌, not, Bool, true, false, List, refl, sym, ap, ◌∙◌, ⊎_elim, arith}
use Rattle.std.proofs.lemmas.Bool.{cases_lt}
use Rattle.std.proofs.lemmas.Bool.Decides.{nat_tests}
use Rattle.up_num.specs.Span.{Span, covers}
use Rattle.up_span.specs.Pages.{within}
use Rattle.up_span.specs.Sets.{holds, Apart, end_of}
use Rattle.up_span.specs.declared.run.Run.{Run}
use Rattle.up_span.proofs.Apart.{same_runs, all_hold, all_apart}
use Rattle.up_span.proofs.Places.{none_after}
use Rattle.up_claims.specs.Sets.{without}

-- whatever is asked of a page of a set is asked of a page before the set's end
within_set : (set : List Run) (q : ℕ) (b : Bool) → Apart 0 set → (within 0 (end_of 0 set) q && (holds set q && b)) ≡ (holds set q && b)
within_set set q b apart = ⊎_elim
    (λ before. let inside : within 0 (end_of 0 set) q ≡ true = grind (arith, nat_tests) in rw inside refl)
    (λ past. let none : holds set q ≡ false = none_after 0 set q apart (omega arith) in
    let outside : within 0 (end_of 0 set) q ≡ false = grind (arith, nat_tests) in rw (outside, none) refl)
    (cases_lt q (end_of 0 set))

pub without_is : (old new : List Run) (range : Span) → Apart 0 old → Apart 0 new →
    ((q : ℕ) → holds new q ≡ (holds old q && not (within range.first range.count q))) → new ≡ without old range
without_is old new range before after' same = same_runs 0 new (without old range) after'
    (all_apart (λ p. holds old p && not (covers range p)) 0 (end_of 0 old))
    (λ q. same q ∙ sym (within_set old q (not (covers range q)) before) ∙ sym (all_hold (λ p. holds old p && not (covers range p)) 0 (end_of 0 old) q))

-- the same, where set and range are known by other names
pub without_seen : (old kept new : List Run) (range seen : Span) → old ≡ kept → range ≡ seen → Apart 0 old → Apart 0 new →
    ((q : ℕ) → holds new q ≡ (holds old q && not (within range.first range.count q))) → new ≡ without kept seen
without_seen old kept new range seen same_set same_range before after' same =
    without_is old new range before after' same ∙ ap (λ set. without set range) same_set ∙ ap (λ r. without kept r) same_range
