-- Pins are counted: no accepted unpin takes a pin away that isn't there.
use Rattle.std.proofs.Common.{◌≡◌, ℕ, ◌+◌, ◌-◌, ◌<◌, ◌≤◌, ◌==◌, ◌&&◌, not, Bool, true, false, cond, Option, Some, None, List, [], ◌∷◌, zero, suc, refl, sym, ◌∙◌, subst, ⊎_elim, arith}
use Rattle.std.proofs.lemmas.Bool.{cases_lt}
use Rattle.std.proofs.lemmas.Bool.Decides.{nat_tests}
use Rattle.up_num.specs.Span.{covers}
use Rattle.up_num.specs.declared.answers.Refusal.TheVariants.{Range, Unpinned}
use Rattle.up_model.specs.Attempts.{accepts}
use Rattle.up_model.specs.Size.{range_fits}
use Rattle.up_model.specs.Deeds.{pins_one, unpins_one, over_pin, over_unpin}
use Rattle.up_model.specs.Pins.{pins}
use Rattle.up_model.specs.Pages.{first_page}
use Rattle.up_model.specs.Reply.{reply, first_in, is_unpinned, refuse_at}
use Rattle.up_model.specs.Legal.{Legal}
use Rattle.up_model.specs.Positions.{how_many}
use Rattle.up_model.proofs.Bools.{and_left, and_right}
use Rattle.up_model.specs.declared.entry.Birth.{Birth}
use Rattle.up_model.specs.declared.entry.Entry.{Entry}
use Rattle.up_model.specs.declared.entry.Call.{Call}
use Rattle.up_model.specs.declared.entry.Call.TheVariants.{Pin, Unpin}
use Rattle.up_model.specs.declared.entry.Reply.{Reply}
use Rattle.up_model.specs.declared.entry.Reply.TheVariants.{Done, Refused}

-- where no page of a range passes a test, each fails it
pub first_none : (test : ℕ → Bool) (first count p : ℕ) → first_page test first count ≡ None → first ≤ p → p < first + count → test p ≡ false
first_none test first zero p none low high = absurd (omega arith)
first_none test first (suc count) p none low high =
    elim (test first) as (λ b. test first ≡ b → cond b (Some first) (first_page test (first + 1) count) ≡ None → test p ≡ false) [
      | true ↦ λ q found. absurd cc
      | false ↦ λ q rest. ⊎_elim
          (λ later. first_none test (first + 1) count p rest (omega arith) (omega arith))
          (λ reached. let same : first ≡ p = omega arith in subst (λ (n : ℕ). test n ≡ false) same q)
          (cases_lt first p)
    ] refl none

accepted_none : (r : Reply) (unfit : Bool) (found : Option ℕ) → r ≡ cond unfit (Refused Range) (refuse_at found Unpinned Done) → accepts r ≡ true → found ≡ None
accepted_none r true found is taken = let wrong : false ≡ true = sym (rw is refl) ∙ taken in absurd cc
accepted_none r false None is taken = refl
accepted_none r false (Some p) is taken = let wrong : false ≡ true = sym (rw is refl) ∙ taken in absurd cc

unpinned_had : (birth : Birth) (before : List Entry) (who epoch : ℕ) (call : Call) (r : Reply) (p : ℕ) → r ≡ reply birth before who epoch call →
    (over_unpin call p && accepts r) ≡ true → (pins before p == 0) ≡ false
unpinned_had birth before who epoch (Unpin range) r p is taken =
    let none : first_in (is_unpinned before) range ≡ None =
    accepted_none r (not (range_fits birth before range)) _ is (and_right (covers range p) _ taken) in
    let over : covers range p ≡ true = and_left _ _ taken in
    first_none (is_unpinned before) range.first range.count p none (grind (arith, nat_tests)) (grind (arith, nat_tests))
unpinned_had birth before who epoch _ r p is taken = absurd cc

pin_apart : (call : Call) (r : Reply) (p : ℕ) → (over_pin call p && accepts r) ≡ true → (over_unpin call p && accepts r) ≡ false
pin_apart (Pin range brought) r p is = refl
pin_apart _ r p is = absurd cc

counted : (pin unpin : Bool) (n u s : ℕ) → (pin ≡ true → unpin ≡ false) → (unpin ≡ true → (n == 0) ≡ false) → n + u ≡ s →
    cond pin (suc n) (cond unpin (n - 1) n) + cond unpin (suc u) u ≡ cond pin (suc s) s
counted true true n u s apart some is = let wrong : true ≡ false = apart refl in absurd cc
counted true false n u s apart some is = omega arith
counted false true n u s apart some is = let has : (n == 0) ≡ false = some refl in grind (arith, nat_tests)
counted false false n u s apart some is = is

pub pins_counted : (birth : Birth) (h : List Entry) → Legal birth h → (p : ℕ) →
    pins h p + how_many (λ e. unpins_one e p) h ≡ how_many (λ e. pins_one e p) h
pins_counted birth [] legal p = refl
pins_counted birth (e ∷ before) legal p =
    counted (pins_one e p) (unpins_one e p) (pins before p) (how_many (λ x. unpins_one x p) before) (how_many (λ x. pins_one x p) before)
    (pin_apart e.call e.reply p) (unpinned_had birth before e.who e.epoch e.call e.reply p legal.2) (pins_counted birth before legal.0 p)
