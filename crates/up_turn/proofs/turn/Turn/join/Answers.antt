use Rattle.std.proofs.Common.{ap, ◌∙◌, sym, subst}
use Rattle.up_turn.specs.Standing.{Counts}
use Rattle.up_turn.specs.declared.view.View.{View}
use Rattle.up_turn.proofs.Keeps.{joined_counts}
use Rattle.up_turn.proofs.turn.Turn.join.Goals as goal

pub invariant_of-pass : goal.invariant_of-pass
invariant_of-pass g c = let is = c.unite.ensures.both in let was = c.pass.invariant in (
  (λ inside. ap (λ m. m.1) is ∙ was.0 (sym (ap (λ m. m.0.inside) is) ∙ inside)),
  (λ outside. ap (λ m. m.1) is ∙ was.1 (sym (ap (λ m. m.0.inside) is) ∙ outside)),
  subst (λ (v : View). Counts v.first v.numbers) (sym (ap (λ m. m.0) is)) (joined_counts _ _ _ _ was.2),
)
