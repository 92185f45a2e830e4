use Rattle.std.proofs.Common.{ap, ◌∙◌, sym, subst, true≢false}
use Rattle.up_turn.specs.Standing.{Counts}
use Rattle.up_turn.specs.declared.view.View.{View}
use Rattle.up_turn.proofs.Keeps.{one_counts}
use Rattle.up_turn.proofs.turn.Turn.split.Goals as goal

pub invariant_of-result : goal.invariant_of-result
invariant_of-result g c = let is = c.part-place.ensures.second.1 in (
  (λ inside. absurd (true≢false (sym inside ∙ ap (λ m. m.0.inside) is))),
  (λ _. ap (λ m. m.1) is),
  subst (λ (v : View). Counts v.first v.numbers) (sym (ap (λ m. m.0) is)) (one_counts c.args.who),
)
