use Rattle.std.proofs.Common.{◌≡◌, IfOk, not, subst, sym, ◌∙◌}
use Rattle.std.proofs.lemmas.Result.{IfOk-weaker}
use Rattle.up_span.specs.Runs.{runs}
use Rattle.up_asks.specs.Asking.{fresh}
use Rattle.up_model.specs.Asks.{asked}
use Rattle.up_object.specs.Whole.{Whole}
use Rattle.up_object.proofs.Waits.{fresh_parts}
use Rattle.up_object.proofs.object.Object.fresh.Goals as goal

pub returns-clause-parts : goal.returns-clause-parts
returns-clause-parts c =
    let first = c.args.range.now.first in
    let count = c.args.range.now.count in
    let same = fresh_parts c.self.inside.asks c.self.inside.birth c.self.inside.log.entries c.self.inside.log.entries c.args.kind first count c.self.invariant.asks in
    subst (λ (v : Whole). IfOk c.fresh.result (λ parts. parts ≡ runs (λ p. not (asked v.birth v.journal c.args.kind p)) first 0 count)) c.self.view_is
    (IfOk-weaker _ (λ parts. parts ≡ fresh c.self.inside.asks c.args.kind first count) (λ parts. parts ≡ runs (λ p. not (asked c.self.inside.birth c.self.inside.log.entries c.args.kind p)) first 0 count) (λ _ is. is ∙ sym same) c.fresh.ensures.parts)
