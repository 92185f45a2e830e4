use Rattle.std.proofs.Common.{◌∙◌, sym}
use Rattle.up_model.specs.Asks.{lacks}
use Rattle.up_fault.proofs.RangeLoops.{run_step}
use Rattle.up_fault.proofs.wanting.lacking.Goals as goal

pub loop-place-preserved : goal.loop-place-preserved
loop-place-preserved c = run_step (lacks c.args.object.now.birth c.args.object.now.journal c.args.kind) c.args.first c.args.count c.loop-place.place c.loop-place-test.true
    (sym c.lacks.ensures ∙ c.if-not-lacks.false) c.loop-place.invariant
