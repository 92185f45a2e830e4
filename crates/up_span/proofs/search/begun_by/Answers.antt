use Rattle.std.proofs.Common.{arith}
use Rattle.up_span.proofs.Places.{later_from}
use Rattle.up_span.proofs.search.begun_by.Goals as goal

pub loop-low-preserved : goal.loop-low-preserved
loop-low-preserved c = record {
  order = omega arith;
  within = omega arith;
  before = c.loop-low.invariant.before;
  after = later_from c.args.runs.now.items _ c.args.page c.run_at.result c.requires.spans.0 c.run_at.ensures c.if-run_at-page.false;
}
