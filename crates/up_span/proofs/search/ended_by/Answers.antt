use Rattle.std.proofs.Common.{◌+◌, ◌-◌, ◌/◌, ◌≤◌, take, arith}
use Rattle.up_span.specs.Sets.{end_of}
use Rattle.up_span.proofs.Places.{some_within, end_take}
use Rattle.up_span.proofs.search.ended_by.Goals as goal

pub loop-low-preserved-then-end_at-page : goal.loop-low-preserved-then-end_at-page
loop-low-preserved-then-end_at-page c = record {
  order = omega arith;
  within = c.loop-low.invariant.within;
  before = some_within c.args.runs.now.items (c.loop-low.low + (c.loop-low.high - c.loop-low.low) / 2)
      (end_of 0 (take (c.loop-low.low + (c.loop-low.high - c.loop-low.low) / 2 + 1) c.args.runs.now.items) ≤ c.args.page + 1) (omega arith)
      (λ run is. let here = end_take c.args.runs.now.items _ run is in let end = c.end_at.ensures run is in omega arith);
  after = c.loop-low.invariant.after;
}
