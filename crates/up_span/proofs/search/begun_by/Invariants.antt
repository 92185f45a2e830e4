use Rattle.std.proofs.Common.{◌≡◌, ◌+◌, ◌-◌, ◌≤◌, Some, length, drop}
use Rattle.up_span.specs.Sets.{Apart}
use Rattle.up_span.specs.Parts.{before_place}
use Rattle.up_span.specs.declared.run.Run.{Run as RunValue}
use Rattle.up_span.proofs.search.begun_by.Given as goal

abbrev pub invariant-loop-low : goal.invariant-loop-low
invariant-loop-low l = record {
  order : l.low ≤ l.high;
  within : l.high ≤ length l.runs.items;
  before : (run : RunValue) → before_place l.runs.items l.low ≡ Some run → run.first ≤ l.page;
  after : Apart (l.page + 1) (drop l.high l.runs.items);
}

abbrev pub decreases-loop-low : goal.decreases-loop-low
decreases-loop-low l = l.high - l.low
