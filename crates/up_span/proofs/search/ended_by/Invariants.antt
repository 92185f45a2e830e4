use Rattle.std.proofs.Common.{◌≡◌, ◌+◌, ◌-◌, ◌<◌, ◌≤◌, Some, length, slice_get, take}
use Rattle.up_span.specs.Sets.{end_of}
use Rattle.up_span.specs.declared.run.Run.{Run as RunValue}
use Rattle.up_span.proofs.search.ended_by.Given as goal

abbrev pub invariant-loop-low : goal.invariant-loop-low
invariant-loop-low l = record {
  order : l.low ≤ l.high;
  within : l.high ≤ length l.runs.items;
  before : end_of 0 (take l.low l.runs.items) ≤ l.page + 1;
  after : (run : RunValue) → slice_get l.runs.items l.high ≡ Some run → l.page < run.first + run.count;
}

abbrev pub decreases-loop-low : goal.decreases-loop-low
decreases-loop-low l = l.high - l.low
