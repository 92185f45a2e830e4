use Rattle.std.proofs.Common.{◌≡◌, ◌+◌, ◌≤◌, ◌++◌, length, reverse}
use Rattle.up_core.proofs.gathering.pour.Given as goal

abbrev pub invariant-loop-frame : goal.invariant-loop-frame
invariant-loop-frame l = record {
  items : l.into.items ++ reverse l.rest.items ≡ l.fn.into.items ++ reverse l.fn.from.items;
  room : l.into.room ≡ l.fn.into.room;
  fits : length l.into.items + length l.rest.items ≤ l.into.room;
}

abbrev pub decreases-loop-frame : goal.decreases-loop-frame
decreases-loop-frame l = length l.rest.items
