use Rattle.std.proofs.Common.{◌+◌, ◌-◌, length}
use Rattle.up_span.proofs.Outside.{GapsTo}
use Rattle.up_span.proofs.gaps.gaps_of.Given as goal

abbrev pub invariant-loop-place : goal.invariant-loop-place
invariant-loop-place l = GapsTo l.runs.items l.fn.first (l.fn.first + l.fn.count) l.place l.next l.outside

abbrev pub decreases-loop-place : goal.decreases-loop-place
decreases-loop-place l = length l.runs.items - l.place
