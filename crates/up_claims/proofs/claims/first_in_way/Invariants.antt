use Rattle.std.proofs.Common.{◌≤◌, ◌-◌, length}
use Rattle.up_claims.specs.Slots.{FoundBefore}
use Rattle.up_claims.proofs.claims.first_in_way.Given as goal

abbrev pub invariant-loop-place : goal.invariant-loop-place
invariant-loop-place l = (l.place ≤ length l.slots.items) × FoundBefore l.slots.items (record { first = l.range.first; count = l.range.count }) l.place l.found

abbrev pub decreases-loop-place : goal.decreases-loop-place
decreases-loop-place l = length l.slots.items - l.place
