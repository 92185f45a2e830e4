use Rattle.std.proofs.Common.{◌≤◌, ◌-◌, length}
use Rattle.up_claims.proofs.claims.free_place.Given as goal

abbrev pub invariant-loop-place : goal.invariant-loop-place
invariant-loop-place l = l.place ≤ length l.slots.items

abbrev pub decreases-loop-place : goal.decreases-loop-place
decreases-loop-place l = length l.slots.items - l.place
