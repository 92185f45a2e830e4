use Rattle.std.proofs.Common.{◌+◌, ◌≤◌, length, reverse}
use Rattle.std.specs.Vec.{vec_capacity}
use Rattle.up_core.proofs.Listed.{Going}
use Rattle.up_core.proofs.listing.run_each.Given as goal

abbrev pub invariant-loop-request : goal.invariant-loop-request
invariant-loop-request l = record {
  going : Going l.fn.object l.object (reverse l.fn.left.items) (reverse l.left.items) l.replies.items;
  room : length l.left.items + length l.replies.items ≤ vec_capacity l.replies;
}

abbrev pub decreases-loop-request : goal.decreases-loop-request
decreases-loop-request l = length l.left.items
