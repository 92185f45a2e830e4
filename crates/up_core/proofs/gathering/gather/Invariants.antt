use Rattle.std.proofs.Common.{length}
use Rattle.up_core.proofs.Poured.{Gathering}
use Rattle.up_core.proofs.gathering.gather.Given as goal

abbrev pub invariant-loop-stepped : goal.invariant-loop-stepped
invariant-loop-stepped l = Gathering l.fn.into l.into l.fn.replies.items l.rest.items

abbrev pub decreases-loop-stepped : goal.decreases-loop-stepped
decreases-loop-stepped l = length l.rest.items
