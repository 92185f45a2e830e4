use Rattle.std.proofs.Common.{◌≡◌, reverse, take}
use Rattle.up_model.specs.Tickets as tickets
use Rattle.up_journal.proofs.slow.proper.spent.Given as goal

abbrev pub invariant-loop-place : goal.invariant-loop-place
invariant-loop-place l = l.answered ≡ tickets.spent (reverse (take l.place l.before)) l.fn.ticket
