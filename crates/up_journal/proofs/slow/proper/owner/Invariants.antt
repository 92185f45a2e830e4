use Rattle.std.proofs.Common.{◌≡◌, reverse, take}
use Rattle.up_model.specs.Tickets as tickets
use Rattle.up_journal.proofs.slow.proper.owner.Given as goal

abbrev pub invariant-loop-place : goal.invariant-loop-place
invariant-loop-place l = l.holder ≡ tickets.owner (reverse (take l.place l.before)) l.fn.ticket
