use Rattle.std.proofs.Common.{◌≡◌, reverse, take}
use Rattle.up_model.specs.Packets as sending
use Rattle.up_journal.proofs.slow.packets.requested.Given as goal

abbrev pub invariant-loop-place : goal.invariant-loop-place
invariant-loop-place l = l.list ≡ sending.requested l.fn.birth (reverse (take l.place l.before))
