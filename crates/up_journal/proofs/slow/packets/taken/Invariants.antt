use Rattle.std.proofs.Common.{◌≡◌, ◌≤◌, reverse, take}
use Rattle.up_model.specs.Packets as sending
use Rattle.up_journal.proofs.slow.packets.taken.Given as goal

abbrev pub invariant-loop-place : goal.invariant-loop-place
invariant-loop-place l = (l.count ≡ sending.taken (reverse (take l.place l.before))) × (l.count ≤ l.place)
