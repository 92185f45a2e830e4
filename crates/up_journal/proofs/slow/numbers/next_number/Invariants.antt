use Rattle.std.proofs.Common.{◌≡◌, ◌≤◌, reverse, take}
use Rattle.up_model.specs.Numbers as numbering
use Rattle.up_journal.proofs.slow.numbers.next_number.Given as goal

abbrev pub invariant-loop-place : goal.invariant-loop-place
invariant-loop-place l = (l.count ≡ numbering.next_number (reverse (take l.place l.before))) × (l.count ≤ l.place)
