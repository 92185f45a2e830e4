use Rattle.std.proofs.Common.{◌≡◌, ◌≤◌}
use Rattle.up_bank.specs.Find.{bits_set}
use Rattle.up_bank.proofs.place.count_bits.Given as goal

abbrev pub invariant-loop-bit : goal.invariant-loop-bit
invariant-loop-bit l = (l.set ≡ bits_set l.was l.bit) × (l.set ≤ l.bit)
