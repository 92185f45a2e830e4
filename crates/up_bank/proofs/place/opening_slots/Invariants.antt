use Rattle.std.proofs.Common.{◌≡◌, Some, replicate}
use Rattle.up_bank.specs.Bytes.{zero_bytes}
use Rattle.up_bank.proofs.place.opening_slots.Given as goal

abbrev pub invariant-loop : goal.invariant-loop
invariant-loop l = l.slots.items ≡ replicate l.counter (Some zero_bytes)
