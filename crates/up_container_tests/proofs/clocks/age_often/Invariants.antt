use Rattle.std.proofs.Common.{◌≡◌}
use Rattle.up_container_tests.proofs.clocks.age_often.Given as goal

abbrev pub invariant-loop : goal.invariant-loop
invariant-loop l = l.seat.clock ≡ l.fn.seat.clock
