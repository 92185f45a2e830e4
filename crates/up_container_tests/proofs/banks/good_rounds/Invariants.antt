use Rattle.std.proofs.Common.{◌≡◌, ◌≤◌}
use Rattle.up_container_tests.proofs.banks.good_rounds.Given as goal

abbrev pub invariant-loop : goal.invariant-loop
invariant-loop g l = (l.first.bank ≡ l.bank) × (l.second.bank ≡ l.bank) × (l.good ≤ l.counter)
