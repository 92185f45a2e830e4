use Rattle.std.proofs.Common.{◌≡◌}
use Rattle.std.specs.List.{All}
use Rattle.up_container_tests.proofs.banks.claim_all.Given as goal

abbrev pub invariant-loop : goal.invariant-loop
invariant-loop l = (l.seat.bank ≡ l.bank) × All (λ frame. frame.bank ≡ l.bank) l.frames.items
