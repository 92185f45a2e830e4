use Rattle.std.proofs.Common.{◌≡◌}
use Rattle.up_turn.proofs.turn.Turn.wait_in.Given as goal

abbrev pub invariant-loop : goal.invariant-loop
invariant-loop g l = (l.place.table_id ≡ l.fn.place.table_id) × (l.place.me ≡ l.fn.place.me)
