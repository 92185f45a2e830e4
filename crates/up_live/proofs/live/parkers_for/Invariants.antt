use Rattle.std.proofs.Common.{◌≡◌, length}
use Rattle.up_live.proofs.live.parkers_for.Given as goal

abbrev pub invariant-loop-actor : goal.invariant-loop-actor
invariant-loop-actor l = length l.parkers.items ≡ l._actor
