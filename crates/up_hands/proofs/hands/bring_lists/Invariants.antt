use Rattle.std.proofs.Common.{◌≡◌, length}
use Rattle.up_hands.specs.Keeping.{AllKept}
use Rattle.up_banks.specs.Pools.{banks_of}
use Rattle.up_hands.proofs.hands.bring_lists.Given as goal

abbrev pub invariant-loop-frames : goal.invariant-loop-frames
invariant-loop-frames l = record {
  lives : l.machine.lives ≡ l.fn.machine.lives;
  banks : banks_of l.machine.pool ≡ banks_of l.fn.machine.pool;
  own : AllKept l.fn.machine.pool.loaned.bank l.rest.items;
}

abbrev pub decreases-loop-frames : goal.decreases-loop-frames
decreases-loop-frames l = length l.rest.items
