use Rattle.std.proofs.Common.{◌≡◌, length}
use Rattle.up_hands.specs.Machined.{AllOf}
use Rattle.up_banks.specs.Pools.{banks_of}
use Rattle.up_hands.proofs.machine.let_go.Given as goal

abbrev pub invariant-loop-object : goal.invariant-loop-object
invariant-loop-object l = record {
  banks : banks_of l.pool ≡ banks_of l.fn.pool;
  own : AllOf (banks_of l.fn.pool) l.rest.items;
}

abbrev pub decreases-loop-object : goal.decreases-loop-object
decreases-loop-object l = length l.rest.items
