use Rattle.std.proofs.Common.{◌≡◌, ◌+◌, ◌≤◌, ◌++◌, length, map, reverse, vec_len}
use Rattle.std.specs.Vec.{vec_capacity}
use Rattle.up_object.specs.Whole.{life_of}
use Rattle.up_steps.specs.Handed.{ends_of}
use Rattle.up_hands.specs.Machined.{AllOf}
use Rattle.up_banks.specs.Pools.{banks_of}
use Rattle.up_hands.proofs.machine.end_all.Given as goal

-- the journals that are still to come, and those that came, the last one first
abbrev pub invariant-loop-object : goal.invariant-loop-object
invariant-loop-object l = record {
  whole : ends_of (map life_of l.rest.items) ++ reverse l.ended.items ≡ ends_of (map life_of l.fn.objects.items);
  room : vec_len l.ended + vec_len l.rest ≤ vec_capacity l.ended;
  banks : banks_of l.pool ≡ banks_of l.fn.pool;
  own : AllOf (banks_of l.fn.pool) l.rest.items;
}

abbrev pub decreases-loop-object : goal.decreases-loop-object
decreases-loop-object l = length l.rest.items
