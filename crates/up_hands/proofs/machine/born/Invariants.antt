use Rattle.std.proofs.Common.{◌≡◌, ◌≤◌, length, map, take, vec_len}
use Rattle.std.specs.Vec.{vec_capacity}
use Rattle.up_object.specs.Whole.{life_of}
use Rattle.up_steps.specs.Handed.{new_life}
use Rattle.up_hands.specs.Machined.{AllOf}
use Rattle.up_banks.specs.Pools.{banks_of}
use Rattle.up_hands.proofs.machine.born.Given as goal

abbrev pub invariant-loop-one : goal.invariant-loop-one
invariant-loop-one l = record {
  made : map life_of l.objects.items ≡ map new_life (take l.one-index l.births);
  count : vec_len l.objects ≡ l.one-index;
  room : length l.births ≤ vec_capacity l.objects;
  banks : AllOf (banks_of l.fn.pool) l.objects.items;
  pool : l.pool ≡ l.fn.pool;
}
