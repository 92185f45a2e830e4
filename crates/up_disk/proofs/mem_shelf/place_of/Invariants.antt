use Rattle.std.proofs.Common.{◌≡◌, ◌++◌, take, drop}
use Rattle.up_disk.specs.Shelved.{held_as, held_without}
use Rattle.up_disk.proofs.mem_shelf.place_of.Given as goal

-- no disk of those that were looked at has the name
abbrev pub invariant-loop-place : goal.invariant-loop-place
invariant-loop-place g l = record {
  found : held_as l.name l.fn.held.items ≡ held_as l.name (drop l.place l.fn.held.items);
  rest : held_without l.name l.fn.held.items ≡ take l.place l.fn.held.items ++ held_without l.name (drop l.place l.fn.held.items);
}
