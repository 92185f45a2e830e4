use Rattle.std.proofs.Common.{◌≡◌, ◌≤◌, length, take, vec_len}
use Rattle.std.specs.Vec.{vec_capacity}
use Rattle.up_stage.specs.Played.{births_of}
use Rattle.up_stage.proofs.actors.births_of.Given as goal

abbrev pub invariant-loop-object : goal.invariant-loop-object
invariant-loop-object l = record {
  made : l.births.items ≡ births_of (take l.object-index l.objects);
  count : vec_len l.births ≡ l.object-index;
  room : length l.objects ≤ vec_capacity l.births;
}
