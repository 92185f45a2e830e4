use Rattle.std.proofs.Common.{◌≡◌, ◌≤◌, length, take, vec_len}
use Rattle.std.specs.Vec.{vec_capacity}
use Rattle.up_stage.specs.Scheduled.{unborn_from}
use Rattle.up_stage.proofs.actors.actors_of.Given as goal

abbrev pub invariant-loop-line : goal.invariant-loop-line
invariant-loop-line l = record {
  made : l.actors.items ≡ unborn_from 0 (take l.line-index l.lines);
  count : vec_len l.actors ≡ l.line-index;
  room : length l.lines ≤ vec_capacity l.actors;
}
