use Rattle.std.proofs.Common.{◌≡◌, true, take}
use Rattle.std.specs.List.{list_all}
use Rattle.up_fields.specs.Fields.{is_run}
use Rattle.up_fields.proofs.lists.all_shaped.Given as goal

abbrev pub invariant-loop-place : goal.invariant-loop-place
invariant-loop-place l = list_all is_run (take l.place l.pieces) ≡ true
