use Rattle.std.proofs.Common.{◌≡◌}
use Rattle.up_model.specs.Legal.{Legal}
use Rattle.up_core.specs.Enough.{SameButFrames}
use Rattle.up_check.specs.Faults.{first_entries}
use Rattle.up_check.proofs.replay.replay_all.Given as goal

-- the entries so far are right, and the object's journal is theirs but for frames
abbrev pub invariant-loop-place : goal.invariant-loop-place
invariant-loop-place l = record {
  birth : l.object.birth ≡ l.fn.object.birth;
  banks : l.object.banks ≡ l.banks;
  stay : l.banks ≡ l.fn.banks;
  legal : Legal l.fn.object.birth (first_entries l.entries l.place);
  same : SameButFrames l.object.journal (first_entries l.entries l.place);
}
