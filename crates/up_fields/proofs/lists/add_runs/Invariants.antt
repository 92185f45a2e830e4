use Rattle.std.proofs.Common.{◌≡◌, [], drop}
use Rattle.up_words.specs.ReadSteps.{each}
use Rattle.up_fields.specs.Fields.{list_step, run_of}
use Rattle.up_fields.proofs.lists.add_runs.Given as goal

abbrev pub invariant-loop-at : goal.invariant-loop-at
invariant-loop-at l = each (list_step (run_of)) l.found (drop l.at l.pieces) ≡ each (list_step (run_of)) [] l.pieces
