use Rattle.std.proofs.Common.{◌≡◌, drop, min}
use Rattle.std.specs.List.{sum_by}
use Rattle.up_words.specs.ReadSteps.{each}
use Rattle.up_words.specs.Runs.{run_step, no_runs, too_many}
use Rattle.up_words.proofs.runs.add_runs.Given as goal

abbrev pub invariant-loop-at : goal.invariant-loop-at
invariant-loop-at l = record {
  told : each run_step l.runs (drop l.at l.pieces) ≡ each run_step no_runs l.pieces;
  total : l.runs.total ≡ min (sum_by (λ run. run.count) l.runs.found) too_many;
}
