use Rattle.std.proofs.Common.{◌≡◌, length, take}
use Rattle.std.specs.List.{sum_by}
use Rattle.up_words.specs.Runs.{spread}
use Rattle.up_words.proofs.runs.spread_all.Given as goal

abbrev pub invariant-loop-run : goal.invariant-loop-run
invariant-loop-run l = record {
  bytes : l.bytes.items ≡ spread (take l.run-index l.runs);
  total : length l.bytes.items ≡ sum_by (λ run. run.count) (take l.run-index l.runs);
}
