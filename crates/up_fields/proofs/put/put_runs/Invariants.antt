use Rattle.std.proofs.Common.{◌≡◌, ◌+◌, ◌≤◌, ◌++◌, length}
use Rattle.up_words.specs.Runs.{text_from}
use Rattle.up_fields.proofs.put.put_runs.Given as goal

-- what was written and what is still to come make the whole
abbrev pub invariant-loop-rest : goal.invariant-loop-rest
invariant-loop-rest l = record {
  whole : l.out.items ++ text_from l.byte l.count l.rest ≡ l.fn.out.items ++ text_from l.first 1 l.bytes;
  small : l.count + length l.rest ≤ 1 + length l.bytes;
}

abbrev pub decreases-loop-rest : goal.decreases-loop-rest
decreases-loop-rest l = length l.rest
