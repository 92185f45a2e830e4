use Rattle.std.proofs.Common.{◌≡◌, ◌+◌, ◌++◌, length}
use Rattle.up_text.specs.Text.{entries_text}
use Rattle.up_text.proofs.writing.put_entries.Given as goal

-- what was written and what is still to come make the whole
abbrev pub invariant-loop-rest : goal.invariant-loop-rest
invariant-loop-rest l = record {
  whole : l.out.items ++ entries_text l.position l.rest ≡ l.fn.out.items ++ entries_text 0 l.entries;
  place : l.position + length l.rest ≡ length l.entries;
}

abbrev pub decreases-loop-rest : goal.decreases-loop-rest
decreases-loop-rest l = length l.rest
