use Rattle.std.proofs.Common.{◌≡◌, ◌++◌, length}
use Rattle.std.specs.List.{flat_map}
use Rattle.up_text.specs.Text.{journal_text}
use Rattle.up_text.proofs.writing.put_journals.Given as goal

-- what was written and what is still to come make the whole
abbrev pub invariant-loop-rest : goal.invariant-loop-rest
invariant-loop-rest l = l.out.items ++ flat_map (journal_text l.numbers) l.rest ≡ l.fn.out.items ++ flat_map (journal_text l.numbers) l.journals

abbrev pub decreases-loop-rest : goal.decreases-loop-rest
decreases-loop-rest l = length l.rest
