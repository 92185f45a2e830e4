use Rattle.up_model.specs.Legal.{Legal}
use Rattle.up_check.specs.Faults.{first_entries}
use Rattle.up_check.proofs.looking.look_back.Given as goal

abbrev pub invariant-loop-place : goal.invariant-loop-place
invariant-loop-place l = Legal l.journal.birth (first_entries l.entries l.place)
