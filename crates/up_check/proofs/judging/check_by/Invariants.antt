use Rattle.up_check.specs.Faults.{AreLegalBelow}
use Rattle.up_check.proofs.judging.check_by.Given as goal

abbrev pub invariant-loop-number : goal.invariant-loop-number
invariant-loop-number l = AreLegalBelow l.number l.journals.list
