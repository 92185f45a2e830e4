use Rattle.up_turn.specs.Added.{Stays}
use Rattle.up_container_tests.proofs.turning.add_many.Given as goal

abbrev pub invariant-loop-number : goal.invariant-loop-number
invariant-loop-number g l = Stays l.fn.pass l.pass
