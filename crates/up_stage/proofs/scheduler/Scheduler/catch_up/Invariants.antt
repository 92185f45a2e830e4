use Rattle.up_stage.specs.Lines.{CatchingUp}
use Rattle.up_stage.proofs.scheduler.Scheduler.catch_up.Given as goal

abbrev pub invariant-loop-at : goal.invariant-loop-at
invariant-loop-at g l = CatchingUp l.lines l.who l.at l.fn.self l.self
