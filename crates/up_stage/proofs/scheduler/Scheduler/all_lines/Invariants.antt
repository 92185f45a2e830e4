use Rattle.up_stage.specs.Lines.{GoesThrough}
use Rattle.up_stage.proofs.scheduler.Scheduler.all_lines.Given as goal

abbrev pub invariant-loop-at : goal.invariant-loop-at
invariant-loop-at g l = GoesThrough l.lines l.at l.fn.self l.self
