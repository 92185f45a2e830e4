use Rattle.up_stage.proofs.AllLines.{gone_more}
use Rattle.up_stage.proofs.scheduler.Scheduler.all_lines.Goals as goal

pub loop-at-preserved : goal.loop-at-preserved
loop-at-preserved g c = gone_more c.args.lines.now c.loop-at.at c.args.self.now c.loop-at.self c.line.new.self c.loop-at.invariant c.in_ok-line.ensures
