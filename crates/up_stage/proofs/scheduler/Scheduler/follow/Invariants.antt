use Rattle.up_stage.specs.Ready.{rank_at}
use Rattle.up_stage.proofs.WishByWish.{Following}
use Rattle.up_stage.proofs.scheduler.Scheduler.follow.Given as goal

abbrev pub invariant-loop-alloc : goal.invariant-loop-alloc
invariant-loop-alloc g l = Following l.fn.self l.self l.who l.fn.first l.wish

abbrev pub decreases-loop-alloc : goal.decreases-loop-alloc
decreases-loop-alloc g l = rank_at l.self l.who l.wish
