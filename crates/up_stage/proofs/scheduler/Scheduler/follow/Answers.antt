use Rattle.std.proofs.Common.{sym, ◌∙◌}
use Rattle.up_stage.proofs.WishByWish.{following_more, follows_on}
use Rattle.up_stage.proofs.RestToRest.{at_rest}
use Rattle.up_stage.proofs.scheduler.Scheduler.follow.Goals as goal

pub loop-alloc-preserved : goal.loop-alloc-preserved
loop-alloc-preserved g c =
    following_more c.args.self.now c.loop-alloc.self c.carry_out.new.self c.args.who c.args.first c.loop-alloc.wish c.in_ok-wish.wish c.loop-alloc.invariant (sym c.rests.ensures ∙ c.loop-alloc-test.true)
    c.in_ok-wish.ensures.ready c.in_ok-wish.ensures.shape c.in_ok-wish.ensures.done c.in_ok-wish.ensures.went

pub returns-clause-rest : goal.returns-clause-rest
returns-clause-rest g c = at_rest c.loop-alloc.self c.args.who c.loop-alloc.wish c.loop-alloc.invariant.ready (sym c.rests.ensures ∙ c.loop-alloc-test.false)

pub returns-clause-went : goal.returns-clause-went
returns-clause-went g c = follows_on c.args.self.now c.loop-alloc.self c.args.who c.args.first c.loop-alloc.wish c.loop-alloc.invariant (sym c.rests.ensures ∙ c.loop-alloc-test.false)
