use Rattle.std.proofs.Common.{subst}
use Rattle.up_live.specs.Courses.{OnItsWay}
use Rattle.up_live.specs.declared.picked.SyncNext.{SyncNext}
use Rattle.up_live.proofs.SyncSteps.{at_end}
use Rattle.up_live.proofs.live.Live.go_through.Goals as goal

pub returns-in-IsOver-clause-ok : goal.returns-in-IsOver-clause-ok
returns-in-IsOver-clause-ok g c =
    let way = c.in_ok-end.ensures.ok c.args.seat.now.told c.args.pass.now c.loop.invariant.1.0 in
    at_end c.args.self.now.opening.whole.birth c.args.who c.args.seat.now.told c.go_on.new.seat.told c.args.pass.now
    c.go_on.new.pass c.go_on.new.set c.in-IsOver.end
    (subst (λ (n : SyncNext). OnItsWay c.args.self.now.opening.whole.birth c.args.who c.args.seat.now.told
    c.go_on.new.seat.told c.args.pass.now c.go_on.new.pass c.go_on.new.set n) c.in-IsOver.is way)
