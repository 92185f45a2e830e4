use Rattle.up_core.proofs.Poured.{gather_next}
use Rattle.up_core.proofs.gathering.gather.Goals as goal

pub loop-stepped-preserved : goal.loop-stepped-preserved
loop-stepped-preserved c =
    gather_next c.args.into.now c.loop-stepped.into c.pour.new.into c.args.replies.items c.loop-stepped.rest.items c.pop.new.self.items c.in-Some.stepped c.loop-stepped.invariant
    c.in-Some.ensures.items c.pour.ensures.items c.pour.ensures.room

pub returns-clause-own : goal.returns-clause-own
returns-clause-own c = λ banks own owns. (c.loop-stepped.invariant.own banks own owns).0
