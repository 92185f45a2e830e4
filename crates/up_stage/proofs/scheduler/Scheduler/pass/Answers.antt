use Rattle.std.proofs.Common.{sym, subst, slice_set, length-set}
use Rattle.up_stage.specs.Scheduled.{Scheduled}
use Rattle.up_stage.specs.Ready.{AtRest}
use Rattle.up_stage.proofs.RestToRest.{rest_done}
use Rattle.up_stage.proofs.scheduler.Scheduler.pass.Goals as goal

pub returns-clause-rest : goal.returns-clause-rest
returns-clause-rest g c =
    let s : Scheduled = record { hands = g.H.Hands.shown c.self.inside.hands; actors = c.self.inside.actors.items; done = c.self.inside.done.items } in
    rest_done s (slice_set s.done c.args.who c.args.next) (subst AtRest (sym c.self.view_is) c.requires.rest) (length-set s.done c.args.who c.args.next)
