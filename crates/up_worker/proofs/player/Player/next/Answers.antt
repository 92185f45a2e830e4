use Rattle.up_worker.proofs.Stepping.{plays_on}
use Rattle.up_worker.proofs.player.Player.next.Goals as goal

pub invariant_of-self : goal.invariant_of-self
invariant_of-self c =
    plays_on c.self.inside.calls c.self.inside.paging c.next.new.self c.in-Some.line c.args.heard c.next.result c.self.invariant
    c.in-Some.is c.next.ensures.ok c.next.ensures.err
