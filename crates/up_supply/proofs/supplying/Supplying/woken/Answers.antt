use Rattle.up_supply.specs.Calls.{supply_call}
use Rattle.up_supply.proofs.Waking.{supply_events}
use Rattle.up_supply.proofs.supplying.Supplying.woken.Goals as goal

pub returns : goal.returns
returns c = λ bytes. c.in_ok-woke.ensures (supply_call c.args.self.now bytes)
    (λ k p. rw c.event.ensures (supply_events c.args.object.now.birth c.args.object.now.journal c.args.self.now.range bytes c.args.self.now.brought k p))
