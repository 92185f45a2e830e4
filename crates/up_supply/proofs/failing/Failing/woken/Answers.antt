use Rattle.up_model.specs.declared.entry.Call.TheVariants.{Fail}
use Rattle.up_supply.proofs.Waking.{fail_events}
use Rattle.up_supply.proofs.failing.Failing.woken.Goals as goal

pub returns : goal.returns
returns c = c.in_ok-woke.ensures (Fail c.args.self.now.range c.args.self.now.code)
    (λ k p. rw c.events-events.ensures (fail_events c.args.object.now.birth c.args.object.now.journal c.args.self.now.range c.args.self.now.code k p))
