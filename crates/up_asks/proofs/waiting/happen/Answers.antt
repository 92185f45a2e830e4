use Rattle.std.proofs.Common.{◌∙◌, ap, sym}
use Rattle.up_asks.specs.Asking.{events_of}
use Rattle.up_asks.specs.Keeps.{still_waiting, waiting_among}
use Rattle.up_asks.proofs.Events.{settled_all, still_all}
use Rattle.up_asks.proofs.waiting.happen.Goals as goal

pub returns-clause-tickets : goal.returns-clause-tickets
returns-clause-tickets c = c.settle_all.ensures.items ∙ settled_all (events_of c.args.events.now) c.args.tickets.now.items c.args.waiting.now.items c.requires

pub returns-clause-waiting : goal.returns-clause-waiting
returns-clause-waiting c = c.keep_waiting.ensures.items
    ∙ ap (λ ts. still_waiting ts c.args.waiting.now.items) (returns-clause-tickets c)
    ∙ still_all (events_of c.args.events.now) c.args.tickets.now.items c.args.waiting.now.items c.requires
    ∙ sym (ap (λ ts. waiting_among ts 0) (returns-clause-tickets c))
