use Rattle.std.proofs.Common.{refl}
use Rattle.up_fault.proofs.Retries.{held_spends}
use Rattle.up_fault.proofs.retrying.give_up.Goals as goal

pub spend-requires-clause-spends : goal.spend-requires-clause-spends
spend-requires-clause-spends c = rw (c.in-Ok.ensures.ok, c.entry-entry.ensures)
    (held_spends c.args.object.birth _ c.args.object.journal c.args.retrying.by.who c.args.retrying.ticket c.args.retrying.brought c.is_legal.ensures c.requires.proper refl refl)
