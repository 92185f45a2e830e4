use Rattle.up_model.specs.Tickets.{woken}
use Rattle.up_model.specs.declared.entry.Call.TheVariants.{Dirty}
use Rattle.up_model.specs.declared.entry.Reply.TheVariants.{Woke}
use Rattle.up_clean.proofs.dirtying.dirty_range.Goals as goal

pub decline-requires-clause-due : goal.decline-requires-clause-due
decline-requires-clause-due c =
    rw c.call.ensures (c.in-Some.ensures.reply (Woke (woken c.args.object.birth c.args.object.journal (Dirty c.args.load.0.range c.args.load.0.brought))))
