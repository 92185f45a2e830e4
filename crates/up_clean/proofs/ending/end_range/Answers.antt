use Rattle.up_model.specs.Tickets.{woken}
use Rattle.up_model.specs.declared.entry.Call.TheVariants.{End}
use Rattle.up_model.specs.declared.entry.Reply.TheVariants.{Woke}
use Rattle.up_clean.proofs.ending.end_range.Goals as goal

pub decline-requires-clause-due : goal.decline-requires-clause-due
decline-requires-clause-due c = rw c.call.ensures (c.in-Some.ensures.reply (Woke (woken c.args.object.birth c.args.object.journal (End c.args.ending.range c.args.ending.of))))
