use Rattle.up_clean.proofs.Events.{dirty_due}
use Rattle.up_clean.proofs.dirtying.dirty_freeing.Goals as goal

pub close-object-requires-clause-due : goal.close-object-requires-clause-due
close-object-requires-clause-due c =
    rw (c.resolve.ensures, c.dirty_pages.ensures, c.in-Ok.ensures.ok, c.entry-entry.ensures, c.call.ensures, c.requires.notes)
    (dirty_due c.args.object.birth c.args.object.journal c.args.dirtying.by.who c.args.dirtying.by.epoch c.args.dirtying.range c.args.dirtying.brought c.args.woke c.requires.counts c.requires.due)
