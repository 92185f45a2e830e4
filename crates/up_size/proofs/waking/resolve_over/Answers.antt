use Rattle.up_size.proofs.Events.{pair_fixed, pair_happens}
use Rattle.up_size.proofs.waking.resolve_over.Goals as goal

pub resolve-requires-clause-fixed : goal.resolve-requires-clause-fixed
resolve-requires-clause-fixed c = pair_fixed _ _ c.args.range c.args.outcome c.event-read.ensures c.event-dirty.ensures c.requires.fixed

pub resolve-requires-clause-happens : goal.resolve-requires-clause-happens
resolve-requires-clause-happens c = pair_happens _ _ _ _ _ c.args.range c.args.outcome c.event-read.ensures c.event-dirty.ensures c.requires.happens
