use Rattle.up_claims.proofs.SetsLess.{without_seen}
use Rattle.up_claims.proofs.chosen.Chosen.remove.Goals as goal

pub returns-clause-ok : goal.returns-clause-ok
returns-clause-ok c = without_seen _ _ _ (record { first = c.range.inside.first; count = c.range.inside.count }) c.args.range c.self.view_is c.range.view_is
    c.self.invariant c.lie_apart.ensures c.in_ok-remove.ensures.ok
