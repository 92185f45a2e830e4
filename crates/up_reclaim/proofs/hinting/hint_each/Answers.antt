use Rattle.std.proofs.Common.{ℕ, ◌<◌, subst}
use Rattle.up_reclaim.proofs.EachPage.{hint_at}
use Rattle.up_reclaim.proofs.hinting.hint_each.Goals as goal

pub hint-requires-clause-hints : goal.hint-requires-clause-hints
hint-requires-clause-hints c = rw (c.loop-place.invariant, c.protects-always.ensures)
    (hint_at _ _ _ c.args.range c.args.kind _ c.loop-place._place c.requires.call c.requires.accepted c.requires.first
    (subst (λ (n : ℕ). c.loop-place._place < n) c.count_of-place-end.ensures c.loop-place-test.true))
