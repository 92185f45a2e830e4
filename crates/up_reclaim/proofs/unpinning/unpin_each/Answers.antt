use Rattle.std.proofs.Common.{ℕ, ◌<◌, subst}
use Rattle.up_reclaim.proofs.EachPage.{unpin_at}
use Rattle.up_reclaim.proofs.unpinning.unpin_each.Goals as goal

pub unpin-requires-clause-unpins : goal.unpin-requires-clause-unpins
unpin-requires-clause-unpins c = rw c.loop-place.invariant
    (unpin_at _ _ _ c.args.range _ c.loop-place._place c.requires.call c.requires.accepted c.requires.pinned c.requires.first
    (subst (λ (n : ℕ). c.loop-place._place < n) c.count_of-place-end.ensures c.loop-place-test.true))
