use Rattle.std.proofs.Common.{rules}
use Rattle.up_core.proofs.Amounts.{more_handed}
use Rattle.up_core.proofs.listing.most_back.Goals as goal

pub loop-place-preserved : goal.loop-place-preserved
loop-place-preserved c = more_handed c.args.list.now c.loop-place.place c.at.result.now c.args.pages c.loop-place.most c.in_ok-most.most c.at.ensures c.loop-place.invariant (search rules)
