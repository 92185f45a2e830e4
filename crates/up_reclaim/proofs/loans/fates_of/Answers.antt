use Rattle.std.proofs.Common.{rules}
use Rattle.up_reclaim.proofs.Vacates.{fate_put}
use Rattle.up_reclaim.proofs.loans.fates_of.Goals as goal

pub loop-page-preserved : goal.loop-page-preserved
loop-page-preserved c = record {
  size = search rules;
  room = search rules;
  each = rw c.push_reserved.ensures.items (fate_put c.args.object.now.birth c.args.object.now.journal c.loop-page.fates.items c.loop-page.page c.fate_of.result c.loop-page.invariant.size c.loop-page.invariant.each c.fate_of.ensures);
}
