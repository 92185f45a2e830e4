use Rattle.std.proofs.Common.{sym, ◌∙◌, rules}
use Rattle.up_model.specs.Reply.{loaned_firm}
use Rattle.up_reclaim.proofs.PageLists.{firm_step}
use Rattle.up_reclaim.proofs.loans.count_firm.Goals as goal

pub loop-page-preserved : goal.loop-page-preserved
loop-page-preserved c = record {
  counted = rw (c.count_where-found.ensures.value, c.leaves.ensures)
      (sym (firm_step (loaned_firm c.args.object.now.birth c.args.object.now.journal) c.loop-page.found c.loop-page.page c.size-page-end.result c.loop-page-test.true) ∙ c.loop-page.invariant.counted);
  few = search rules;
}
