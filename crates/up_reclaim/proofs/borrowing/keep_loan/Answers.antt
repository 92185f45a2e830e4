use Rattle.std.proofs.Common.{refl}
use Rattle.up_reclaim.proofs.Borrows.{borrow_keeps}
use Rattle.up_reclaim.proofs.borrowing.keep_loan.Goals as goal

pub keep-requires-clause-same : goal.keep-requires-clause-same
keep-requires-clause-same c = rw (c.in-Ok.ensures.ok, c.entry-entry.ensures, c.call.ensures)
    (borrow_keeps _ _ _ c.args.borrowing.page c.args.borrowing.brought _ refl refl refl)
