use Rattle.std.proofs.Common.{refl}
use Rattle.up_reclaim.proofs.Borrows.{borrow_lends}
use Rattle.up_reclaim.proofs.borrowing.lend.Goals as goal

pub reframe-requires-clause-reframes : goal.reframe-requires-clause-reframes
reframe-requires-clause-reframes c = rw (c.in-Ok.ensures.ok, c.entry-entry.ensures, c.call.ensures)
    (borrow_lends _ _ _ c.args.borrowing.page c.args.borrowing.brought c.is_legal.ensures refl refl c.requires.there c.requires.clean)
