use Rattle.std.proofs.Common.{◌∙◌, sym, arith, rules}
use Rattle.up_num.proofs.PiecesOfAccesses.{pieces_more}
use Rattle.up_num.proofs.pieces.PiecesIterator.next.Goals as goal

pub returns-clause-steps : goal.returns-clause-steps
returns-clause-steps c = sym c.self.view_is
    ∙ rw c.from.ensures (pieces_more c.self.inside.off c.self.inside.len c.fitting-len.result (omega arith) c.fitting-len.ensures)

pub returns-clause-goes : goal.returns-clause-goes
returns-clause-goes c = rw (returns-clause-steps c) (search rules)
