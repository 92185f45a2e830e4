use Rattle.std.proofs.Common.{sym, arith}
use Rattle.up_worker.proofs.PieceAt.{piece_there, piece_past, piece_is}
use Rattle.up_worker.proofs.line_calls.piece_at.Goals as goal

pub returns-then-place-count-clause-piece : goal.returns-then-place-count-clause-piece
returns-then-place-count-clause-piece c = sym (piece_past c.args.off c.args.len c.args.place (omega arith) (omega arith))

pub returns-clause-piece : goal.returns-clause-piece
returns-clause-piece c =
    piece_is c.args.off c.args.len c.args.place c.max-from.result c.min-to.result
    (piece_there c.args.off c.args.len c.args.place (omega arith) (omega arith)) c.max-from.ensures c.min-to.ensures
