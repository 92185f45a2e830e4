use Rattle.up_num.proofs.PiecesOfAccesses.{all_joined}
use Rattle.up_num.proofs.pieces.pieces_join.Goals as goal

pub returns : goal.returns
returns c = all_joined
