use Rattle.up_model.proofs.Placed.{marked_placed}
use Rattle.up_model.proofs.positions.marked_is_placed.Goals as goal

pub returns : goal.returns
returns c = marked_placed
