use Rattle.up_model.proofs.Placed.{settled_placed}
use Rattle.up_model.proofs.positions.settled_is_placed.Goals as goal

pub returns : goal.returns
returns c = settled_placed
