use Rattle.up_model.proofs.Placed.{asked_placed}
use Rattle.up_model.proofs.positions.asked_is_placed.Goals as goal

pub returns : goal.returns
returns c = asked_placed
