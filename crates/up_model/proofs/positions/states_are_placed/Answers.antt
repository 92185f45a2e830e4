use Rattle.up_model.proofs.Placed.{states_placed}
use Rattle.up_model.proofs.positions.states_are_placed.Goals as goal

pub returns : goal.returns
returns c = states_placed
