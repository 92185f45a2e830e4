use Rattle.up_model.proofs.Placed.{begun_placed}
use Rattle.up_model.proofs.positions.begun_is_placed.Goals as goal

pub returns : goal.returns
returns c = begun_placed
