use Rattle.up_model.proofs.Placed.{begun_by_placed}
use Rattle.up_model.proofs.positions.begun_by_is_placed.Goals as goal

pub returns : goal.returns
returns c = begun_by_placed
