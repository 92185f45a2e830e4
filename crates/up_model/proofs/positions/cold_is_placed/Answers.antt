use Rattle.up_model.proofs.PlacedUse.{cold_placed}
use Rattle.up_model.proofs.positions.cold_is_placed.Goals as goal

pub returns : goal.returns
returns c = cold_placed
