use Rattle.up_model.proofs.PlacedUse.{use_placed}
use Rattle.up_model.proofs.positions.use_is_placed.Goals as goal

pub returns : goal.returns
returns c = use_placed
