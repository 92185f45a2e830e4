use Rattle.up_model.proofs.PlacedUse.{generation_placed}
use Rattle.up_model.proofs.positions.generation_is_placed.Goals as goal

pub returns : goal.returns
returns c = generation_placed
