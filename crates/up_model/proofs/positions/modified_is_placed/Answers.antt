use Rattle.up_model.proofs.PlacedMarks.{modified_placed}
use Rattle.up_model.proofs.positions.modified_is_placed.Goals as goal

pub returns : goal.returns
returns c = modified_placed
