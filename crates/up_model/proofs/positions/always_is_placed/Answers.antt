use Rattle.up_model.proofs.PlacedMarks.{always_placed}
use Rattle.up_model.proofs.positions.always_is_placed.Goals as goal

pub returns : goal.returns
returns c = always_placed
