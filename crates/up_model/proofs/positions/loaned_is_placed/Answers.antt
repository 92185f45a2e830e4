use Rattle.up_model.proofs.PlacedMarks.{loaned_placed}
use Rattle.up_model.proofs.positions.loaned_is_placed.Goals as goal

pub returns : goal.returns
returns c = loaned_placed
