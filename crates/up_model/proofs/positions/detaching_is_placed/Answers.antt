use Rattle.up_model.proofs.Detaching.{detaching_placed}
use Rattle.up_model.proofs.positions.detaching_is_placed.Goals as goal

pub returns : goal.returns
returns c = detaching_placed
