use Rattle.up_model.proofs.Placing.{last_position_is_last}
use Rattle.up_model.proofs.positions.last_position_is_last.Goals as goal

pub returns : goal.returns
returns c = last_position_is_last
