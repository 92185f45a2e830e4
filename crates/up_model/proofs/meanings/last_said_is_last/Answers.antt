use Rattle.up_model.proofs.LastSaid.{last_said_is_last}
use Rattle.up_model.proofs.meanings.last_said_is_last.Goals as goal

pub returns : goal.returns
returns c = last_said_is_last
