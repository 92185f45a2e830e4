use Rattle.up_model.proofs.Detaching.{detaching_is}
use Rattle.up_model.proofs.positions.detaching_is_the_step.Goals as goal

pub returns : goal.returns
returns c = detaching_is
