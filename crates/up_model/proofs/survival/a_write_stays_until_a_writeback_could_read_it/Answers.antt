use Rattle.up_model.proofs.WritesSurvive.{survives}
use Rattle.up_model.proofs.survival.a_write_stays_until_a_writeback_could_read_it.Goals as goal

pub returns : goal.returns
returns c = survives
