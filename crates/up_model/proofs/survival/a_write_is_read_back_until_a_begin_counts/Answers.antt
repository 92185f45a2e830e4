use Rattle.up_model.proofs.WritesSurvive.{stays_unbegun}
use Rattle.up_model.proofs.ReadBack.{read_back}
use Rattle.up_model.proofs.survival.a_write_is_read_back_until_a_begin_counts.Goals as goal

pub returns-clause-stays : goal.returns-clause-stays
returns-clause-stays c = stays_unbegun

pub returns-clause-read : goal.returns-clause-read
returns-clause-read c = read_back
