use Rattle.up_model.proofs.ReadBytes.{reads_whole, reads_values}
use Rattle.up_model.proofs.meanings.a_read_gives_the_values.Goals as goal

pub returns-clause-whole : goal.returns-clause-whole
returns-clause-whole c = reads_whole

pub returns-clause-values : goal.returns-clause-values
returns-clause-values c = reads_values
