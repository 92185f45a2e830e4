use Rattle.up_model.proofs.RecursionMeanings.{newest_is_last}
use Rattle.up_model.proofs.meanings.the_newest_byte_is_the_last.Goals as goal

pub returns : goal.returns
returns c = newest_is_last
