use Rattle.up_model.proofs.RecursionMeanings.{size_is_last}
use Rattle.up_model.proofs.meanings.the_size_is_the_last_resize.Goals as goal

pub returns : goal.returns
returns c = size_is_last
