use Rattle.up_model.proofs.NumberLaws.{counts_by_number}
use Rattle.up_model.proofs.numbers.a_begin_counts_by_its_number.Goals as goal

pub returns : goal.returns
returns c = counts_by_number
