use Rattle.up_model.proofs.NumberLaws.{empties_settled}
use Rattle.up_model.proofs.numbers.an_end_empties_what_it_settles.Goals as goal

pub returns : goal.returns
returns c = empties_settled
