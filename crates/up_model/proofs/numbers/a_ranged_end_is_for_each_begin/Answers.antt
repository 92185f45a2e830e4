use Rattle.up_model.proofs.NumberLaws.{ranged_closes, ranged_settles, ranged_empties}
use Rattle.up_model.proofs.numbers.a_ranged_end_is_for_each_begin.Goals as goal

pub returns-clause-closes : goal.returns-clause-closes
returns-clause-closes c = ranged_closes

pub returns-clause-settles : goal.returns-clause-settles
returns-clause-settles c = ranged_settles

pub returns-clause-empties : goal.returns-clause-empties
returns-clause-empties c = ranged_empties
