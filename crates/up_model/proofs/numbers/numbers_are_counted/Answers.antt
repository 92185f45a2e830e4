use Rattle.up_model.proofs.NumberLaws.{numbers_counted, begun_below, unbegun_refused}
use Rattle.up_model.proofs.numbers.numbers_are_counted.Goals as goal

pub returns-clause-counted : goal.returns-clause-counted
returns-clause-counted c = numbers_counted

pub returns-clause-below : goal.returns-clause-below
returns-clause-below c = begun_below

pub returns-clause-refused : goal.returns-clause-refused
returns-clause-refused c = unbegun_refused
