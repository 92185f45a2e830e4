use Rattle.up_model.proofs.NumberLaws.{ranged_numbers_none, each_begin_numbered}
use Rattle.up_model.proofs.numbers.numbered_objects_number_begins.Goals as goal

pub returns-clause-ranged : goal.returns-clause-ranged
returns-clause-ranged c = ranged_numbers_none

pub returns-clause-each : goal.returns-clause-each
returns-clause-each c = each_begin_numbered
