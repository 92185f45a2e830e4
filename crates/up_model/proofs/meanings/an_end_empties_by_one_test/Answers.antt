use Rattle.up_model.proofs.Equations.{value_is}
use Rattle.up_model.proofs.RecursionMeanings.{emptying_frees}
use Rattle.up_model.proofs.meanings.an_end_empties_by_one_test.Goals as goal

pub returns-clause-bytes : goal.returns-clause-bytes
returns-clause-bytes c = value_is

pub returns-clause-waiters : goal.returns-clause-waiters
returns-clause-waiters c = emptying_frees
