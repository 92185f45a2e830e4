use Rattle.up_model.proofs.RecursionMeanings.{woken_complete, woken_rises}
use Rattle.up_model.proofs.meanings.the_woken_list_is_complete.Goals as goal

pub returns-clause-complete : goal.returns-clause-complete
returns-clause-complete c = woken_complete

pub returns-clause-rises : goal.returns-clause-rises
returns-clause-rises c = woken_rises
