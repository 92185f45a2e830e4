use Rattle.up_model.proofs.RecursionMeanings.{tickets_counted}
use Rattle.up_model.proofs.meanings.tickets_are_counted.Goals as goal

pub returns : goal.returns
returns c = tickets_counted
