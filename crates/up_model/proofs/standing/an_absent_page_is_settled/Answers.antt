use Rattle.up_model.proofs.StateParts.{absent_settled}
use Rattle.up_model.proofs.standing.an_absent_page_is_settled.Goals as goal

pub returns : goal.returns
returns c = absent_settled
