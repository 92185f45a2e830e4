use Rattle.up_model.proofs.Ordered.{goes_order}
use Rattle.up_model.proofs.ordering.goes_before_is_an_order.Goals as goal

pub returns : goal.returns
returns c = goes_order
