use Rattle.up_model.proofs.PlacedTickets.{outcome_placed}
use Rattle.up_model.proofs.positions.outcome_is_placed.Goals as goal

pub returns : goal.returns
returns c = outcome_placed
