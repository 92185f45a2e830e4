use Rattle.up_model.proofs.PlacedTickets.{wakes_placed}
use Rattle.up_model.proofs.positions.wakes_is_placed.Goals as goal

pub returns : goal.returns
returns c = wakes_placed
