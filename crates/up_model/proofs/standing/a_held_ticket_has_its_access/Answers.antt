use Rattle.up_model.proofs.PacketsSent.{held_access}
use Rattle.up_model.proofs.standing.a_held_ticket_has_its_access.Goals as goal

pub returns : goal.returns
returns c = held_access
