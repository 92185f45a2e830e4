use Rattle.up_model.proofs.PacketsSent.{packets_added, taken_sent}
use Rattle.up_model.proofs.standing.packets_are_added_at_the_end.Goals as goal

pub returns-clause-added : goal.returns-clause-added
returns-clause-added c = packets_added

pub returns-clause-taken : goal.returns-clause-taken
returns-clause-taken c = taken_sent
