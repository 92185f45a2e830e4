use Rattle.up_model.proofs.HeldTickets.{waits_may_retry}
use Rattle.up_model.proofs.laws.who_waits_may_retry.Goals as goal

pub returns : goal.returns
returns c = waits_may_retry
