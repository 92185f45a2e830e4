use Rattle.up_model.proofs.WaitersAsked.{waiter_asked}
use Rattle.up_model.proofs.meanings.who_waits_has_asked.Goals as goal

pub returns : goal.returns
returns c = waiter_asked
