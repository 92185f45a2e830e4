use Rattle.up_worker.proofs.AfterWishes.{retries}
use Rattle.up_worker.proofs.laws.a_ticket_is_retried.Goals as goal

pub returns : goal.returns
returns c = retries
