use Rattle.up_worker.proofs.AfterWishes.{goes_on, asks_again}
use Rattle.up_worker.proofs.laws.a_settled_call_is_not_asked_again.Goals as goal

pub returns-clause-next : goal.returns-clause-next
returns-clause-next c = goes_on

pub returns-clause-same : goal.returns-clause-same
returns-clause-same c = asks_again
