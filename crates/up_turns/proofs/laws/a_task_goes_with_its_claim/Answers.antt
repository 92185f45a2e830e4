use Rattle.up_turns.proofs.Suiting.{next_suits, next_sync_suits, asking_stays, evicts_stay, others_stay}
use Rattle.up_turns.proofs.laws.a_task_goes_with_its_claim.Goals as goal

pub returns-clause-worker : goal.returns-clause-worker
returns-clause-worker c = next_suits

pub returns-clause-sync : goal.returns-clause-sync
returns-clause-sync c = next_sync_suits

pub returns-clause-asking : goal.returns-clause-asking
returns-clause-asking c = asking_stays

pub returns-clause-evicts : goal.returns-clause-evicts
returns-clause-evicts c = evicts_stay

pub returns-clause-others : goal.returns-clause-others
returns-clause-others c = others_stay
