use Rattle.up_coherence.proofs.SyncPromise.{reached_now}
use Rattle.up_coherence.proofs.LastRest.{reached_stored}
use Rattle.up_coherence.proofs.promises.what_is_written_back_is_reached.Goals as goal

pub returns-clause-rests : goal.returns-clause-rests
returns-clause-rests c = reached_now

pub returns-clause-stored : goal.returns-clause-stored
returns-clause-stored c = reached_stored
