use Rattle.up_coherence.proofs.SyncPromise.{syncing_survey, syncing_more, syncing_less, syncing_clear, syncing_flushed}
use Rattle.up_coherence.proofs.promises.a_sync_keeps_its_promise.Goals as goal

pub returns-clause-begins : goal.returns-clause-begins
returns-clause-begins c = syncing_survey

pub returns-clause-more : goal.returns-clause-more
returns-clause-more c = syncing_more

pub returns-clause-less : goal.returns-clause-less
returns-clause-less c = syncing_less

pub returns-clause-clear : goal.returns-clause-clear
returns-clause-clear c = syncing_clear

pub returns-clause-flushed : goal.returns-clause-flushed
returns-clause-flushed c = syncing_flushed
