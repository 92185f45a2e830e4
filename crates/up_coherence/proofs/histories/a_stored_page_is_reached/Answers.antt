use Rattle.up_coherence.proofs.StoredPages.{ran_stored, sync_leaves}
use Rattle.up_coherence.proofs.histories.a_stored_page_is_reached.Goals as goal

pub returns-clause-reached : goal.returns-clause-reached
returns-clause-reached c = ran_stored

pub returns-clause-sync : goal.returns-clause-sync
returns-clause-sync c = sync_leaves
