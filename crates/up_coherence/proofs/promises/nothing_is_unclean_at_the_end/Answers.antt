use Rattle.up_coherence.proofs.LastRest.{last_none, stays_clean, on_disk}
use Rattle.up_coherence.proofs.promises.nothing_is_unclean_at_the_end.Goals as goal

pub returns-clause-none : goal.returns-clause-none
returns-clause-none c = last_none

pub returns-clause-stays : goal.returns-clause-stays
returns-clause-stays c = stays_clean

pub returns-clause-blocks : goal.returns-clause-blocks
returns-clause-blocks c = on_disk
