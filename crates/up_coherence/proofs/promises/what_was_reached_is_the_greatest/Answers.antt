use Rattle.up_coherence.proofs.Greatest.{reached_greatest, reached_counts}
use Rattle.up_coherence.proofs.promises.what_was_reached_is_the_greatest.Goals as goal

pub returns-clause-greatest : goal.returns-clause-greatest
returns-clause-greatest c = reached_greatest

pub returns-clause-counts : goal.returns-clause-counts
returns-clause-counts c = reached_counts
