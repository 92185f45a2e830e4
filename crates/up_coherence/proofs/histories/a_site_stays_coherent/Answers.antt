use Rattle.up_coherence.proofs.Runs.{ran_coherent}
use Rattle.up_coherence.proofs.histories.a_site_stays_coherent.Goals as goal

pub returns : goal.returns
returns c = ran_coherent
