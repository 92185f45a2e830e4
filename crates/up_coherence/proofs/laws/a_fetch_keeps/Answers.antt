use Rattle.up_coherence.proofs.Firmness.{firm_fetched}
use Rattle.up_coherence.proofs.CoherentSteps.{coherent_fetched}
use Rattle.up_coherence.proofs.laws.a_fetch_keeps.Goals as goal

pub returns-clause-firm : goal.returns-clause-firm
returns-clause-firm c = firm_fetched

pub returns-clause-coherent : goal.returns-clause-coherent
returns-clause-coherent c = coherent_fetched
