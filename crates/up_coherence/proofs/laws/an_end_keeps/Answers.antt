use Rattle.up_coherence.proofs.Firmness.{firm_end}
use Rattle.up_coherence.proofs.CoherentSteps.{coherent_end}
use Rattle.up_coherence.proofs.laws.an_end_keeps.Goals as goal

pub returns-clause-firm : goal.returns-clause-firm
returns-clause-firm c = firm_end

pub returns-clause-coherent : goal.returns-clause-coherent
returns-clause-coherent c = coherent_end
