use Rattle.up_coherence.proofs.Firmness.{firm_copied}
use Rattle.up_coherence.proofs.CoherentSteps.{coherent_copied}
use Rattle.up_coherence.proofs.laws.a_copy_keeps.Goals as goal

pub returns-clause-firm : goal.returns-clause-firm
returns-clause-firm c = firm_copied

pub returns-clause-coherent : goal.returns-clause-coherent
returns-clause-coherent c = coherent_copied
