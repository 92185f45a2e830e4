use Rattle.up_coherence.proofs.Firmness.{firm_fail}
use Rattle.up_coherence.proofs.CoherentSteps.{coherent_fail}
use Rattle.up_coherence.proofs.laws.a_fail_keeps.Goals as goal

pub returns-clause-firm : goal.returns-clause-firm
returns-clause-firm c = firm_fail

pub returns-clause-coherent : goal.returns-clause-coherent
returns-clause-coherent c = coherent_fail
