use Rattle.up_coherence.proofs.Firmness.{firm_stored}
use Rattle.up_coherence.proofs.CoherentSteps.{coherent_stored, coherent_store_failed}
use Rattle.up_coherence.proofs.laws.a_store_keeps.Goals as goal

pub returns-clause-firm : goal.returns-clause-firm
returns-clause-firm c = firm_stored

pub returns-clause-coherent : goal.returns-clause-coherent
returns-clause-coherent c = coherent_stored

pub returns-clause-failed : goal.returns-clause-failed
returns-clause-failed c = coherent_store_failed
