use Rattle.up_coherence.proofs.Firmness.{firm_quiet}
use Rattle.up_coherence.proofs.CoherentSteps.{coherent_quiet}
use Rattle.up_coherence.proofs.laws.a_quiet_entry_keeps.Goals as goal

pub returns-clause-firm : goal.returns-clause-firm
returns-clause-firm c = firm_quiet

pub returns-clause-coherent : goal.returns-clause-coherent
returns-clause-coherent c = coherent_quiet
