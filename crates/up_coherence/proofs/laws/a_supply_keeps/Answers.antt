use Rattle.up_coherence.proofs.Firmness.{firm_supply}
use Rattle.up_coherence.proofs.CoherentSteps.{coherent_supply}
use Rattle.up_coherence.proofs.laws.a_supply_keeps.Goals as goal

pub returns-clause-firm : goal.returns-clause-firm
returns-clause-firm c = firm_supply

pub returns-clause-coherent : goal.returns-clause-coherent
returns-clause-coherent c = coherent_supply
