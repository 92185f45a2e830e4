use Rattle.up_coherence.proofs.Firmness.{firm_resize}
use Rattle.up_coherence.proofs.CoherentSteps.{coherent_resize}
use Rattle.up_coherence.proofs.laws.a_resize_keeps.Goals as goal

pub returns-clause-firm : goal.returns-clause-firm
returns-clause-firm c = firm_resize

pub returns-clause-coherent : goal.returns-clause-coherent
returns-clause-coherent c = coherent_resize
