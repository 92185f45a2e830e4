use Rattle.up_coherence.proofs.Firmness.{firm_begin}
use Rattle.up_coherence.proofs.CoherentSteps.{coherent_begin}
use Rattle.up_coherence.proofs.laws.a_begin_keeps.Goals as goal

pub returns-clause-firm : goal.returns-clause-firm
returns-clause-firm c = firm_begin

pub returns-clause-coherent : goal.returns-clause-coherent
returns-clause-coherent c = coherent_begin
