use Rattle.up_coherence.proofs.CoherentSteps.{hands_change}
use Rattle.up_coherence.proofs.laws.hands_matter_where_claimed.Goals as goal

pub returns : goal.returns
returns c = hands_change
