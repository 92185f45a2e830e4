use Rattle.std.proofs.Common.{ap}
use Rattle.up_claims.specs.Sited.{fits}
use Rattle.up_live.proofs.Going.{claim_on}
use Rattle.up_live.proofs.laws.claims_stay.Goals as goal

pub returns-clause-claim : goal.returns-clause-claim
returns-clause-claim c = λ before now who. claim_on who before now

pub returns-clause-fits : goal.returns-clause-fits
returns-clause-fits c = λ before now who step brought o. ap (λ claim. fits step claim brought) (claim_on who before now o)
