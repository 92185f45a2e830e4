use Rattle.up_claims.proofs.ClaimLists.{claims_are, claims_once}
use Rattle.up_claims.proofs.laws.the_list_has_each_claim.Goals as goal

pub returns-clause-are : goal.returns-clause-are
returns-clause-are c = claims_are

pub returns-clause-once : goal.returns-clause-once
returns-clause-once c = claims_once
