use Rattle.up_claims.proofs.ClaimLists.{over_is}
use Rattle.up_claims.proofs.laws.the_claim_over_a_page_is_the_holders.Goals as goal

pub returns : goal.returns
returns c = over_is
