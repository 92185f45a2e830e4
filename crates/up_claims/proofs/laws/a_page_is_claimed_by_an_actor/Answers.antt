use Rattle.up_claims.proofs.ClaimLists.{unclaimed, held_claimed, over_claimed}
use Rattle.up_claims.proofs.laws.a_page_is_claimed_by_an_actor.Goals as goal

pub returns-clause-free : goal.returns-clause-free
returns-clause-free c = unclaimed

pub returns-clause-held : goal.returns-clause-held
returns-clause-held c = held_claimed

pub returns-clause-over : goal.returns-clause-over
returns-clause-over c = over_claimed
