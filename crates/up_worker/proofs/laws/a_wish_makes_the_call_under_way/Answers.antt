use Rattle.up_worker.proofs.AfterWishes.{makes_under_way}
use Rattle.up_worker.proofs.laws.a_wish_makes_the_call_under_way.Goals as goal

pub returns : goal.returns
returns c = makes_under_way
