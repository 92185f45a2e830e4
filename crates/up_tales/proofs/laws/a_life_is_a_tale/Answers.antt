use Rattle.up_tales.proofs.Lived.{lives_a_tale}
use Rattle.up_tales.proofs.laws.a_life_is_a_tale.Goals as goal

pub returns : goal.returns
returns c = lives_a_tale
