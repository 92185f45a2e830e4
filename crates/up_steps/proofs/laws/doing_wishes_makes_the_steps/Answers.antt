use Rattle.up_steps.proofs.LineBlocks.{steps_follow}
use Rattle.up_steps.proofs.laws.doing_wishes_makes_the_steps.Goals as goal

pub returns : goal.returns
returns c = steps_follow
