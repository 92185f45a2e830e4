use Rattle.up_steps.proofs.ThreadCourses.{keeps_own_rules}
use Rattle.up_steps.proofs.laws.each_actor_keeps_the_rules.Goals as goal

pub returns : goal.returns
returns c = keeps_own_rules
