use Rattle.up_steps.proofs.LegalReplies.{lines_decide}
use Rattle.up_steps.proofs.LineSteps.{steps_decide}
use Rattle.up_steps.proofs.laws.the_steps_decide_the_entries.Goals as goal

pub returns-clause-steps : goal.returns-clause-steps
returns-clause-steps c = steps_decide

pub returns-clause-legal : goal.returns-clause-legal
returns-clause-legal c = lines_decide
