use Rattle.up_steps.proofs.WorkedScripts.{waits_are_steps, changes_are_steps, loans_are_steps, reliefs_are_steps}
use Rattle.up_steps.proofs.laws.worked_scripts_have_their_steps.Goals as goal

pub returns-clause-waits : goal.returns-clause-waits
returns-clause-waits c = waits_are_steps

pub returns-clause-changes : goal.returns-clause-changes
returns-clause-changes c = changes_are_steps

pub returns-clause-loans : goal.returns-clause-loans
returns-clause-loans c = loans_are_steps

pub returns-clause-reliefs : goal.returns-clause-reliefs
returns-clause-reliefs c = reliefs_are_steps
