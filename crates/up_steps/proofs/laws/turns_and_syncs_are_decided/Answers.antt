use Rattle.up_steps.proofs.SameSteps.{turns_decide, syncs_decide, legal_turns_decide, legal_syncs_decide}
use Rattle.up_steps.proofs.laws.turns_and_syncs_are_decided.Goals as goal

pub returns-clause-turns : goal.returns-clause-turns
returns-clause-turns c = turns_decide

pub returns-clause-syncs : goal.returns-clause-syncs
returns-clause-syncs c = syncs_decide

pub returns-clause-legal_turns : goal.returns-clause-legal_turns
returns-clause-legal_turns c = legal_turns_decide

pub returns-clause-legal_syncs : goal.returns-clause-legal_syncs
returns-clause-legal_syncs c = legal_syncs_decide
