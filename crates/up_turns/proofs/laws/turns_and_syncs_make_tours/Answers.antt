use Rattle.up_turns.proofs.LineTours.{turns_toured, syncs_toured, waits_without}
use Rattle.up_turns.proofs.laws.turns_and_syncs_make_tours.Goals as goal

pub returns-clause-turns : goal.returns-clause-turns
returns-clause-turns c = turns_toured

pub returns-clause-syncs : goal.returns-clause-syncs
returns-clause-syncs c = syncs_toured

pub returns-clause-waits : goal.returns-clause-waits
returns-clause-waits c = waits_without
