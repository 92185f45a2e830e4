use Rattle.up_core.proofs.Enough.{only_for_enough, enough_suffices}
use Rattle.up_core.proofs.laws.replies_ask_only_for_enough.Goals as goal

pub returns-clause-once : goal.returns-clause-once
returns-clause-once c = only_for_enough

pub returns-clause-enough : goal.returns-clause-enough
returns-clause-enough c = enough_suffices
