use Rattle.up_coherence.proofs.Runs.{ran_dated, ran_copy, ran_block}
use Rattle.up_coherence.proofs.histories.what_a_stop_leaves_is_dated.Goals as goal

pub returns-clause-left : goal.returns-clause-left
returns-clause-left c = ran_dated

pub returns-clause-copy : goal.returns-clause-copy
returns-clause-copy c = ran_copy

pub returns-clause-block : goal.returns-clause-block
returns-clause-block c = ran_block
