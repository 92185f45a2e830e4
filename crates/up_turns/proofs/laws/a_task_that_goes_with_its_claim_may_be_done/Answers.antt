use Rattle.up_turns.proofs.Suiting.{step_fits, framed_step_fits}
use Rattle.up_turns.proofs.laws.a_task_that_goes_with_its_claim_may_be_done.Goals as goal

pub returns-clause-bare : goal.returns-clause-bare
returns-clause-bare c = step_fits

pub returns-clause-framed : goal.returns-clause-framed
returns-clause-framed c = framed_step_fits
