use Rattle.up_steps.proofs.SmallScript.{is_one_threads, has_its_steps}
use Rattle.up_steps.proofs.laws.a_small_script_is_done_so.Goals as goal

pub returns-clause-happens : goal.returns-clause-happens
returns-clause-happens c = is_one_threads

pub returns-clause-steps : goal.returns-clause-steps
returns-clause-steps c = has_its_steps
