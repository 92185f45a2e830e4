use Rattle.up_script.proofs.Faults.{first_is_named}
use Rattle.up_script.proofs.laws.the_first_fault_is_named.Goals as goal

pub returns-clause-first : goal.returns-clause-first
returns-clause-first c = first_is_named
