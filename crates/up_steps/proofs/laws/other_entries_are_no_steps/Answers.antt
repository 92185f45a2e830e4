use Rattle.up_steps.proofs.SmallScript.{refuses_more, refuses_other, refuses_nothing, tells_no_others}
use Rattle.up_steps.proofs.laws.other_entries_are_no_steps.Goals as goal

pub returns-clause-more : goal.returns-clause-more
returns-clause-more c = refuses_more

pub returns-clause-other : goal.returns-clause-other
returns-clause-other c = refuses_other

pub returns-clause-nothing : goal.returns-clause-nothing
returns-clause-nothing c = refuses_nothing

pub returns-clause-untold : goal.returns-clause-untold
returns-clause-untold c = tells_no_others
