use Rattle.up_span.proofs.Apart.{same_runs}
use Rattle.up_span.proofs.laws.one_set_is_one_list.Goals as goal

pub returns : goal.returns
returns c = same_runs 0
