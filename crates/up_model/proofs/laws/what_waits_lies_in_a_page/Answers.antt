use Rattle.up_model.proofs.WaitLaws.{parked_within}
use Rattle.up_model.proofs.laws.what_waits_lies_in_a_page.Goals as goal

pub returns : goal.returns
returns c = parked_within
