use Rattle.up_bank.proofs.ReturnLaws.{one_history}
use Rattle.up_bank.proofs.laws.one_history.Goals as goal

pub returns : goal.returns
returns c = one_history
