use Rattle.up_bank.proofs.ReturnLaws.{last_return_counts}
use Rattle.up_bank.proofs.laws.last_return_counts.Goals as goal

pub returns : goal.returns
returns c = last_return_counts
