use Rattle.up_bank.proofs.ReturnLaws.{home_or_out}
use Rattle.up_bank.proofs.laws.home_or_out.Goals as goal

pub returns : goal.returns
returns c = home_or_out
