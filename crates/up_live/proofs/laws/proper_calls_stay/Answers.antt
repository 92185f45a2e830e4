use Rattle.up_live.proofs.Going.{proper_since}
use Rattle.up_live.proofs.laws.proper_calls_stay.Goals as goal

pub returns : goal.returns
returns c = λ birth before now who call. proper_since birth before now who call
