use Rattle.up_turn.proofs.TurnLaws.{one_history}
use Rattle.up_turn.proofs.laws.one_history.Goals as goal

pub returns : goal.returns
returns g c = one_history _ _
