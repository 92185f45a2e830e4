use Rattle.up_turn.proofs.TurnLaws.{numbers_apart}
use Rattle.up_turn.proofs.laws.numbers_apart.Goals as goal

pub returns : goal.returns
returns g c = numbers_apart _ _
