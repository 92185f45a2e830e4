use Rattle.up_turn.proofs.TurnLaws.{entries_are_own}
use Rattle.up_turn.proofs.laws.entries_are_own.Goals as goal

pub returns : goal.returns
returns g c = entries_are_own _ _
