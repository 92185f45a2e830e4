use Rattle.std.proofs.Common.{rules}
use Rattle.up_turn.proofs.Keeps.{looks}
use Rattle.up_turn.proofs.turn.Turn.look.Goals as goal

pub load-requires : goal.load-requires
load-requires g c = (search rules, search rules, looks _ _ _ _ _ _)
