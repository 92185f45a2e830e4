use Rattle.std.proofs.Common.{rules}
use Rattle.up_turn.proofs.Passes.{joins}
use Rattle.up_turn.proofs.Keeps.{settles}
use Rattle.up_turn.proofs.turn.Turn.unite.Goals as goal

pub join_seat-requires : goal.join_seat-requires
join_seat-requires g c = (search rules, search rules, search rules, search rules, joins _ _ _ _ _ _ _ c.requires.outside.0)

pub load-requires : goal.load-requires
load-requires g c = (search rules, search rules, settles _ _ _ _ _ _)
