use Rattle.up_object.proofs.CallEnds.{own_move}
use Rattle.up_object.proofs.closing.move_one.Goals as goal

pub returns-in-Some-clause-own : goal.returns-in-Some-clause-own
returns-in-Some-clause-own c = λ banks given back. own_move banks _ _ _ _ c.in-Some.frame c.in-Some.ensures.items c.put.ensures.items given back
