use Rattle.std.proofs.Common.{rules}
use Rattle.up_clock.proofs.Keeps.{looks}
use Rattle.up_clock.proofs.clock.Clock.now.Goals as goal

pub load-requires : goal.load-requires
load-requires c = (search rules, search rules, looks _ _ _)
