use Rattle.std.proofs.Common.{rules}
use Rattle.up_clock.proofs.Keeps.{joins}
use Rattle.up_clock.proofs.clock.Clock.join.Goals as goal

pub join_seat-requires : goal.join_seat-requires
join_seat-requires c = (search rules, search rules, search rules, search rules, joins _ _ _ _)
