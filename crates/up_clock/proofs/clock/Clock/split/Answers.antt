use Rattle.std.proofs.Common.{rules}
use Rattle.up_clock.proofs.Keeps.{splits}
use Rattle.up_clock.proofs.clock.Clock.split.Goals as goal

pub split_seat-second-requires : goal.split_seat-second-requires
split_seat-second-requires c = (search rules, search rules, splits _ _)
