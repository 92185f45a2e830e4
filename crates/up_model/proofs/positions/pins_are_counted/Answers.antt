use Rattle.up_model.proofs.PinCounts.{pins_counted}
use Rattle.up_model.proofs.positions.pins_are_counted.Goals as goal

pub returns : goal.returns
returns c = pins_counted
