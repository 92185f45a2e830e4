use Rattle.up_model.proofs.PlacedMarks.{roles_counted}
use Rattle.up_model.proofs.positions.roles_are_counted.Goals as goal

pub returns : goal.returns
returns c = roles_counted
