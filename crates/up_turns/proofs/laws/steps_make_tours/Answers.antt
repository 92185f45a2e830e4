use Rattle.up_turns.proofs.TourSteps.{step_on_tour}
use Rattle.up_turns.proofs.laws.steps_make_tours.Goals as goal

pub returns : goal.returns
returns c = step_on_tour
