use Rattle.up_worker.proofs.AfterWishes.{gathers_after_needs}
use Rattle.up_worker.proofs.laws.frames_are_gathered_for_a_need.Goals as goal

pub returns : goal.returns
returns c = gathers_after_needs
