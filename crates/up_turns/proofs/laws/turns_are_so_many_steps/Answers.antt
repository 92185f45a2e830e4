use Rattle.up_worker.specs.Thread.{exact}
use Rattle.up_turns.proofs.Turns.{turn_is_steps}
use Rattle.up_turns.proofs.laws.turns_are_so_many_steps.Goals as goal

pub returns : goal.returns
returns c = λ home loans objects. turn_is_steps (exact home loans objects)
