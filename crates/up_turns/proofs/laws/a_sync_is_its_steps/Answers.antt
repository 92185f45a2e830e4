use Rattle.up_worker.specs.Thread.{exact}
use Rattle.up_turns.proofs.Syncs.{sync_is_steps, sync_goes_on}
use Rattle.up_turns.proofs.laws.a_sync_is_its_steps.Goals as goal

pub returns : goal.returns
returns c = λ home loans objects. (sync_is_steps (exact home loans objects), sync_goes_on (exact home loans objects))
