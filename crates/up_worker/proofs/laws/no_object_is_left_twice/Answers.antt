use Rattle.up_worker.proofs.AfterWishes.{leaves_once}
use Rattle.up_worker.proofs.laws.no_object_is_left_twice.Goals as goal

pub returns : goal.returns
returns c = leaves_once
