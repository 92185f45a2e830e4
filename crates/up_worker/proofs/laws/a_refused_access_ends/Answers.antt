use Rattle.up_worker.proofs.AfterWishes.{ends_refused}
use Rattle.up_worker.proofs.laws.a_refused_access_ends.Goals as goal

pub returns : goal.returns
returns c = ends_refused
