use Rattle.up_queues.proofs.OrderedItems.{same}
use Rattle.up_queues.proofs.laws.same_queue.Goals as goal

pub returns : goal.returns
returns c = same
