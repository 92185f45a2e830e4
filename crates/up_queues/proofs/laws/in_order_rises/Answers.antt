use Rattle.up_queues.proofs.OrderedItems.{rises}
use Rattle.up_queues.proofs.laws.in_order_rises.Goals as goal

pub returns : goal.returns
returns c = rises
