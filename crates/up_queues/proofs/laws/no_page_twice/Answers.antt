use Rattle.up_queues.proofs.OrderedItems.{no_other}
use Rattle.up_queues.proofs.laws.no_page_twice.Goals as goal

pub returns : goal.returns
returns c = no_other
