use Rattle.up_queues.proofs.FewItems.{few_pages}
use Rattle.up_queues.proofs.laws.pages_are_few.Goals as goal

pub returns : goal.returns
returns c = few_pages
