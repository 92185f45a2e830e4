use Rattle.std.specs.Prelude.{vec_capacity}
use Rattle.up_queues.proofs.QueuesAfterCalls.{empty}
use Rattle.up_queues.proofs.queues.Queues.new.Goals as goal

pub invariant_of-result : goal.invariant_of-result
invariant_of-result c = empty c.empty_lists.result c.new.result.items (vec_capacity c.new.result) c.empty_lists.ensures.slots c.empty_lists.ensures.cold c.empty_lists.ensures.others c.new.ensures.items
