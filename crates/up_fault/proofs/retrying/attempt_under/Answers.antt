use Rattle.up_model.proofs.WaitersAsked.{parked_ends}
use Rattle.up_object.specs.Asks.{access_of}
use Rattle.up_fault.proofs.Retries.{order_so}
use Rattle.up_fault.proofs.retrying.attempt_under.Goals as goal

pub returns-clause-order : goal.returns-clause-order
returns-clause-order c = order_so _ _ (parked_ends c.args.object.now.birth c.args.object.now.journal c.is_legal.ensures c.args.ticket (access_of c.waiter-waiter.result.now) c.waiter-waiter.ensures.access)
