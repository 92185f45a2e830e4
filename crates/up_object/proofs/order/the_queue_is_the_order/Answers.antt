use Rattle.up_object.proofs.Reclaims.{queue_is_order, object_is_order}
use Rattle.up_object.proofs.order.the_queue_is_the_order.Goals as goal

pub returns-clause-one : goal.returns-clause-one
returns-clause-one c = queue_is_order

pub returns-clause-object : goal.returns-clause-object
returns-clause-object c = object_is_order
