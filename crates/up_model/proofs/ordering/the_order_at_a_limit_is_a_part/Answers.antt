use Rattle.up_model.proofs.Ordered.{whole_loose, order_part}
use Rattle.up_model.proofs.ordering.the_order_at_a_limit_is_a_part.Goals as goal

pub returns-clause-whole : goal.returns-clause-whole
returns-clause-whole c = whole_loose

pub returns-clause-part : goal.returns-clause-part
returns-clause-part c = order_part
