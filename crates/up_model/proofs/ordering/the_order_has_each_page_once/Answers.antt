use Rattle.up_model.proofs.Ordered.{order_once, order_rises}
use Rattle.up_model.proofs.ordering.the_order_has_each_page_once.Goals as goal

pub returns-clause-once : goal.returns-clause-once
returns-clause-once c = order_once

pub returns-clause-rises : goal.returns-clause-rises
returns-clause-rises c = order_rises
