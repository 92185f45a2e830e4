use Rattle.up_span.proofs.Ranges.{lists_pass, lists_rise, counts_listed}
use Rattle.up_span.proofs.laws.pages_are_listed_in_order.Goals as goal

pub returns : goal.returns
returns c = record { pass = lists_pass; rise = lists_rise; counted = counts_listed }
