use Rattle.up_span.proofs.Ranges.{first_is}
use Rattle.up_span.proofs.laws.first_page_is_the_first.Goals as goal

pub returns : goal.returns
returns c = first_is
