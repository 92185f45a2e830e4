use Rattle.up_span.proofs.Ranges.{run_is}
use Rattle.up_span.proofs.laws.a_run_goes_on_while_pages_pass.Goals as goal

pub returns : goal.returns
returns c = run_is
