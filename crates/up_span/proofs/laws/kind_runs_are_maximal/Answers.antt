use Rattle.up_span.proofs.OfKind.{all_parted, all_in}
use Rattle.up_span.proofs.laws.kind_runs_are_maximal.Goals as goal

pub returns : goal.returns
returns c = record { parted = all_parted; hold = all_in }
