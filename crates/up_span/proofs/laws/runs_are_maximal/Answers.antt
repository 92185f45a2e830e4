use Rattle.up_span.proofs.Apart.{all_apart, all_hold}
use Rattle.up_span.proofs.laws.runs_are_maximal.Goals as goal

pub returns : goal.returns
returns c = record { apart = all_apart; hold = all_hold }
