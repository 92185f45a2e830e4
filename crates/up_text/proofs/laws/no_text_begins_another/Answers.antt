use Rattle.up_text.proofs.Prefixes.{none_begins}
use Rattle.up_text.proofs.laws.no_text_begins_another.Goals as goal

pub returns : goal.returns
returns c = none_begins
