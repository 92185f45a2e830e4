use Rattle.up_words.proofs.ByteLists.{back, only}
use Rattle.up_words.proofs.laws.byte_lists_are_runs.Goals as goal

pub returns : goal.returns
returns c = record { back = back; only = only }
