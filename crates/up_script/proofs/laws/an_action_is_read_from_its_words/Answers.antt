use Rattle.up_script.proofs.OwnActions.{action_again}
use Rattle.up_script.proofs.OwnWords.{action_takes}
use Rattle.up_script.proofs.laws.an_action_is_read_from_its_words.Goals as goal

pub returns : goal.returns
returns c = record { back = action_again; only = action_takes }
