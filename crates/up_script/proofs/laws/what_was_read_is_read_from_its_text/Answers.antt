use Rattle.up_script.proofs.OwnText.{own_text}
use Rattle.up_script.proofs.laws.what_was_read_is_read_from_its_text.Goals as goal

pub returns : goal.returns
returns c = own_text
