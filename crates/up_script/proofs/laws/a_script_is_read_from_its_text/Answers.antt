use Rattle.up_script.proofs.OwnWhole.{text_back}
use Rattle.up_script.proofs.laws.a_script_is_read_from_its_text.Goals as goal

pub returns : goal.returns
returns c = text_back
