use Rattle.up_model.proofs.StatePartLaws.{plain_not_clean}
use Rattle.up_model.proofs.standing.a_zero_page_is_not_clean.Goals as goal

pub returns : goal.returns
returns c = plain_not_clean
