use Rattle.up_fields.proofs.OneText.{range_back, range_only}
use Rattle.up_fields.proofs.laws.ranges_have_one_text.Goals as goal

pub returns : goal.returns
returns c = record { back = range_back; only = range_only }
