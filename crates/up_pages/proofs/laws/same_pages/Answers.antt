use Rattle.up_pages.proofs.Places.{same_map}
use Rattle.up_pages.proofs.laws.same_pages.Goals as goal

pub returns : goal.returns
returns c = same_map
