use Rattle.up_worker.proofs.BroughtFrames.{brings_gathered}
use Rattle.up_worker.proofs.laws.a_call_brings_what_was_gathered.Goals as goal

pub returns : goal.returns
returns c = brings_gathered
