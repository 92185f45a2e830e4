use Rattle.up_coherence.proofs.NewestReads.{reads_newest}
use Rattle.up_coherence.proofs.laws.a_read_is_newest.Goals as goal

pub returns : goal.returns
returns c = reads_newest
