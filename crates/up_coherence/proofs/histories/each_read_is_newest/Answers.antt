use Rattle.up_coherence.proofs.Runs.{ran_reads}
use Rattle.up_coherence.proofs.histories.each_read_is_newest.Goals as goal

pub returns : goal.returns
returns c = ran_reads
