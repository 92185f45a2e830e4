use Rattle.up_coherence.proofs.SoundSites.{sound_first, sound_more}
use Rattle.up_coherence.proofs.laws.all_promises_go_on.Goals as goal

pub returns-clause-first : goal.returns-clause-first
returns-clause-first c = sound_first

pub returns-clause-more : goal.returns-clause-more
returns-clause-more c = sound_more
