use Rattle.up_coherence.proofs.Durability.{reached_within, reached_grows, durable_grows, durable_reached}
use Rattle.up_coherence.proofs.promises.dates_never_fall.Goals as goal

pub returns-clause-within : goal.returns-clause-within
returns-clause-within c = reached_within

pub returns-clause-reached : goal.returns-clause-reached
returns-clause-reached c = reached_grows

pub returns-clause-durable : goal.returns-clause-durable
returns-clause-durable c = durable_grows

pub returns-clause-below : goal.returns-clause-below
returns-clause-below c = durable_reached
