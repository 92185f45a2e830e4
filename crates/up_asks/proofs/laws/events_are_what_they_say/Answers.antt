use Rattle.up_asks.proofs.Events.{same_events}
use Rattle.up_asks.proofs.laws.events_are_what_they_say.Goals as goal

pub returns : goal.returns
returns c = same_events
