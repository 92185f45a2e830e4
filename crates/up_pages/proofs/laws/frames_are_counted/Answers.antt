use Rattle.up_pages.proofs.HeldCounts.{of_one_kind}
use Rattle.up_pages.proofs.laws.frames_are_counted.Goals as goal

pub returns-clause-each : goal.returns-clause-each
returns-clause-each c = of_one_kind
