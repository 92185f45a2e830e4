use Rattle.up_live.proofs.SyncSteps.{way_begins}
use Rattle.up_live.proofs.live.Live.survey.Goals as goal

pub returns-clause-ok : goal.returns-clause-ok
returns-clause-ok g c =
    way_begins c.args.self.now.opening.whole.birth c.args.who c.args.seat.now.told c.still.new.seat.told c.args.pass.now
    c.still.new.pass c.in-Surveyed.set _ c.requires.free c.in-Surveyed.is c.in_ok-set.ensures.ok
