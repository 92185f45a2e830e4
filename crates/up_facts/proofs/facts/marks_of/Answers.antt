use Rattle.up_facts.proofs.Lookback.{marks_none}
use Rattle.up_facts.proofs.facts.marks_of.Goals as goal

pub loop-place-init : goal.loop-place-init
loop-place-init c = marks_none _ _ _ c.no_marks-marks.ensures
