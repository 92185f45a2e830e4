use Rattle.std.proofs.Common.{sym}
use Rattle.up_model.proofs.Equations.{value_none}
use Rattle.up_facts.proofs.Lookback.{marks_none}
use Rattle.up_facts.proofs.facts.value.Goals as goal

pub loop-place-init : goal.loop-place-init
loop-place-init c = (marks_none _ _ _ c.no_marks-marks.ensures, sym (value_none _ _))
