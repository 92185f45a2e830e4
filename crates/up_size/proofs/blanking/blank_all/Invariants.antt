use Rattle.std.proofs.Common.{◌≡◌}
use Rattle.up_object.specs.Change.{at_mark}
use Rattle.up_size.proofs.blanking.blank_all.Given as goal

abbrev pub invariant-loop-place : goal.invariant-loop-place
invariant-loop-place l = l.changing ≡ at_mark l._place l.fn.changing
