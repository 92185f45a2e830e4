use Rattle.std.proofs.Common.{◌≡◌}
use Rattle.up_object.specs.Change.{at_mark}
use Rattle.up_object.proofs.changing.Changing.vanish_all.Given as goal

abbrev pub invariant-loop-place : goal.invariant-loop-place
invariant-loop-place l = l.self ≡ at_mark l._place l.fn.self
