use Rattle.std.proofs.Common.{◌≡◌}
use Rattle.up_object.specs.OneCall.{further}
use Rattle.up_clean.proofs.ending.end_pages.Given as goal

abbrev pub invariant-loop-place : goal.invariant-loop-place
invariant-loop-place l = l.changing ≡ further l._place l.fn.changing
