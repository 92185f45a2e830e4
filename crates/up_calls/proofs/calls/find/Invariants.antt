use Rattle.std.proofs.Common.{◌≡◌, length}
use Rattle.up_calls.specs.Calls.{first_call}
use Rattle.up_calls.proofs.calls.find.Given as goal

-- none of the kinds before the rest fits
abbrev pub invariant-loop-rest : goal.invariant-loop-rest
invariant-loop-rest l = first_call l.rest l.words ≡ first_call l.kinds l.words

abbrev pub decreases-loop-rest : goal.decreases-loop-rest
decreases-loop-rest l = length l.rest
