use Rattle.std.proofs.Common.{◌≡◌, length}
use Rattle.up_text.specs.Reading.{has_name}
use Rattle.up_text.proofs.births.knows.Given as goal

-- none of the journals before the rest has the name
abbrev pub invariant-loop-rest : goal.invariant-loop-rest
invariant-loop-rest l = has_name l.rest l.name ≡ has_name l.journals l.name

abbrev pub decreases-loop-rest : goal.decreases-loop-rest
decreases-loop-rest l = length l.rest
