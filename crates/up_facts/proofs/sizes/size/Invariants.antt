use Rattle.std.proofs.Common.{◌≡◌, reverse, take}
use Rattle.up_model.specs.Size as sizes
use Rattle.up_facts.proofs.sizes.size.Given as goal

abbrev pub invariant-loop-place : goal.invariant-loop-place
invariant-loop-place l = l.pages ≡ sizes.size l.fn.birth (reverse (take l.place l.before))
