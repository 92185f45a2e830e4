use Rattle.std.proofs.Common.{◌≡◌, reverse, take}
use Rattle.up_model.specs.Use as used
use Rattle.up_facts.proofs.uses.last_use.Given as goal

abbrev pub invariant-loop-place : goal.invariant-loop-place
invariant-loop-place l = l.last ≡ used.last_use l.fn.birth (reverse (take l.place l.before)) l.page
