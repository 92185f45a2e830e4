use Rattle.std.proofs.Common.{◌≡◌, reverse, take}
use Rattle.up_model.specs.Use as used
use Rattle.up_facts.proofs.uses.cold_since.Given as goal

abbrev pub invariant-loop-place : goal.invariant-loop-place
invariant-loop-place l = l.since ≡ used.cold_since l.fn.birth (reverse (take l.place l.before)) l.page
