use Rattle.std.proofs.Common.{◌≡◌, reverse, take}
use Rattle.up_model.specs.Use as used
use Rattle.up_facts.proofs.uses.newest_epoch.Given as goal

abbrev pub invariant-loop-place : goal.invariant-loop-place
invariant-loop-place l = l.newest ≡ used.newest_epoch (reverse (take l.place l.before))
