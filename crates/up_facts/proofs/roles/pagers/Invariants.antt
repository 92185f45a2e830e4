use Rattle.std.proofs.Common.{◌≡◌, reverse, take}
use Rattle.up_model.specs.Roles as roles
use Rattle.up_facts.proofs.roles.pagers.Given as goal

abbrev pub invariant-loop-place : goal.invariant-loop-place
invariant-loop-place l = l.count ≡ roles.pagers l.fn.birth (reverse (take l.place l.before))
