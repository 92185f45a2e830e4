use Rattle.std.proofs.Common.{◌≡◌, reverse, take}
use Rattle.up_model.specs.Roles as roles
use Rattle.up_facts.proofs.roles.users.Given as goal

abbrev pub invariant-loop-place : goal.invariant-loop-place
invariant-loop-place l = l.count ≡ roles.users l.fn.birth (reverse (take l.place l.before))
