use Rattle.std.proofs.Common.{◌≡◌, reverse, take}
use Rattle.up_model.specs.Pins as pinned
use Rattle.up_facts.proofs.pinning.always.Given as goal

abbrev pub invariant-loop-place : goal.invariant-loop-place
invariant-loop-place l = l.found ≡ pinned.always l.fn.birth (reverse (take l.place l.before)) l.page
