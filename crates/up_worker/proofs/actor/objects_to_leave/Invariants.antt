use Rattle.std.proofs.Common.{◌≡◌, not, take, filter}
use Rattle.up_worker.specs.Acting.{has}
use Rattle.up_worker.proofs.actor.objects_to_leave.Given as goal

-- those of the objects so far that weren't left
abbrev pub invariant-loop-object : goal.invariant-loop-object
invariant-loop-object l = l.found ≡ filter (λ object. not (has l.left object)) (take l.object-index l.objects)
