use Rattle.std.proofs.Common.{◌≡◌, drop}
use Rattle.pagerd.specs.Built.{first_failing, is_built_object, object_number}
use Rattle.pagerd.proofs.built.find_object.Given as goal

abbrev pub invariant-loop-object : goal.invariant-loop-object
invariant-loop-object l = first_failing is_built_object object_number (drop l.object-index l.objects) ≡ first_failing is_built_object object_number l.objects
