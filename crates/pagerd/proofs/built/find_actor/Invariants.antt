use Rattle.std.proofs.Common.{◌≡◌, drop}
use Rattle.pagerd.specs.Built.{first_failing, is_built_actor, actor_number}
use Rattle.pagerd.proofs.built.find_actor.Given as goal

abbrev pub invariant-loop-actor : goal.invariant-loop-actor
invariant-loop-actor l = first_failing is_built_actor actor_number (drop l.actor-index l.actors) ≡ first_failing is_built_actor actor_number l.actors
