use Rattle.std.proofs.Common.{◌≡◌, [], drop}
use Rattle.up_words.specs.ReadSteps.{each}
use Rattle.up_script.specs.Declarations.{bind_step}
use Rattle.up_script.proofs.declarations.read_bindings.Given as goal

abbrev pub invariant-loop-at : goal.invariant-loop-at
invariant-loop-at l = each (bind_step l.declared) l.bound (drop l.at l.words) ≡ each (bind_step l.declared) [] (drop 2 l.words)
