use Rattle.std.proofs.Common.{subst, refl}
use Rattle.pagerd.specs.Commands.{Asks}
use Rattle.pagerd.specs.Outputs.{by_seed}
use Rattle.pagerd.proofs.top.answer.Goals as goal

pub returns-in-Ok-clause-answers : goal.returns-in-Ok-clause-answers
returns-in-Ok-clause-answers g c =
    λ words asked. (by_seed c.in-Gen.seed (subst (Asks words) c.in-Gen.is asked) c.in-Ok.ensures, refl)
