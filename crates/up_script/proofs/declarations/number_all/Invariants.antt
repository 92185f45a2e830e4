use Rattle.std.proofs.Common.{◌≡◌}
use Rattle.up_script.specs.Declarations.{first_numbers}
use Rattle.up_script.proofs.declarations.number_all.Given as goal

abbrev pub invariant-loop-number : goal.invariant-loop-number
invariant-loop-number l = l.numbers ≡ first_numbers l.number
