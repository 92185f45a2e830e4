use Rattle.std.proofs.Common.{◌≡◌, ◌≤◌, length}
use Rattle.up_words.specs.Numbers.{digits_from}
use Rattle.up_words.proofs.numbers.digits.Given as goal

abbrev pub invariant-loop-rest : goal.invariant-loop-rest
invariant-loop-rest l = (digits_from l.limit l.value l.rest ≡ digits_from l.limit 0 l.word) × (l.value ≤ l.limit)

abbrev pub decreases-loop-rest : goal.decreases-loop-rest
decreases-loop-rest l = length l.rest
