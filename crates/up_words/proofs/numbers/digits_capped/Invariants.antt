use Rattle.std.proofs.Common.{◌≡◌, ◌≤◌, length}
use Rattle.up_words.specs.Numbers.{digits_up_to}
use Rattle.up_words.proofs.numbers.digits_capped.Given as goal

abbrev pub invariant-loop-rest : goal.invariant-loop-rest
invariant-loop-rest l = (digits_up_to l.most l.value l.rest ≡ digits_up_to l.most 0 l.word) × (l.value ≤ l.most)

abbrev pub decreases-loop-rest : goal.decreases-loop-rest
decreases-loop-rest l = length l.rest
