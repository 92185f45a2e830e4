use Rattle.std.proofs.Common.{◌≡◌, reverse, take}
use Rattle.up_model.specs.Numbers as numbering
use Rattle.up_journal.proofs.slow.numbers.has_begun.Given as goal

abbrev pub invariant-loop-place : goal.invariant-loop-place
invariant-loop-place l = l.found ≡ numbering.has_begun (reverse (take l.place l.before)) l.fn.number
