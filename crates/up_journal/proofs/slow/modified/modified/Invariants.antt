use Rattle.std.proofs.Common.{◌≡◌, reverse, take}
use Rattle.up_model.specs.Modified as changes
use Rattle.up_journal.proofs.slow.modified.modified.Given as goal

abbrev pub invariant-loop-place : goal.invariant-loop-place
invariant-loop-place l = l.found ≡ changes.modified l.fn.birth (reverse (take l.place l.before))
