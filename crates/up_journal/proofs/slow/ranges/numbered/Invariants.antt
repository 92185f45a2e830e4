use Rattle.std.proofs.Common.{◌≡◌, map, take}
use Rattle.up_model.specs.Pages as pages
use Rattle.up_journal.proofs.slow.ranges.numbered.Given as goal

abbrev pub invariant-loop-place : goal.invariant-loop-place
invariant-loop-place l = l.numbers ≡ map pages.page_number (take l.place l.found)
