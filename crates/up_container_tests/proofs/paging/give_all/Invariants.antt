use Rattle.std.proofs.Common.{◌≡◌, length}
use Rattle.up_pages.specs.Frames.{Each}
use Rattle.up_container_tests.proofs.paging.give_all.Given as goal

abbrev pub invariant-loop-frame : goal.invariant-loop-frame
invariant-loop-frame l = (l.seat.bank ≡ l.bank) × Each (λ out. out.bank ≡ l.bank) l.frames.items

abbrev pub decreases-loop-frame : goal.decreases-loop-frame
decreases-loop-frame l = length l.frames.items
