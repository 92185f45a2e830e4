use Rattle.std.proofs.Common.{◌≡◌, length}
use Rattle.up_container_tests.proofs.relieving.pages_of.Given as goal

-- as many pages as turns
abbrev pub invariant-loop-page : goal.invariant-loop-page
invariant-loop-page l = length l.pages ≡ l.page
