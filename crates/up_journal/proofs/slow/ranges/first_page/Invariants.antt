use Rattle.std.proofs.Common.{◌≡◌, ◌+◌, ◌-◌, reverse}
use Rattle.up_model.specs.Pages as pages
use Rattle.up_journal.specs.Tested.{test_of}
use Rattle.up_journal.proofs.slow.ranges.first_page.Given as goal

-- the first is still to come
abbrev pub invariant-loop-place : goal.invariant-loop-place
invariant-loop-place l =
    pages.first_page (test_of l.fn.birth (reverse l.before) l.fn.test) l.first l.count
    ≡ pages.first_page (test_of l.fn.birth (reverse l.before) l.fn.test) (l.first + l.place) (l.count - l.place)
