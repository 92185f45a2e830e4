use Rattle.std.proofs.Common.{◌≡◌, ◌≤◌, ◌+◌, ◌-◌, reverse}
use Rattle.up_model.specs.Pages as pages
use Rattle.up_journal.specs.Tested.{test_of}
use Rattle.up_journal.proofs.slow.ranges.count_pages.Given as goal

abbrev pub invariant-loop-place : goal.invariant-loop-place
invariant-loop-place l = record {
  counted : l.found + pages.count_pages (test_of l.fn.birth (reverse l.before) l.fn.test) (l.first + l.place) (l.count - l.place)
      ≡ pages.count_pages (test_of l.fn.birth (reverse l.before) l.fn.test) l.first l.count;
  few : l.found ≤ l.place;
}
