use Rattle.std.proofs.Common.{◌≡◌, ◌≤◌, ◌-◌, ◌++◌, length, reverse}
use Rattle.up_model.specs.Pages as pages
use Rattle.up_journal.specs.Tested.{test_of}
use Rattle.up_journal.proofs.slow.ranges.pages_where.Given as goal

abbrev pub invariant-loop-page : goal.invariant-loop-page
invariant-loop-page l = record {
  found : l.found ++ pages.list_pages (test_of l.fn.birth (reverse l.before) l.fn.test) l.page (l.page-end - l.page)
      ≡ pages.list_pages (test_of l.fn.birth (reverse l.before) l.fn.test) 0 l.page-end;
  few : length l.found ≤ l.page;
}
