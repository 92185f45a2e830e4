use Rattle.std.proofs.Common.{◌≡◌, ◌≤◌, ◌+◌, ◌-◌}
use Rattle.up_model.specs.Pages.{count_pages}
use Rattle.up_object.specs.Tests.{test_of}
use Rattle.up_object.proofs.object.Object.count_where.Given as goal

abbrev pub invariant-loop-place : goal.invariant-loop-place
invariant-loop-place l = record {
  counted : l.found + count_pages (test_of l.self.birth l.self.journal l.test) (l.first + l.place) (l.count - l.place)
      ≡ count_pages (test_of l.self.birth l.self.journal l.test) l.first l.count;
  few : l.found ≤ l.place;
}
