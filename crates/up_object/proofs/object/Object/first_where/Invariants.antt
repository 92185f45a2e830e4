use Rattle.std.proofs.Common.{◌≡◌, ◌+◌, ◌-◌}
use Rattle.up_model.specs.Pages.{first_page}
use Rattle.up_object.specs.Tests.{test_of}
use Rattle.up_object.proofs.object.Object.first_where.Given as goal

-- the first is still to come
abbrev pub invariant-loop-place : goal.invariant-loop-place
invariant-loop-place l =
    first_page (test_of l.self.birth l.self.journal l.test) l.first l.count
    ≡ first_page (test_of l.self.birth l.self.journal l.test) (l.first + l.place) (l.count - l.place)
