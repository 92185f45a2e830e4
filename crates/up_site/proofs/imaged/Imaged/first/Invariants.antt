use Rattle.std.proofs.Common.{◌≡◌, ◌-◌}
use Rattle.up_model.specs.Size.{size}
use Rattle.up_span.specs.Pages.{first_page}
use Rattle.up_site.specs.Sought.{test_of}
use Rattle.up_site.proofs.imaged.Imaged.first.Given as goal

-- the least is still to come
abbrev pub invariant-loop-page : goal.invariant-loop-page
invariant-loop-page g l =
    first_page (test_of l.self.whole.birth l.self.whole.journal l.among l.sought) 0 (size
    l.self.whole.birth l.self.whole.journal)
    ≡ first_page (test_of l.self.whole.birth l.self.whole.journal l.among l.sought) l.page (size
    l.self.whole.birth l.self.whole.journal - l.page)
