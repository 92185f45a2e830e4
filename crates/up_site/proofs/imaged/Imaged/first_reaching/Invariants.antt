use Rattle.std.proofs.Common.{◌≡◌, ◌-◌}
use Rattle.up_model.specs.Size.{size}
use Rattle.up_span.specs.Pages.{first_page}
use Rattle.up_site.specs.Reaching.{reaches_at}
use Rattle.up_site.proofs.imaged.Imaged.first_reaching.Given as goal

-- the least is still to come
abbrev pub invariant-loop-page : goal.invariant-loop-page
invariant-loop-page g l =
    first_page (reaches_at l.pages l.self.whole.journal) 0 (size l.self.whole.birth l.self.whole.journal)
    ≡ first_page (reaches_at l.pages l.self.whole.journal) l.page (size l.self.whole.birth
    l.self.whole.journal - l.page)
