use Rattle.std.proofs.Common.{◌≡◌, ◌-◌}
use Rattle.up_pages.specs.Pages.{page_at, size_of}
use Rattle.up_pages.proofs.FramesOfPages.{each_down}
use Rattle.up_container_tests.proofs.paging.TestedPages.cut.Goals as goal

pub give_all-requires-clause-frames : goal.give_all-requires-clause-frames
give_all-requires-clause-frames c = rw c.in-Ok.ensures.back
    (each_down (λ out. out.bank ≡ c.self.inside.bank) (page_at c.self.inside.pages) c.args.pages (size_of c.self.inside.pages - c.args.pages) (λ p frame is. c.self.invariant.1 p frame is))
