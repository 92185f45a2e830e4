use Rattle.std.proofs.Common.{◌≡◌}
use Rattle.up_pages.specs.Pages.{page_at, size_of}
use Rattle.up_pages.proofs.FramesOfPages.{each_down}
use Rattle.up_container_tests.proofs.paging.TestedPages.end.Goals as goal

pub give_all-requires-clause-frames : goal.give_all-requires-clause-frames
give_all-requires-clause-frames c = rw c.end-frames.ensures.back
    (each_down (λ out. out.bank ≡ c.self.inside.bank) (page_at c.self.inside.pages) 0 (size_of c.self.inside.pages) (λ p frame is. c.self.invariant.1 p frame is))
