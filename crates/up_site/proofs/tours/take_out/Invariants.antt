use Rattle.std.proofs.Common.{◌≡◌, length}
use Rattle.up_site.specs.Stages.{tours_without}
use Rattle.up_site.specs.Places.{place_at}
use Rattle.up_site.proofs.tours.take_out.Given as goal

abbrev pub invariant-loop-place : goal.invariant-loop-place
invariant-loop-place l = (l.place ≡ place_at l.tours.items l.who) × (tours_without l.who l.tours.items ≡
    tours_without l.who l.fn.tours.items)

abbrev pub decreases-loop-place : goal.decreases-loop-place
decreases-loop-place l = length l.tours.items
