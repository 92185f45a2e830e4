use Rattle.std.proofs.Common.{◌≡◌, ◌+◌, ◌-◌, ◌≤◌, length, drop}
use Rattle.up_site.specs.Places.{place_at}
use Rattle.up_site.proofs.tours.place_of.Given as goal

abbrev pub invariant-loop-place : goal.invariant-loop-place
invariant-loop-place l = (l.place ≤ length l.tours.items) × (l.place + place_at (drop l.place
    l.tours.items) l.who ≡ place_at l.tours.items l.who)

abbrev pub decreases-loop-place : goal.decreases-loop-place
decreases-loop-place l = length l.tours.items - l.place
