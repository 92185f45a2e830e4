use Rattle.std.proofs.Common.{◌≡◌, ◌-◌, ◌≤◌, length, drop}
use Rattle.up_claims.specs.Listed.{over_by}
use Rattle.up_site.specs.Stages.{held_in}
use Rattle.up_site.proofs.claimed.range_over.Given as goal

abbrev pub invariant-loop-place : goal.invariant-loop-place
invariant-loop-place l = (l.place ≤ length l.tours.items) × (over_by (held_in (drop l.place l.tours.items))
    l.page ≡ over_by (held_in l.tours.items) l.page)

abbrev pub decreases-loop-place : goal.decreases-loop-place
decreases-loop-place l = length l.tours.items - l.place
