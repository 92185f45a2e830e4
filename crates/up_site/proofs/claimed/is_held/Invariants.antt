use Rattle.std.proofs.Common.{◌≡◌, ◌-◌, ◌≤◌, length, drop}
use Rattle.up_claims.specs.Listed.{held_by}
use Rattle.up_site.specs.Stages.{held_in}
use Rattle.up_site.proofs.claimed.is_held.Given as goal

abbrev pub invariant-loop-place : goal.invariant-loop-place
invariant-loop-place l = (l.place ≤ length l.tours.items) × (held_by (held_in (drop l.place l.tours.items))
    l.page ≡ held_by (held_in l.tours.items) l.page)

abbrev pub decreases-loop-place : goal.decreases-loop-place
decreases-loop-place l = length l.tours.items - l.place
