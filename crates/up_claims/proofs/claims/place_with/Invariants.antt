use Rattle.std.proofs.Common.{◌≡◌, ℕ, ◌<◌, ◌≤◌, ◌-◌, false, length}
use Rattle.up_claims.specs.Slots.{range_of, has_page}
use Rattle.up_claims.proofs.claims.place_with.Given as goal

abbrev pub invariant-loop-place : goal.invariant-loop-place
invariant-loop-place l = (l.place ≤ length l.slots.items) × ((n : ℕ) → n < l.place → has_page (range_of l.slots.items n) l.page ≡ false)

abbrev pub decreases-loop-place : goal.decreases-loop-place
decreases-loop-place l = length l.slots.items - l.place
