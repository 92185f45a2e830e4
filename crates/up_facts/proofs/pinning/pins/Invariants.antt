use Rattle.std.proofs.Common.{◌≡◌, ◌≤◌, reverse, take}
use Rattle.up_model.specs.Pins as pinned
use Rattle.up_facts.proofs.pinning.pins.Given as goal

abbrev pub invariant-loop-place : goal.invariant-loop-place
invariant-loop-place l = (l.count ≡ pinned.pins (reverse (take l.place l.before)) l.page) × (l.count ≤ l.place)
