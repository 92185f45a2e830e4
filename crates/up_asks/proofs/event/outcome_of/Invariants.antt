use Rattle.std.proofs.Common.{◌≡◌, take}
use Rattle.up_asks.specs.Asking.{events_of}
use Rattle.up_asks.proofs.event.outcome_of.Given as goal

abbrev pub invariant-loop-place : goal.invariant-loop-place
invariant-loop-place l = l.outcome ≡ events_of (take l.place l.events) l.kind l.page
