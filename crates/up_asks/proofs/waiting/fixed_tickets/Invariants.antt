use Rattle.std.proofs.Common.{◌≡◌, ◌++◌, drop}
use Rattle.up_asks.specs.Asking.{events_of}
use Rattle.up_asks.specs.Keeps.{fixed_of}
use Rattle.up_asks.proofs.waiting.fixed_tickets.Given as goal

abbrev pub invariant-loop-place : goal.invariant-loop-place
invariant-loop-place l = l.woken ++ fixed_of (events_of l.events) l.tickets.items (drop l.place l.waiting.items) ≡ fixed_of (events_of l.events) l.tickets.items l.waiting.items
