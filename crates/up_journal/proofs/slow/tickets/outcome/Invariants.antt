use Rattle.std.proofs.Common.{◌≡◌, reverse, take}
use Rattle.up_model.specs.Tickets as ticketing
use Rattle.up_journal.proofs.slow.tickets.outcome.Given as goal

abbrev pub invariant-loop-place : goal.invariant-loop-place
invariant-loop-place l =
    (l.ask ≡ ticketing.waits l.fn.birth (reverse (take l.place l.before)) l.fn.ticket)
    × (l.so_far ≡ ticketing.outcome l.fn.birth (reverse (take l.place l.before)) l.fn.ticket)
