use Rattle.std.proofs.Common.{◌≡◌, reverse, take}
use Rattle.up_model.specs.Tickets as ticketing
use Rattle.up_journal.proofs.slow.tickets.waits.Given as goal

abbrev pub invariant-loop-place : goal.invariant-loop-place
invariant-loop-place l =
    ticketing.waits l.fn.birth (reverse (take l.place l.before)) l.ticket ≡ ticketing.waits l.fn.birth (reverse l.before) l.ticket
