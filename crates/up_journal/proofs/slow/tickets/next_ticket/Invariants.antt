use Rattle.std.proofs.Common.{◌≡◌, ◌≤◌, reverse, take}
use Rattle.up_model.specs.Tickets as ticketing
use Rattle.up_journal.proofs.slow.tickets.next_ticket.Given as goal

abbrev pub invariant-loop-place : goal.invariant-loop-place
invariant-loop-place l = (l.count ≡ ticketing.next_ticket (reverse (take l.place l.before))) × (l.count ≤ l.place)
