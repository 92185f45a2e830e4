use Rattle.std.proofs.Common.{◌≡◌, ◌++◌, ◌-◌, reverse}
use Rattle.up_model.specs.Tickets as ticketing
use Rattle.up_journal.proofs.slow.tickets.woken.Given as goal

abbrev pub invariant-loop-ticket : goal.invariant-loop-ticket
invariant-loop-ticket l =
    l.woke ++ ticketing.woken_from l.fn.birth (reverse l.before) l.fn.call l.ticket (l.ticket-end - l.ticket)
    ≡ ticketing.woken_from l.fn.birth (reverse l.before) l.fn.call 0 l.ticket-end
