-- Events count by what they say alone.
use Rattle.std.specs.Prelude.{◌≡◌, ℕ, List, map}
use Rattle.up_num.specs.declared.answers.AskKind.{AskKind}
use Rattle.up_num.specs.declared.answers.Outcome.{Outcome}
use Rattle.up_asks.specs.Asking.{ticket_after, fixed_among}
use Rattle.up_asks.specs.declared.ticket.Ticket.{Ticket}

-- two tables of outcomes that agree at each kind and page make the same of all tickets
abbrev pub SameEvents : Type 0
SameEvents = (some others : AskKind → ℕ → Outcome) → ((kind : AskKind) (page : ℕ) → some kind page ≡ others kind page) → (tickets : List Ticket) (n : ℕ) →
    (map (ticket_after some) tickets ≡ map (ticket_after others) tickets) × (fixed_among some tickets n ≡ fixed_among others tickets n)
