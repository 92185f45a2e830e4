-- What the fields of asks keep: the list of tickets that wait, and the room that was taken.
use Rattle.std.specs.Prelude.{◌≡◌, ℕ, ◌+◌, ◌^◌, ◌<◌, Bool, true, false, cond, Option, Some, None, List, [], ◌∷◌, slice_get, slice_set}
use Rattle.up_num.specs.Asks.{is_waiting}
use Rattle.up_num.specs.declared.answers.AskKind.{AskKind}
use Rattle.up_num.specs.declared.answers.Outcome.{Outcome}
use Rattle.up_span.specs.declared.run.Run.{Run}
use Rattle.up_asks.specs.Asking.{ticket_after, fixes}
use Rattle.up_asks.specs.declared.ticket.Ticket.{Ticket}
use Rattle.up_asks.specs.declared.event.Event.{Event}

-- the numbers of the tickets that wait, rising, where the first ticket of the list has the number n
abbrev pub waiting_among : List Ticket → ℕ → List ℕ
waiting_among [] n = []
waiting_among (ticket ∷ rest) n = cond (is_waiting ticket.outcome) (n ∷ waiting_among rest (n + 1)) (waiting_among rest (n + 1))

abbrev pub waits : Option Ticket → Bool
waits None = false
waits (Some ticket) = is_waiting ticket.outcome

abbrev pub is_fixed : (AskKind → ℕ → Outcome) → Option Ticket → Bool
is_fixed events None = false
is_fixed events (Some ticket) = fixes events ticket

-- those of the numbers whose tickets wait
abbrev pub still_waiting : List Ticket → List ℕ → List ℕ
still_waiting tickets [] = []
still_waiting tickets (n ∷ rest) = cond (waits (slice_get tickets n)) (n ∷ still_waiting tickets rest) (still_waiting tickets rest)

-- those of the numbers whose tickets the events fix
abbrev pub fixed_of : (AskKind → ℕ → Outcome) → List Ticket → List ℕ → List ℕ
fixed_of events tickets [] = []
fixed_of events tickets (n ∷ rest) = cond (is_fixed events (slice_get tickets n)) (n ∷ fixed_of events tickets rest) (fixed_of events tickets rest)

abbrev pub put_after : (AskKind → ℕ → Outcome) → List Ticket → ℕ → Option Ticket → List Ticket
put_after events tickets n None = tickets
put_after events tickets n (Some ticket) = slice_set tickets n (ticket_after events ticket)

-- the tickets after the events happened to those with these numbers
abbrev pub tickets_after : (AskKind → ℕ → Outcome) → List Ticket → List ℕ → List Ticket
tickets_after events tickets [] = tickets
tickets_after events tickets (n ∷ rest) = tickets_after events (put_after events tickets n (slice_get tickets n)) rest

-- Complete has its place from the start on
abbrev pub complete_place : Bool → ℕ
complete_place true = 0
complete_place false = 1

-- each event says an outcome
abbrev pub AllFixed : List Event → Type 0
AllFixed [] = Unit {0}
AllFixed (event ∷ rest) = (is_waiting event.outcome ≡ false) × AllFixed rest

-- each run is a range of pages below 2^32
abbrev pub AreRanges : List Run → Type 0
AreRanges [] = Unit {0}
AreRanges (run ∷ rest) = (0 < run.count) × ((run.first + run.count < 2 ^ 32) × AreRanges rest)
