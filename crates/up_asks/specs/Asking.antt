-- What contracts see of asks, packets and tickets, and what each change makes of them.
use Rattle.std.specs.Prelude.{◌≡◌, ℕ, ◌+◌, ◌≤◌, ◌&&◌, not, Bool, cond, Option, Some, None, List, [], ◌∷◌, map, slice_get}
use Rattle.up_num.specs.Asks.{Ask, same_kind, is_waiting, then_outcome, packet_of}
use Rattle.up_num.specs.Span.{covers}
use Rattle.up_num.specs.declared.answers.AskKind.{AskKind}
use Rattle.up_num.specs.declared.answers.AskKind.TheVariants.{Read, Dirty}
use Rattle.up_num.specs.declared.answers.Outcome.{Outcome}
use Rattle.up_num.specs.declared.answers.Outcome.TheVariants.{Waiting, Detached}
use Rattle.up_num.specs.declared.answers.Packet.{Packet}
use Rattle.up_span.specs.Runs.{runs}
use Rattle.up_span.specs.Sets.{PageSet, holds}
use Rattle.up_span.specs.declared.run.Run.{Run}
use Rattle.up_asks.specs.declared.ticket.Ticket.{Ticket}
use Rattle.up_asks.specs.declared.ticket.Waiter.{Waiter}
use Rattle.up_asks.specs.declared.event.Event.{Event}

-- the pages that are asked for with each kind
pub record AskedPages : Type 0 where
  pub read : PageSet
  pub dirty : PageSet

-- the asked pages; the packets sent, oldest first, and how many were taken; whether Complete was sent; the tickets in order, and
-- under each the access that waits until it is spent; and for how many packets and tickets there is room
pub record Asking : Type 0 where
  pub pages : AskedPages
  pub packets : List Packet
  pub taken : ℕ
  pub closed : Bool
  pub tickets : List Ticket
  pub waiters : List (Option Waiter)
  pub packet_room : ℕ
  pub ticket_room : ℕ

-- the set of pages that are asked for with this kind
abbrev pub pages_of : AskedPages → AskKind → PageSet
pages_of pages Read = pages.read
pages_of pages Dirty = pages.dirty

-- the page is asked for with this kind
abbrev pub asked_in : Asking → AskKind → ℕ → Bool
asked_in asking kind page = holds (pages_of asking.pages kind).runs page

-- what an ask would send: the maximal runs of its pages that aren't asked for with its kind already
abbrev pub fresh : Asking → AskKind → ℕ → ℕ → List Run
fresh asking kind first count = runs (λ page. not (asked_in asking kind page)) first 0 count

-- a packet for each run
abbrev pub packets_for : AskKind → List Run → List Packet
packets_for kind parts = map (λ run. packet_of kind run.first run.count) parts

-- a ticket that was given to this actor now
abbrev pub new_ticket : ℕ → AskKind → ℕ → ℕ → Ticket
new_ticket who kind first count = record { who = who; kind = kind; first = first; count = count; outcome = Waiting }

-- what it asked for
abbrev pub ask_of : Ticket → Ask
ask_of ticket = record { kind = ticket.kind; first = ticket.first; count = ticket.count }

-- what an event makes of those who wait for a page with a kind
abbrev pub event_of : Event → AskKind → ℕ → Outcome
event_of event kind page = cond (same_kind event.kind kind && covers event.range page) event.outcome Waiting

-- what events make of them, one after another: the first that concerns the page and kind decides
abbrev pub events_of : List Event → AskKind → ℕ → Outcome
events_of [] kind page = Waiting
events_of (event ∷ rest) kind page = then_outcome (event_of event kind page) (events_of rest kind page)

-- a ticket after events, which say an outcome for each kind and page: its first outcome stays
abbrev pub ticket_after : (AskKind → ℕ → Outcome) → Ticket → Ticket
ticket_after events ticket = record ticket { outcome = then_outcome ticket.outcome (events ticket.kind ticket.first) }

-- the events fix the ticket: it waits, and they say what becomes of its kind and page
abbrev pub fixes : (AskKind → ℕ → Outcome) → Ticket → Bool
fixes events ticket = is_waiting ticket.outcome && not (is_waiting (events ticket.kind ticket.first))

-- the numbers of the tickets that the events fix, rising, where the first ticket of the list has the number n
abbrev pub fixed_among : (AskKind → ℕ → Outcome) → List Ticket → ℕ → List ℕ
fixed_among events [] n = []
fixed_among events (ticket ∷ rest) n = cond (fixes events ticket) (n ∷ fixed_among events rest (n + 1)) (fixed_among events rest (n + 1))

-- a detachment says the same for each kind and page
abbrev pub all_detached : AskKind → ℕ → Outcome
all_detached kind page = Detached

-- who holds a ticket: nobody where no such ticket was given or it is spent
abbrev pub holder_by : Option Ticket → Option (Option Waiter) → Option ℕ
holder_by (Some ticket) (Some (Some waiter)) = Some ticket.who
holder_by _ _ = None

abbrev pub holder_in : Asking → ℕ → Option ℕ
holder_in asking number = holder_by (slice_get asking.tickets number) (slice_get asking.waiters number)

-- all but the pages asked for, the tickets and the room is as before
pub record SameButTickets (old new : Asking) (tickets : List Ticket) : Type 0 where
  pub packets : new.packets ≡ old.packets
  pub taken : new.taken ≡ old.taken
  pub closed : new.closed ≡ old.closed
  pub tickets_are : new.tickets ≡ tickets
  pub waiters : new.waiters ≡ old.waiters

-- all but the room is as before
pub record SameAsks (old new : Asking) : Type 0 where
  pub pages : (kind : AskKind) → (pages_of new.pages kind).runs ≡ (pages_of old.pages kind).runs
  pub rest : SameButTickets old new old.tickets

-- no more room is gone than for so many packets, tickets and changes of each set
pub record HasRoom (old new : Asking) (packets tickets changes : ℕ) : Type 0 where
  pub for_packets : old.packet_room ≤ new.packet_room + packets
  pub for_tickets : old.ticket_room ≤ new.ticket_room + tickets
  pub for_changes : (kind : AskKind) → (pages_of old.pages kind).room ≤ (pages_of new.pages kind).room + changes
