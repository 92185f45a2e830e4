-- When the asks of an object, its packets and its tickets stand for its journal.
use Rattle.std.specs.Prelude.{◌≡◌, ℕ, ◌≤◌, false, cond, Option, Some, None, option_map, List, length, slice_get, min}
use Rattle.up_num.specs.declared.answers.AskKind.{AskKind}
use Rattle.up_num.specs.declared.answers.Outcome.{Outcome}
use Rattle.up_num.specs.declared.answers.Outcome.TheVariants.{Waiting}
use Rattle.up_asks.specs.declared.ticket.Ticket.{Ticket}
use Rattle.up_asks.specs.declared.ticket.Waiter.{Waiter}
use Rattle.up_asks.specs.Asking.{Asking, asked_in, ask_of}
use Rattle.up_model.specs.Attempts.{Access, parked}
use Rattle.up_model.specs.Roles.{detached}
use Rattle.up_model.specs.Asks.{asked}
use Rattle.up_model.specs.Packets.{sent, taken}
use Rattle.up_model.specs.Tickets.{next_ticket, owner, waits, spent, outcome}
use Rattle.up_model.specs.declared.entry.Birth.{Birth}
use Rattle.up_model.specs.declared.entry.Entry.{Entry}

-- the access that waits under a ticket
abbrev pub access_of : Waiter → Access
access_of waiter = record { off = waiter.off; len = waiter.len; last = waiter.last.0; bytes = cond waiter.write (Some waiter.bytes) None }

-- what is kept of an access: nothing where no such ticket was given or it is spent
abbrev pub access_in : Option (Option Waiter) → Option Access
access_in None = None
access_in (Some None) = None
access_in (Some (Some waiter)) = Some (access_of waiter)

abbrev pub outcome_in : Option Ticket → Outcome
outcome_in None = Waiting
outcome_in (Some ticket) = ticket.outcome

-- the tickets are those of the journal
pub record TicketsStand (tickets : List Ticket) (birth : Birth) (h : List Entry) : Type 0 where
  pub count : length tickets ≡ next_ticket h
  pub owners : (t : ℕ) → owner h t ≡ option_map (λ ticket. ticket.who) (slice_get tickets t)
  pub wants : (t : ℕ) → waits birth h t ≡ option_map ask_of (slice_get tickets t)
  pub outcomes : (t : ℕ) → outcome birth h t ≡ outcome_in (slice_get tickets t)

-- the accesses are those that the journal h parked under the tickets that aren't spent after the journal `late`, and each spent one was given
pub record WaitersStand (waiters : List (Option Waiter)) (h late : List Entry) : Type 0 where
  pub places : length waiters ≡ next_ticket h
  pub accesses : (t : ℕ) → access_in (slice_get waiters t) ≡ cond (spent late t) None (parked h t)
  pub given : (t : ℕ) → next_ticket h ≤ t → spent late t ≡ false

-- asked pages of both kinds, the packets sent, how many were taken, whether the object is detached, the tickets, and the accesses that wait,
-- where the journal h is that of the asks, and `late` that of the tickets that are spent
pub record AsksStandFor (asks : Asking) (birth : Birth) (h late : List Entry) : Type 0 where
  pub pages : (kind : AskKind) (p : ℕ) → asked_in asks kind p ≡ asked birth h kind p
  pub packets : asks.packets ≡ sent birth h
  pub taking : asks.taken ≡ taken h
  pub cut : asks.closed ≡ detached birth h
  pub tickets : TicketsStand asks.tickets birth h
  pub waiters : WaitersStand asks.waiters h late

-- the asks stand for the journal
abbrev pub AsksStand : Asking → Birth → List Entry → Type 0
AsksStand asks birth h = AsksStandFor asks birth h h

-- for how many tickets, packets, and changes of the asked pages of each kind there is room
pub record AskRoom : Type 0 where
  pub tickets : ℕ
  pub packets : ℕ
  pub changes : ℕ

abbrev pub room_of : Asking → AskRoom
room_of asks = record { tickets = asks.ticket_room; packets = asks.packet_room; changes = min asks.pages.read.room asks.pages.dirty.room }
