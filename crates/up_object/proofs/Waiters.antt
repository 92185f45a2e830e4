-- What the asks show of tickets is what the definitions give.
use Rattle.std.proofs.Common.{◌≡◌, ℕ, ◌+◌, true, false, cond, Option, Some, None, is_some, option_map, List, [], ◌∷◌, length, suc, slice_get, refl, ap, sym, ◌∙◌, subst, arith, add-zero, zero-add}
use Rattle.up_num.specs.declared.answers.AskKind.{AskKind}
use Rattle.up_num.specs.declared.answers.Outcome.{Outcome}
use Rattle.up_asks.specs.declared.ticket.Ticket.{Ticket}
use Rattle.up_asks.specs.declared.ticket.Waiter.{Waiter}
use Rattle.up_asks.specs.Asking.{Asking, ask_of, fixes, fixed_among, holder_by, holder_in}
use Rattle.up_model.specs.Attempts.{Access, attempt_of, parked, blocks}
use Rattle.up_model.specs.Asks.{resolves}
use Rattle.up_model.specs.Tickets.{owner, spent, outcome, waits, wakes, woken, woken_from}
use Rattle.up_model.specs.Legal.{Legal}
use Rattle.up_model.specs.declared.entry.Birth.{Birth}
use Rattle.up_model.specs.declared.entry.Call.{Call}
use Rattle.up_model.specs.declared.entry.Call.TheVariants.{Read, Write, Retry}
use Rattle.up_model.specs.declared.entry.Entry.{Entry}
use Rattle.up_model.proofs.PacketsSent.{held_access}
use Rattle.up_object.specs.Asks.{access_of, access_in, outcome_in, TicketsStand, AsksStand}

-- Whom a call wakes.

wakes_is : (birth : Birth) (h : List Entry) (call : Call) (events : AskKind → ℕ → Outcome) (t : ℕ) (ticket : Ticket) → outcome birth h t ≡ ticket.outcome → waits birth h t ≡ Some (ask_of ticket) →
    ((kind : AskKind) (p : ℕ) → resolves birth h call kind p ≡ events kind p) → wakes birth h call t ≡ fixes events ticket
wakes_is birth h call events t ticket o w same = rw (o, w, same ticket.kind ticket.first) refl

woken_along : (birth : Birth) (h : List Entry) (call : Call) (events : AskKind → ℕ → Outcome) (tickets : List Ticket) → TicketsStand tickets birth h → ((kind : AskKind) (p : ℕ) → resolves birth h call kind p ≡ events kind p) →
    (xs : List Ticket) (t : ℕ) → ((j : ℕ) → slice_get tickets (t + j) ≡ slice_get xs j) → woken_from birth h call t (length xs) ≡ fixed_among events xs t
woken_along birth h call events tickets s same [] t at = refl
woken_along birth h call events tickets s same (x ∷ xs) t at =
    let here : slice_get tickets t ≡ Some x = rw add-zero at (at 0) in
    let test : wakes birth h call t ≡ fixes events x = wakes_is birth h call events t x (s.outcomes t ∙ ap outcome_in here) (s.wants t ∙ ap (option_map ask_of) here) same in
    let later : (j : ℕ) → slice_get tickets (t + 1 + j) ≡ slice_get xs j = λ j. ap (slice_get tickets) (omega arith) ∙ at (suc j) in
    rw (test, woken_along birth h call events tickets s same xs (t + 1) later) refl

-- the tickets that events fix are those that a call wakes which resolves what they say
pub woken_is : (birth : Birth) (h : List Entry) (call : Call) (events : AskKind → ℕ → Outcome) (tickets : List Ticket) → TicketsStand tickets birth h → ((kind : AskKind) (p : ℕ) → resolves birth h call kind p ≡ events kind p) →
    fixed_among events tickets 0 ≡ woken birth h call
woken_is birth h call events tickets s same = sym (woken_along birth h call events tickets s same tickets 0 (λ j. ap (slice_get tickets) (zero-add j))) ∙ ap (woken_from birth h call 0) s.count

-- A ticket that somebody holds.

-- it has its access
pub record HasAccess (h : List Entry) (t : ℕ) : Type 0 where
  pub access : Access
  pub is : parked h t ≡ Some access

held_by : (birth : Birth) (h : List Entry) → Legal birth h → (t : ℕ) (o : Option ℕ) → owner h t ≡ o → is_some o ≡ true → HasAccess h t
held_by birth h legal t None is held = absurd cc
held_by birth h legal t (Some who) is held = let one = held_access birth h legal t who is in record { access = one.0; is = one.1 }

held_in : (ticket : Option Ticket) (waiter : Option (Option Waiter)) (access : Access) → is_some (option_map (λ (x : Ticket). x.who) ticket) ≡ true → access_in waiter ≡ Some access → is_some (holder_by ticket waiter) ≡ true
held_in None waiter access held is = absurd cc
held_in (Some ticket) None access held is = absurd cc
held_in (Some ticket) (Some None) access held is = absurd cc
held_in (Some ticket) (Some (Some waiter)) access held is = refl

unspent_access : (asks : Asking) (birth : Birth) (h : List Entry) (t : ℕ) → AsksStand asks birth h → spent h t ≡ false → access_in (slice_get asks.waiters t) ≡ parked h t
unspent_access asks birth h t s unspent = s.waiters.accesses t ∙ ap (λ b. cond b None (parked h t)) unspent

-- so the asks have its holder
pub held_is : (asks : Asking) (birth : Birth) (h : List Entry) (t : ℕ) → Legal birth h → AsksStand asks birth h → (is_some (owner h t) ≡ true) × (spent h t ≡ false) → is_some (holder_in asks t) ≡ true
held_is asks birth h t legal s held =
    let one = held_by birth h legal t (owner h t) refl held.0 in
    held_in (slice_get asks.tickets t) (slice_get asks.waiters t) one.access (ap is_some (sym (s.tickets.owners t)) ∙ held.0) (unspent_access asks birth h t s held.1 ∙ one.is)

-- and its access
pub access_is : (asks : Asking) (birth : Birth) (h : List Entry) (t : ℕ) (waiter : Waiter) → AsksStand asks birth h → spent h t ≡ false → slice_get asks.waiters t ≡ Some (Some waiter) → parked h t ≡ Some (access_of waiter)
access_is asks birth h t waiter s unspent is = sym (unspent_access asks birth h t s unspent) ∙ ap access_in is

ticket_of : (o : Option Ticket) (waiter : Option (Option Waiter)) → is_some (holder_by o waiter) ≡ true → (ticket : Ticket) × (o ≡ Some ticket)
ticket_of None waiter held = absurd cc
ticket_of (Some ticket) waiter held = (ticket, refl)

-- and what has become of it
pub outcome_is : (asks : Asking) (birth : Birth) (h : List Entry) (t : ℕ) (became : Outcome) → AsksStand asks birth h → is_some (holder_in asks t) ≡ true →
    ((given : Ticket) → slice_get asks.tickets t ≡ Some given → became ≡ given.outcome) → became ≡ outcome birth h t
outcome_is asks birth h t became s held says =
    let one = ticket_of (slice_get asks.tickets t) (slice_get asks.waiters t) held in
    says one.0 one.1 ∙ sym (s.tickets.outcomes t ∙ ap outcome_in one.1)

-- An access that waits has as many bytes as it says.

abbrev IsWhole : Access → Type 0
IsWhole a = (bytes : List ℕ) → a.bytes ≡ Some bytes → length bytes ≡ a.len

attempt_whole : (before : List Entry) (call : Call) (a : Access) → ((t : ℕ) (x : Access) → parked before t ≡ Some x → IsWhole x) → attempt_of (parked before) call ≡ Some a → IsWhole a
attempt_whole before (Read piece last brought) a held is =
    let same : record { off = piece.off; len = piece.len; last = last.0; bytes = None } ≡ a = cc in subst IsWhole same (λ bytes some. absurd cc)
attempt_whole before (Write off bytes last brought) a held is =
    let same : record { off = off; len = length bytes; last = last.0; bytes = Some bytes } ≡ a = cc in subst IsWhole same (λ others some. let one : bytes ≡ others = cc in ap length (sym one))
attempt_whole before (Retry ticket brought) a held is = held ticket a is
attempt_whole before _ a held is = absurd cc

parked_whole : (h : List Entry) (t : ℕ) (a : Access) → parked h t ≡ Some a → IsWhole a
parked_whole [] t a is = absurd cc
parked_whole (e ∷ before) t a is =
    elim (blocks e.reply t) as (λ b. cond b (attempt_of (parked before) e.call) (parked before t) ≡ Some a → IsWhole a) [
      | true ↦ λ here. attempt_whole before e.call a (parked_whole before) here
      | false ↦ λ earlier. parked_whole before t a earlier
    ] is

pub waiter_whole : (h : List Entry) (t : ℕ) (waiter : Waiter) → parked h t ≡ Some (access_of waiter) → waiter.write ≡ true → length waiter.bytes ≡ waiter.len
waiter_whole h t waiter is writes = parked_whole h t (access_of waiter) is waiter.bytes (ap (λ b. cond b (Some waiter.bytes) None) writes)
