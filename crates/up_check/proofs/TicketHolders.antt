-- Who holds a ticket, by the asks of an object.
use Rattle.std.proofs.Common.{◌≡◌, ℕ, ◌==◌, ◌&&◌, not, Bool, true, false, cond, Option, Some, None, is_some, option_map, List, [], slice_get, refl, sym, ap, ◌∙◌}
use mathlib.Core.Bool.{true≢false}
use Rattle.up_asks.specs.declared.ticket.Ticket.{Ticket}
use Rattle.up_asks.specs.declared.ticket.Waiter.{Waiter}
use Rattle.up_asks.specs.Asking.{Asking, holder_by, holder_in}
use Rattle.up_model.specs.Attempts.{Access, parked}
use Rattle.up_model.specs.Parked.{retried}
use Rattle.up_model.specs.Legal.{Legal}
use Rattle.up_model.specs.Tickets.{owner, spent}
use Rattle.up_model.specs.Reply.{is_by, counts_frames, proper}
use Rattle.up_model.specs.declared.entry.Birth.{Birth}
use Rattle.up_model.specs.declared.entry.Call.{Call}
use Rattle.up_model.specs.declared.entry.Call.TheVariants as calls
use Rattle.up_model.specs.declared.entry.Entry.{Entry}
use Rattle.up_object.specs.Asks.{AsksStand, access_in}
use Rattle.up_model.specs.Bringing.{brought_by}
use Rattle.up_object.proofs.Waiters.{held_is}

holds_it : (ticket : Option Ticket) (waiter : Option (Option Waiter)) (who : ℕ) → holder_by ticket waiter ≡ Some who → option_map (λ (x : Ticket). x.who) ticket ≡ Some who
holds_it None waiter who is = absurd cc
holds_it (Some ticket) None who is = absurd cc
holds_it (Some ticket) (Some None) who is = absurd cc
holds_it (Some ticket) (Some (Some waiter)) who is = is

waits_yet : (ticket : Option Ticket) (waiter : Option (Option Waiter)) (who : ℕ) → holder_by ticket waiter ≡ Some who → is_some (access_in waiter) ≡ true
waits_yet None waiter who is = absurd cc
waits_yet (Some ticket) None who is = absurd cc
waits_yet (Some ticket) (Some None) who is = absurd cc
waits_yet (Some ticket) (Some (Some waiter)) who is = refl

unspent : (b : Bool) (kept parked : Option Access) → kept ≡ cond b None parked → is_some kept ≡ true → b ≡ false
unspent true kept parked is some = let none : false ≡ true = sym (ap is_some is) ∙ some in absurd cc
unspent false kept parked is some = refl

and_false : (b : Bool) → (b && false) ≡ false
and_false true = refl
and_false false = refl

and_true : (b : Bool) → (b && true) ≡ b
and_true true = refl
and_true false = refl

-- the one who holds it may retry it
pub holds_some : (asks : Asking) (birth : Birth) (h : List Entry) (t holder who : ℕ) → AsksStand asks birth h → holder_in asks t ≡ Some holder → (holder == who) ≡ (is_by (owner h t) who && not (spent h t))
holds_some asks birth h t holder who s held =
    let owned : owner h t ≡ Some holder = s.tickets.owners t ∙ holds_it (slice_get asks.tickets t) (slice_get asks.waiters t) holder held in
    let free : spent h t ≡ false =
    unspent (spent h t) (access_in (slice_get asks.waiters t)) (parked h t) (s.waiters.accesses t) (waits_yet (slice_get asks.tickets t) (slice_get asks.waiters t) holder held) in
    sym (and_true (holder == who)) ∙ (λ i. is_by (sym owned i) who && not (sym free i))

by_nobody : (o : Option ℕ) (b : Bool) (who : ℕ) → ((is_some o ≡ true) × (b ≡ false) → ⊥) → false ≡ (is_by o who && not b)
by_nobody None b who never = refl
by_nobody (Some holder) false who never = absurd (never (refl, refl))
by_nobody (Some holder) true who never = sym (and_false (holder == who))

-- and where nobody holds it nobody may
pub holds_none : (asks : Asking) (birth : Birth) (h : List Entry) (t who : ℕ) → Legal birth h → AsksStand asks birth h → holder_in asks t ≡ None → false ≡ (is_by (owner h t) who && not (spent h t))
holds_none asks birth h t who legal s none =
    by_nobody (owner h t) (spent h t) who (λ held. true≢false (sym (held_is asks birth h t legal s held) ∙ ap is_some none))

and_all : (a b c : Bool) → ((a && b) && c) ≡ (a && (b && c))
and_all true b c = refl
and_all false b c = refl

retry_is : (birth : Birth) (h : List Entry) (who t : ℕ) (c : Call) → retried c ≡ Some t → proper birth h who c ≡ (is_by (owner h t) who && (not (spent h t) && counts_frames (brought_by c)))
retry_is birth h who t (calls.Retry ticket brought) is = let one : ticket ≡ t = cc in λ i. is_by (owner h (one i)) who && (not (spent h (one i)) && counts_frames brought)
retry_is birth h who t _ is = absurd cc

-- a retry is proper for who holds its ticket
pub retry_told : (birth : Birth) (h : List Entry) (who t : ℕ) (c : Call) (holds : Bool) (answer : Bool) → retried c ≡ Some t → holds ≡ (is_by (owner h t) who && not (spent h t)) → answer ≡ (holds && counts_frames (brought_by c)) →
    answer ≡ proper birth h who c
retry_told birth h who t c holds answer is held told =
    told ∙ ap (λ b. b && counts_frames (brought_by c)) held ∙ and_all (is_by (owner h t) who) (not (spent h t)) (counts_frames (brought_by c)) ∙ sym (retry_is birth h who t c is)

other_is : (birth : Birth) (h : List Entry) (who : ℕ) (c : Call) → retried c ≡ None → proper birth [] who c ≡ proper birth h who c
other_is birth h who (calls.Retry ticket brought) is = absurd cc
other_is birth h who _ is = refl

-- any other call whatever the journal is
pub other_told : (birth : Birth) (h : List Entry) (who : ℕ) (c : Call) (answer : Bool) → retried c ≡ None → answer ≡ proper birth [] who c → answer ≡ proper birth h who c
other_told birth h who c answer is told = told ∙ other_is birth h who c is
