-- What becomes of asks: an access parks, events happen, all are detached, a packet is taken, a ticket is spent; and what stays of them.
use Rattle.std.proofs.Common.{◌≡◌, ℕ, ◌+◌, ◌<◌, ◌≤◌, ◌==◌, ◌&&◌, ◌||◌, not, Bool, true, false, cond, Option, Some, None, is_some, min, option_map, List, [], ◌∷◌, ◌++◌, map, length, zero, suc, slice_get, slice_set, length-set, refl, ap, sym, ◌∙◌, subst, arith, inl, inr}
use Rattle.std.proofs.lemmas.Bool.{or_cases, and_parts}
use Rattle.std.proofs.lemmas.Bool.Decides.{nat_tests}
use Rattle.std.proofs.lemmas.List.{length-map}
use Rattle.std.proofs.lemmas.Option.{slice_get-map}
use Rattle.up_num.specs.declared.answers.AskKind.{AskKind}
use Rattle.up_num.specs.declared.answers.AskKind.TheVariants.{Read, Dirty}
use Rattle.up_num.specs.declared.answers.Outcome.{Outcome}
use Rattle.up_num.specs.declared.answers.Outcome.TheVariants.{Waiting}
use Rattle.up_num.specs.declared.answers.Packet.{Packet}
use Rattle.up_num.specs.declared.answers.Packet.TheVariants.{Complete}
use Rattle.up_num.specs.Asks.{Ask, same_kind, is_waiting, then_outcome, resolved_for}
use Rattle.up_span.specs.Pages.{within}
use Rattle.up_span.specs.Runs.{runs}
use Rattle.up_span.specs.Sets.{holds}
use Rattle.up_span.specs.declared.run.Run.{Run}
use Rattle.up_asks.specs.declared.ticket.Ticket.{Ticket}
use Rattle.up_asks.specs.declared.ticket.Waiter.{Waiter}
use Rattle.up_asks.specs.Asking.{Asking, asked_in, ask_of, pages_of, packets_for, new_ticket, ticket_after, all_detached, fresh, SameAsks}
use Rattle.up_bank.specs.declared.kind.FrameKind.{FrameKind}
use Rattle.up_pages.specs.Frames.{Stock}
use Rattle.up_pages.specs.Pages.{PageMap}
use Rattle.up_model.specs.Attempts.{accepts, is_blocked, parked}
use Rattle.up_model.specs.Roles.{detached}
use Rattle.up_model.specs.Asks.{asked}
use Rattle.up_model.specs.Packets.{sent, taken, is_packet}
use Rattle.up_model.specs.Tickets.{next_ticket, spent}
use Rattle.up_model.specs.Concerns.{can_resolve, keeps_asks, keeps_spent}
use Rattle.up_model.specs.Changes.{Parks, Happens, Detaches, TakesPacket, Spends}
use Rattle.up_model.specs.declared.entry.Birth.{Birth}
use Rattle.up_model.specs.declared.entry.Entry.{Entry}
use Rattle.up_model.specs.declared.entry.Call.{Call}
use Rattle.up_model.specs.declared.entry.Call.TheVariants as calls
use Rattle.up_model.proofs.Bools.{not_true, and_false}
use Rattle.up_model.proofs.OneEntryMore.{changes_roles, detached_refused, detached_kept, then_outcome-waiting}
use Rattle.up_model.proofs.Kept.{kept_asks, kept_spent}
use Rattle.up_model.proofs.Resolved.{Accepted, accepted_asked, accepted_count, accepted_access, accepted_waits, accepted_owner, accepted_outcome, happens_accepted, happens_sent, happens_taken, detaches_accepted, detaches_sent, detaches_taken, packet_accepted, packet_sent, packet_taken, parks_asked, parks_sent, parks_attached, parks_count, parks_taken, parks_access, parks_waits, parks_owner, parks_outcome}
use Rattle.up_object.specs.Asks.{access_of, access_in, outcome_in, TicketsStand, WaitersStand, AsksStandFor, AsksStand, room_of}
use Rattle.up_object.specs.declared.marks.Mark.{Mark}
use Rattle.up_object.specs.Parts.{BankPair}
use Rattle.up_object.specs.Change.{CallProgress, Rest, up_to, ChangeStandsFor}
use Rattle.up_object.proofs.Lists.{push_look, set_look, length_push}

-- What stays at the end of a call.

staying : (call : Call) → can_resolve call ≡ false → changes_roles call ≡ false
staying calls.Detach k = absurd cc
staying (calls.Leave role) k = absurd cc
staying _ k = refl

kept_detached : (birth : Birth) (e : Entry) (h : List Entry) → keeps_asks e ≡ true → detached birth (e ∷ h) ≡ detached birth h
kept_detached birth e h is =
    let one = and_parts (not (is_blocked e.reply)) _ is in
    let two = and_parts (not (is_packet e.reply)) _ one.1 in
    elim (or_cases (not (accepts e.reply)) _ two.1) [
      | inl refused ↦ detached_refused birth e h (not_true _ refused)
      | inr harmless ↦ detached_kept birth e h (staying e.call (not_true _ harmless))
    ]

kept_sent : (birth : Birth) (e : Entry) (h : List Entry) → keeps_asks e ≡ true → sent birth (e ∷ h) ≡ sent birth h
kept_sent birth e h is =
    let gone = kept_detached birth e h is in
    let same = kept_asks birth e h is in
    λ i. cond (gone i) (same.requests i ++ Complete ∷ []) (same.requests i)

late_end : (waiters : List (Option Waiter)) (h : List Entry) (e : Entry) (before : List Entry) (done : Bool) → WaitersStand waiters h (up_to done e before) → (done ≡ false → keeps_spent e ≡ true) →
    WaitersStand waiters h (e ∷ before)
late_end waiters h e before true s keeps = s
late_end waiters h e before false s keeps =
    let same = kept_spent e before (keeps refl) in record {
      places = s.places;
      accesses = λ t. s.accesses t ∙ ap (λ b. cond b None (parked h t)) (sym (same t));
      given = λ t low. same t ∙ s.given t low;
    }

-- asks that weren't changed, or were, at the end of a call
pub asks_end : (asks : Asking) (birth : Birth) (e : Entry) (h : List Entry) (done spent_done : Bool) → AsksStandFor asks birth (up_to done e h) (up_to spent_done e h) →
    (done ≡ false → keeps_asks e ≡ true) → (spent_done ≡ false → keeps_spent e ≡ true) → AsksStand asks birth (e ∷ h)
asks_end asks birth e h true spent_done s keeps spends = record {
  pages = s.pages;
  packets = s.packets;
  taking = s.taking;
  cut = s.cut;
  tickets = s.tickets;
  waiters = late_end asks.waiters (e ∷ h) e h spent_done s.waiters spends;
}
asks_end asks birth e h false spent_done s keeps spends =
    let same = kept_asks birth e h (keeps refl) in
    let was = late_end asks.waiters h e h spent_done s.waiters spends in record {
      pages = λ kind p. s.pages kind p ∙ sym (same.pages kind p);
      packets = s.packets ∙ sym (kept_sent birth e h (keeps refl));
      taking = s.taking ∙ sym same.taking;
      cut = s.cut ∙ sym (kept_detached birth e h (keeps refl));
      tickets = record {
        count = s.tickets.count ∙ sym same.count;
        owners = λ t. same.owners t ∙ s.tickets.owners t;
        wants = λ t. same.wants t ∙ s.tickets.wants t;
        outcomes = λ t. same.outcomes t ∙ s.tickets.outcomes t;
      };
      waiters = record {
        places = was.places ∙ sym same.count;
        accesses = λ t. was.accesses t ∙ ap (λ o. cond (spent (e ∷ h) t) None o) (sym (same.accesses t));
        given = λ t low. was.given t (subst (λ (n : ℕ). n ≤ t) same.count low);
      };
    }

-- An access parks.

waiting_push : (tickets : List Ticket) (ticket : Ticket) (t : ℕ) → ticket.outcome ≡ Waiting → outcome_in (slice_get (tickets ++ ticket ∷ []) t) ≡ outcome_in (slice_get tickets t)
waiting_push [] ticket zero is = is
waiting_push [] ticket (suc t) is = refl
waiting_push (x ∷ xs) ticket zero is = refl
waiting_push (x ∷ xs) ticket (suc t) is = waiting_push xs ticket t is

tickets_parked : (tickets : List Ticket) (birth : Birth) (e : Entry) (h : List Entry) (piece : Waiter) (who : ℕ) (ask : Ask) → TicketsStand tickets birth h → Parks birth e h (access_of piece) ask → e.who ≡ who →
    TicketsStand (tickets ++ new_ticket who ask.kind ask.first ask.count ∷ []) birth (e ∷ h)
tickets_parked tickets birth e h piece who ask s p by =
    let new = new_ticket who ask.kind ask.first ask.count in record {
      count = length_push tickets new ∙ ap suc s.count ∙ sym (parks_count birth e h (access_of piece) ask p);
      owners = λ t. parks_owner birth e h (access_of piece) ask p t ∙ (λ i. cond (next_ticket h == t) (Some (by i)) (s.owners t i))
          ∙ sym (push_look (option_map (λ (x : Ticket). x.who)) tickets new (next_ticket h) t s.count);
      wants = λ t. parks_waits birth e h (access_of piece) ask p t ∙ ap (λ o. cond (next_ticket h == t) (Some ask) o) (s.wants t)
          ∙ sym (push_look (option_map ask_of) tickets new (next_ticket h) t s.count);
      outcomes = λ t. parks_outcome birth e h (access_of piece) ask p t ∙ s.outcomes t ∙ sym (waiting_push tickets new t refl);
    }

from_next : (n t : ℕ) → (n == t) ≡ true → n ≤ t
from_next n t is = grind (arith, nat_tests)

new_access : {X : Type 0} (here gone : Bool) (new old : Option X) → (here ≡ true → gone ≡ false) → cond here new (cond gone None old) ≡ cond gone None (cond here new old)
new_access false gone new old unspent = refl
new_access true gone new old unspent = rw (unspent refl) refl

waiters_parked : (waiters : List (Option Waiter)) (birth : Birth) (e : Entry) (h late : List Entry) (piece : Waiter) (ask : Ask) → WaitersStand waiters h late → Parks birth e h (access_of piece) ask →
    WaitersStand (waiters ++ Some piece ∷ []) (e ∷ h) late
waiters_parked waiters birth e h late piece ask s p =
    let more = parks_count birth e h (access_of piece) ask p in record {
      places = length_push waiters (Some piece) ∙ ap suc s.places ∙ sym more;
      accesses = λ t. push_look access_in waiters (Some piece) (next_ticket h) t s.places ∙ ap (λ o. cond (next_ticket h == t) (Some (access_of piece)) o) (s.accesses t)
          ∙ new_access (next_ticket h == t) (spent late t) (Some (access_of piece)) (parked h t) (λ here. s.given t (from_next (next_ticket h) t here))
          ∙ ap (λ o. cond (spent late t) None o) (sym (parks_access birth e h (access_of piece) ask p t));
      given = λ t low. let below : next_ticket h ≤ t = omega arith in s.given t below;
    }

pub parks_asks : (a b : Asking) (birth : Birth) (e : Entry) (h late : List Entry) (who : ℕ) (kind : AskKind) (first count : ℕ) (parts : List Run) (piece : Waiter) (m n : ℕ) → AsksStandFor a birth h late →
    Parks birth e h (access_of piece) (record { kind = kind; first = first; count = count }) → e.who ≡ who → parts ≡ runs (λ p. not (asked birth h kind p)) first 0 count →
    ((each : AskKind) (page : ℕ) → asked_in b each page ≡ ((same_kind kind each && within first count page) || asked_in a each page)) →
    b ≡ record a { pages = b.pages; packets = a.packets ++ packets_for kind parts; tickets = a.tickets ++ new_ticket who kind first count ∷ []; waiters = a.waiters ++ Some piece ∷ []; packet_room = m; ticket_room = n } →
    AsksStandFor b birth (e ∷ h) late
parks_asks a b birth e h late who kind first count parts piece m n s p by fresh puts is =
    let ask : Ask = record { kind = kind; first = first; count = count } in record {
      pages = λ each page. puts each page ∙ ap (λ o. (same_kind kind each && within first count page) || o) (s.pages each page) ∙ sym (parks_asked birth e h (access_of piece) ask p each page);
      packets = ap (λ (v : Asking). v.packets) is ∙ (λ i. s.packets i ++ packets_for kind (fresh i)) ∙ sym (parks_sent birth e h (access_of piece) ask p);
      taking = ap (λ (v : Asking). v.taken) is ∙ s.taking ∙ sym (parks_taken birth e h (access_of piece) ask p);
      cut = ap (λ (v : Asking). v.closed) is ∙ s.cut ∙ p.attached ∙ sym (parks_attached birth e h (access_of piece) ask p);
      tickets = subst (λ (v : Asking). TicketsStand v.tickets birth (e ∷ h)) (sym is) (tickets_parked a.tickets birth e h piece who ask s.tickets p by);
      waiters = subst (λ (v : Asking). WaitersStand v.waiters (e ∷ h) late) (sym is) (waiters_parked a.waiters birth e h late piece ask s.waiters p);
    }

-- An accepted call makes of those who wait what a table of outcomes says.

who_after : (events : AskKind → ℕ → Outcome) (o : Option Ticket) → option_map (λ (x : Ticket). x.who) (option_map (ticket_after events) o) ≡ option_map (λ (x : Ticket). x.who) o
who_after events None = refl
who_after events (Some ticket) = refl

ask_after : (events : AskKind → ℕ → Outcome) (o : Option Ticket) → option_map ask_of (option_map (ticket_after events) o) ≡ option_map ask_of o
ask_after events None = refl
ask_after events (Some ticket) = refl

outcome_after : (events : AskKind → ℕ → Outcome) (o : Option Ticket) → then_outcome (outcome_in o) (resolved_for events (option_map ask_of o)) ≡ outcome_in (option_map (ticket_after events) o)
outcome_after events None = refl
outcome_after events (Some ticket) = refl

tickets_accepted : (tickets : List Ticket) (birth : Birth) (e : Entry) (h : List Entry) (events : AskKind → ℕ → Outcome) → TicketsStand tickets birth h → Accepted birth e h events →
    TicketsStand (map (ticket_after events) tickets) birth (e ∷ h)
tickets_accepted tickets birth e h events s is = record {
  count = length-map tickets (ticket_after events) ∙ s.count ∙ sym (accepted_count birth e h events is);
  owners = λ t. accepted_owner birth e h events is t ∙ s.owners t ∙ rw slice_get-map (sym (who_after events (slice_get tickets t)));
  wants = λ t. accepted_waits birth e h events is t ∙ s.wants t ∙ rw slice_get-map (sym (ask_after events (slice_get tickets t)));
  outcomes = λ t. accepted_outcome birth e h events is t ∙ (λ i. then_outcome (s.outcomes t i) (resolved_for events (s.wants t i))) ∙ rw slice_get-map (outcome_after events (slice_get tickets t));
}

waiters_accepted : (waiters : List (Option Waiter)) (birth : Birth) (e : Entry) (h late : List Entry) (events : AskKind → ℕ → Outcome) → WaitersStand waiters h late → Accepted birth e h events → WaitersStand waiters (e ∷ h) late
waiters_accepted waiters birth e h late events s is = record {
  places = s.places ∙ sym (accepted_count birth e h events is);
  accesses = λ t. s.accesses t ∙ ap (λ o. cond (spent late t) None o) (sym (accepted_access birth e h events is t));
  given = λ t low. s.given t (subst (λ (n : ℕ). n ≤ t) (accepted_count birth e h events is) low);
}

and_swap : (a b : Bool) → (a && b) ≡ (b && a)
and_swap true true = refl
and_swap true false = refl
and_swap false true = refl
and_swap false false = refl

accepts_asks : (a b : Asking) (birth : Birth) (e : Entry) (h late : List Entry) (events : AskKind → ℕ → Outcome) → AsksStandFor a birth h late → Accepted birth e h events →
    ((kind : AskKind) (page : ℕ) → asked_in b kind page ≡ (asked_in a kind page && is_waiting (events kind page))) → b.tickets ≡ map (ticket_after events) a.tickets → b.waiters ≡ a.waiters →
    b.packets ≡ sent birth (e ∷ h) → b.taken ≡ taken (e ∷ h) → b.closed ≡ detached birth (e ∷ h) → AsksStandFor b birth (e ∷ h) late
accepts_asks a b birth e h late events s is puts tickets waiters packets taking cut = record {
  pages = λ kind page. puts kind page ∙ ap (λ o. o && is_waiting (events kind page)) (s.pages kind page) ∙ and_swap (asked birth h kind page) (is_waiting (events kind page)) ∙ sym (accepted_asked birth e h events is kind page);
  packets = packets;
  taking = taking;
  cut = cut;
  tickets = subst (λ (v : List Ticket). TicketsStand v birth (e ∷ h)) (sym tickets) (tickets_accepted a.tickets birth e h events s.tickets is);
  waiters = subst (λ (v : List (Option Waiter)). WaitersStand v (e ∷ h) late) (sym waiters) (waiters_accepted a.waiters birth e h late events s.waiters is);
}

-- events happen
pub happens_asks : (a b : Asking) (birth : Birth) (e : Entry) (h late : List Entry) (events : AskKind → ℕ → Outcome) → AsksStandFor a birth h late → Happens birth e h events →
    ((kind : AskKind) (page : ℕ) → asked_in b kind page ≡ (asked_in a kind page && is_waiting (events kind page))) →
    b ≡ record a { pages = b.pages; tickets = map (ticket_after events) a.tickets } → AsksStandFor b birth (e ∷ h) late
happens_asks a b birth e h late events s p puts is = accepts_asks a b birth e h late events s (happens_accepted birth e h events p) puts (ap (λ (v : Asking). v.tickets) is) (ap (λ (v : Asking). v.waiters) is)
    (ap (λ (v : Asking). v.packets) is ∙ s.packets ∙ sym (happens_sent birth e h events p)) (ap (λ (v : Asking). v.taken) is ∙ s.taking ∙ sym (happens_taken birth e h events p))
    (ap (λ (v : Asking). v.closed) is ∙ s.cut ∙ sym p.attached)

-- all are detached
pub detaches_asks : (a b : Asking) (birth : Birth) (e : Entry) (h late : List Entry) → AsksStandFor a birth h late → Detaches birth e h → ((kind : AskKind) (page : ℕ) → asked_in b kind page ≡ false) →
    b ≡ record a { pages = b.pages; packets = cond a.closed a.packets (a.packets ++ Complete ∷ []); closed = true; tickets = map (ticket_after all_detached) a.tickets } → AsksStandFor b birth (e ∷ h) late
detaches_asks a b birth e h late s p none is = accepts_asks a b birth e h late all_detached s (detaches_accepted birth e h p) (λ kind page. none kind page ∙ sym (and_false (asked_in a kind page)))
    (ap (λ (v : Asking). v.tickets) is) (ap (λ (v : Asking). v.waiters) is)
    (ap (λ (v : Asking). v.packets) is ∙ ap (λ b. cond b a.packets (a.packets ++ Complete ∷ [])) (s.cut ∙ p.attached) ∙ ap (λ ps. ps ++ Complete ∷ []) s.packets ∙ sym (detaches_sent birth e h p))
    (ap (λ (v : Asking). v.taken) is ∙ s.taking ∙ sym (detaches_taken birth e h p)) (ap (λ (v : Asking). v.closed) is ∙ sym p.gone)

-- a packet is taken
same_ticket : (ticket : Ticket) → ticket ≡ ticket_after (λ kind page. Waiting) ticket
same_ticket ticket = ap (λ (o : Outcome). record ticket { outcome = o }) (sym (then_outcome-waiting ticket.outcome))

same_tickets : (tickets : List Ticket) → tickets ≡ map (ticket_after (λ kind page. Waiting)) tickets
same_tickets [] = refl
same_tickets (ticket ∷ tickets) = λ i. same_ticket ticket i ∷ same_tickets tickets i

and_waiting : (b : Bool) → b ≡ (b && true)
and_waiting true = refl
and_waiting false = refl

pub takes_asks : (a b : Asking) (birth : Birth) (e : Entry) (h late : List Entry) → AsksStandFor a birth h late → TakesPacket birth e h → b ≡ record a { taken = suc a.taken } → AsksStandFor b birth (e ∷ h) late
takes_asks a b birth e h late s p is = accepts_asks a b birth e h late (λ kind page. Waiting) s (packet_accepted birth e h p)
    (λ kind page. ap (λ (v : Asking). asked_in v kind page) is ∙ and_waiting (asked_in a kind page)) (ap (λ (v : Asking). v.tickets) is ∙ same_tickets a.tickets) (ap (λ (v : Asking). v.waiters) is)
    (ap (λ (v : Asking). v.packets) is ∙ s.packets ∙ sym (packet_sent birth e h p)) (ap (λ (v : Asking). v.taken) is ∙ ap suc s.taking ∙ sym (packet_taken birth e h p))
    (ap (λ (v : Asking). v.closed) is ∙ s.cut ∙ sym p.attached)

-- A ticket is spent.

spent_access : {X : Type 0} (now before : Bool) (o : Option X) → cond now None (cond before None o) ≡ cond (now || before) None o
spent_access true before o = refl
spent_access false before o = refl

no_later : (n next t : ℕ) → n < next → next ≤ t → (n == t) ≡ false
no_later n next t low high = grind (arith, nat_tests)

waiters_spent : (waiters : List (Option Waiter)) (e : Entry) (h : List Entry) (n : ℕ) → WaitersStand waiters h h → Spends e h n → WaitersStand (slice_set waiters n None) h (e ∷ h)
waiters_spent waiters e h n s p =
    let lt : n < length waiters = subst (λ (m : ℕ). n < m) (sym s.places) p.given in record {
      places = length-set waiters n None ∙ s.places;
      accesses = λ t. set_look access_in waiters n None t lt ∙ ap (λ o. cond (n == t) None o) (s.accesses t) ∙ spent_access (n == t) (spent h t) (parked h t) ∙ ap (λ b. cond b None (parked h t)) (sym (p.each t));
      given = λ t low. p.each t ∙ rw (no_later n (next_ticket h) t p.given low, s.given t low) refl;
    }

pub spends_asks : (a b : Asking) (birth : Birth) (e : Entry) (h : List Entry) (n : ℕ) → AsksStand a birth h → Spends e h n → b ≡ record a { waiters = slice_set a.waiters n None } → AsksStandFor b birth h (e ∷ h)
spends_asks a b birth e h n s p is = record {
  pages = λ kind page. ap (λ (v : Asking). asked_in v kind page) is ∙ s.pages kind page;
  packets = ap (λ (v : Asking). v.packets) is ∙ s.packets;
  taking = ap (λ (v : Asking). v.taken) is ∙ s.taking;
  cut = ap (λ (v : Asking). v.closed) is ∙ s.cut;
  tickets = subst (λ (v : Asking). TicketsStand v.tickets birth h) (sym is) s.tickets;
  waiters = subst (λ (v : Asking). WaitersStand v.waiters h (e ∷ h)) (sym is) (waiters_spent a.waiters e h n s.waiters p);
}

-- Before the first entry nothing is asked, and nobody waits.

none_detached : (users pagers : ℕ) → 0 < users → 0 < pagers → false ≡ ((users == 0) || (pagers == 0))
none_detached users pagers some others = grind (arith, nat_tests)

pub first_asks : (a : Asking) (birth : Birth) → 0 < birth.users → 0 < birth.pagers → ((kind : AskKind) (page : ℕ) → asked_in a kind page ≡ false) → (a.packets ≡ []) × ((a.taken ≡ 0) × (a.closed ≡ false)) →
    (a.tickets ≡ []) × (a.waiters ≡ []) → AsksStand a birth []
first_asks a birth users pagers none packets tickets =
    let attached : false ≡ detached birth [] = none_detached birth.users birth.pagers users pagers in record {
      pages = none;
      packets = packets.0 ∙ ap (λ b. cond b (Complete ∷ []) []) attached;
      taking = packets.1.0;
      cut = packets.1.1 ∙ attached;
      tickets = rw tickets.0 (record { count = refl; owners = λ t. refl; wants = λ t. refl; outcomes = λ t. refl });
      waiters = rw tickets.1 (record { places = refl; accesses = λ t. refl; given = λ t low. refl });
    }

-- The asks in the middle of a call.

-- they stand for the journal before the entry while they aren't done
pub asks_before : (asks : Asking) (birth : Birth) (e : Entry) (h late : List Entry) (done : Bool) → AsksStandFor asks birth (up_to done e h) late → done ≡ false → AsksStandFor asks birth h late
asks_before asks birth e h late done s first = subst (λ b. AsksStandFor asks birth (up_to b e h) late) first s

-- and while no ticket is spent either
pub asks_rest : (asks : Asking) (birth : Birth) (e : Entry) (h : List Entry) (done spent_done : Bool) → AsksStandFor asks birth (up_to done e h) (up_to spent_done e h) → done ≡ false → spent_done ≡ false → AsksStand asks birth h
asks_rest asks birth e h done spent_done s first early = subst (λ b. AsksStandFor asks birth h (up_to b e h)) early (asks_before asks birth e h (up_to spent_done e h) done s first)

pub asks_after : (asks : Asking) (birth : Birth) (e : Entry) (h late : List Entry) (done : Bool) → done ≡ false → AsksStandFor asks birth h late → AsksStandFor asks birth (up_to done e h) late
asks_after asks birth e h late done first s = subst (λ b. AsksStandFor asks birth (up_to b e h) late) (sym first) s

-- what an ask would send is the same for the asks as for the journal
pub fresh_parts : (asks : Asking) (birth : Birth) (h late : List Entry) (kind : AskKind) (first count : ℕ) → AsksStandFor asks birth h late →
    runs (λ p. not (asked birth h kind p)) first 0 count ≡ fresh asks kind first count
fresh_parts asks birth h late kind first count s = λ i. runs (λ p. not (sym (s.pages kind p) i)) first 0 count

-- they are the same with other room
pub roomy_asks : (a b : Asking) (birth : Birth) (h late : List Entry) → AsksStandFor a birth h late → SameAsks a b → AsksStandFor b birth h late
roomy_asks a b birth h late s same = record {
  pages = λ kind page. ap (λ (rs : List Run). holds rs page) (same.pages kind) ∙ s.pages kind page;
  packets = same.rest.packets ∙ s.packets;
  taking = same.rest.taken ∙ s.taking;
  cut = same.rest.closed ∙ s.cut;
  tickets = subst (λ (v : List Ticket). TicketsStand v birth h) (sym same.rest.tickets_are) s.tickets;
  waiters = subst (λ (v : List (Option Waiter)). WaitersStand v h late) (sym same.rest.waiters) s.waiters;
}

-- the room of each kind is no less than that of both
least : (n a b : ℕ) → n ≤ a → n ≤ b → n ≤ min a b
least n a b one other = omega arith

least_left : (n a b : ℕ) → n ≤ min a b → n ≤ a
least_left n a b low = omega arith

least_right : (n a b : ℕ) → n ≤ min a b → n ≤ b
least_right n a b low = omega arith

pub each_room : (asks : Asking) (n : ℕ) → n ≤ (room_of asks).changes → (kind : AskKind) → n ≤ (pages_of asks.pages kind).room
each_room asks n low Read = least_left n asks.pages.read.room asks.pages.dirty.room low
each_room asks n low Dirty = least_right n asks.pages.read.room asks.pages.dirty.room low

pub both_room : (asks : Asking) (n : ℕ) → ((kind : AskKind) → n ≤ (pages_of asks.pages kind).room) → n ≤ (room_of asks).changes
both_room asks n low = least n asks.pages.read.room asks.pages.dirty.room (low Read) (low Dirty)

-- a packet that is left is taken
some_at : {X : Type 0} (xs : List X) (n : ℕ) → n < length xs → is_some (slice_get xs n) ≡ true
some_at [] n lt = absurd (omega arith)
some_at (x ∷ xs) zero lt = refl
some_at (x ∷ xs) (suc n) lt = some_at xs n (omega arith)

one_more : (n : ℕ) → n + 1 ≡ suc n
one_more n = omega arith

pub takes_one : (a b : Asking) (birth : Birth) (e : Entry) (h late : List Entry) (packet : Option Packet) → AsksStandFor a birth h late → TakesPacket birth e h → packet ≡ slice_get a.packets a.taken →
    b ≡ record a { taken = cond (is_some packet) (a.taken + 1) a.taken } → b ≡ record a { taken = suc a.taken }
takes_one a b birth e h late packet s p is new =
    let left : a.taken < length a.packets = rw (s.taking, s.packets) p.left in
    let some : is_some packet ≡ true = ap is_some is ∙ some_at a.packets a.taken left in
    new ∙ (λ i. record a { taken = cond (some i) (one_more a.taken i) a.taken })

-- The whole, where the asks alone are changed.

pub answered : (banks : BankPair) (pages : PageMap) (marks : List Mark) (brings : FrameKind) (given back : Stock) (rest : Rest) (asks : Asking) (birth : Birth) (e : Entry) (h : List Entry) (done : CallProgress) (asks_done spent_done : Bool) →
    ChangeStandsFor banks pages marks brings given back rest birth e h done → AsksStandFor asks birth (up_to asks_done e h) (up_to spent_done e h) →
    ChangeStandsFor banks pages marks brings given back (record rest { asks = asks }) birth e h (record done { asks = asks_done; spent = spent_done })
answered banks pages marks brings given back rest asks birth e h done asks_done spent_done s now = record {
  legal = s.legal;
  kinds = s.kinds;
  sized = s.sized;
  grown = s.grown;
  part = record { each = s.part.each; marked = s.part.marked; order = s.part.order; ends = s.part.ends; fits = s.part.fits; ready = s.part.ready };
  stock = record { given_own = s.stock.given_own; back_own = s.stock.back_own; room = s.stock.room };
  others = record {
    queued = s.others.queued;
    wide = s.others.wide;
    asks = now;
    tallied = s.others.tallied;
    numbered = s.others.numbered;
    epoch = s.others.epoch;
    leaving = s.others.leaving;
    few = s.others.few;
    room = s.others.room;
    place = s.others.place;
  };
}
