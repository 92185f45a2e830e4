-- Events one after another, and what they make of tickets.
use Rattle.std.proofs.Common.{◌≡◌, ℕ, ◌+◌, ◌&&◌, ◌++◌, not, cond, Bool, true, false, Some, List, [], ◌∷◌, map, take, length, slice_get, zero, suc, refl, sym, ap, ◌∙◌, subst, arith}
use Rattle.std.proofs.lemmas.List.{take_more, append_assoc, set_at, length_push}
use Rattle.std.proofs.lemmas.Option.{slice_get_within, get_or_from_slice_get, none-some, same_Some}
use Rattle.std.proofs.lemmas.Bool.{true≢false}
use Rattle.up_num.specs.Asks.{is_waiting, then_outcome}
use Rattle.up_num.specs.declared.answers.AskKind.{AskKind}
use Rattle.up_num.specs.declared.answers.Outcome.{Outcome}
use Rattle.up_num.specs.declared.answers.Outcome.TheVariants.{Waiting, Freed, Failed, Detached, Shrunk}
use Rattle.up_asks.specs.Asking.{all_detached, event_of, events_of, ticket_after, fixes, fixed_among}
use Rattle.up_asks.specs.Keeps.{waiting_among, waits, is_fixed, still_waiting, fixed_of, put_after, tickets_after, AllFixed}
use Rattle.up_asks.specs.declared.event.Event.{Event}
use Rattle.up_asks.specs.declared.ticket.Ticket.{Ticket}

then_assoc : (a b c : Outcome) → then_outcome a (then_outcome b c) ≡ then_outcome (then_outcome a b) c
then_assoc Waiting b c = refl
then_assoc Freed b c = refl
then_assoc (Failed code) b c = refl
then_assoc Detached b c = refl
then_assoc Shrunk b c = refl

then_none : (a : Outcome) → then_outcome a Waiting ≡ a
then_none Waiting = refl
then_none Freed = refl
then_none (Failed code) = refl
then_none Detached = refl
then_none Shrunk = refl

pub then_waiting : (a b : Outcome) → is_waiting (then_outcome a b) ≡ (is_waiting a && is_waiting b)
then_waiting Waiting b = refl
then_waiting Freed b = refl
then_waiting (Failed code) b = refl
then_waiting Detached b = refl
then_waiting Shrunk b = refl

events_push : (events : List Event) (event : Event) (k : AskKind) (p : ℕ) → events_of (events ++ event ∷ []) k p ≡ then_outcome (events_of events k p) (event_of event k p)
events_push [] event k p = then_none (event_of event k p)
events_push (e ∷ es) event k p = ap (λ o. then_outcome (event_of e k p) o) (events_push es event k p)
    ∙ then_assoc (event_of e k p) (events_of es k p) (event_of event k p)

-- one event more
pub events_more : (events : List Event) (i : ℕ) (event : Event) (k : AskKind) (p : ℕ) → slice_get events i ≡ Some event →
    events_of (take (i + 1) events) k p ≡ then_outcome (events_of (take i events) k p) (event_of event k p)
events_more events i event k p is =
    ap (λ es. events_of es k p) (take_more events i event (slice_get_within events i event is)
    ∙ ap (λ (e : Event). take i events ++ e ∷ []) (get_or_from_slice_get events i event event is))
    ∙ events_push (take i events) event k p

pub fixed_at : (events : List Event) (i : ℕ) (event : Event) → AllFixed events → slice_get events i ≡ Some event → is_waiting event.outcome ≡ false
fixed_at [] i event all is = absurd (none-some event is)
fixed_at (e ∷ es) zero event all is = subst (λ (x : Event). is_waiting x.outcome ≡ false) (same_Some e event is) all.0
fixed_at (e ∷ es) (suc i) event all is = fixed_at es i event all.1 is

then_first : (o later : Outcome) → is_waiting o ≡ false → then_outcome o later ≡ o
then_first Waiting later h = absurd (true≢false h)
then_first Freed later h = refl
then_first (Failed code) later h = refl
then_first Detached later h = refl
then_first Shrunk later h = refl

after_same : (f : AskKind → ℕ → Outcome) (t : Ticket) → is_waiting t.outcome ≡ false → ticket_after f t ≡ t
after_same f t h = ap (λ (o : Outcome). with_outcome t o) (then_first t.outcome (f t.kind t.first) h)
  where
    with_outcome : Ticket → Outcome → Ticket
    with_outcome t o = record { who = t.who; kind = t.kind; first = t.first; count = t.count; outcome = o }

-- two tables that agree make the same of all tickets
pub same_events : (some others : AskKind → ℕ → Outcome) → ((kind : AskKind) (page : ℕ) → some kind page ≡ others kind page) → (tickets : List Ticket) (n : ℕ) →
    (map (ticket_after some) tickets ≡ map (ticket_after others) tickets) × (fixed_among some tickets n ≡ fixed_among others tickets n)
same_events f g h [] n = (refl, refl)
same_events f g h (t ∷ ts) n = (
  ap (λ (o : Outcome). record t { outcome = then_outcome t.outcome o } ∷ map (ticket_after f) ts) (h t.kind t.first)
      ∙ ap (λ xs. ticket_after g t ∷ xs) (same_events f g h ts (n + 1)).0,
  ap (λ (o : Outcome). cond (is_waiting t.outcome && not (is_waiting o)) (n ∷ fixed_among f ts (n + 1)) (fixed_among f ts (n + 1))) (h t.kind t.first)
      ∙ ap (λ xs. cond (fixes g t) (n ∷ xs) xs) (same_events f g h ts (n + 1)).1,
)

get_here : (ps : List Ticket) (t : Ticket) (ts : List Ticket) → slice_get (ps ++ t ∷ ts) (length ps) ≡ Some t
get_here [] t ts = refl
get_here (p ∷ ps) t ts = get_here ps t ts

moved : {X : Type 0} (F : List Ticket → ℕ → X) (ps : List Ticket) (t : Ticket) (ts : List Ticket) →
    F (ps ++ t ∷ ts) (length ps + 1) ≡ F ((ps ++ t ∷ []) ++ ts) (length (ps ++ t ∷ []))
moved F ps t ts = sym (ap (λ xs. F xs (length (ps ++ t ∷ []))) (append_assoc ps (t ∷ []) ts) ∙ ap (λ n. F (ps ++ t ∷ ts) n) (length_push ps t))

-- what the events make of the tickets that wait is what they make of all
settled_by : (f : AskKind → ℕ → Outcome) (ps ts : List Ticket) → tickets_after f (ps ++ ts) (waiting_among ts (length ps)) ≡ ps ++ map (ticket_after f) ts
settled_by f ps [] = refl
settled_by f ps (t ∷ ts) = elim (is_waiting t.outcome) as (λ b. is_waiting t.outcome ≡ b →
    tickets_after f (ps ++ t ∷ ts) (cond b (length ps ∷ waiting_among ts (length ps + 1)) (waiting_among ts (length ps + 1))) ≡ ps ++ ticket_after f t ∷ map (ticket_after f) ts) [
      | true ↦ λ h. ap (λ o. tickets_after f (put_after f (ps ++ t ∷ ts) (length ps) o) (waiting_among ts (length ps + 1))) (get_here ps t ts)
          ∙ ap (λ xs. tickets_after f xs (waiting_among ts (length ps + 1))) (set_at ps t ts (ticket_after f t) (length ps) refl)
          ∙ moved (λ xs n. tickets_after f xs (waiting_among ts n)) ps (ticket_after f t) ts
          ∙ settled_by f (ps ++ ticket_after f t ∷ []) ts
          ∙ append_assoc ps (ticket_after f t ∷ []) (map (ticket_after f) ts)
      | false ↦ λ h. moved (λ xs n. tickets_after f xs (waiting_among ts n)) ps t ts
          ∙ settled_by f (ps ++ t ∷ []) ts
          ∙ append_assoc ps (t ∷ []) (map (ticket_after f) ts)
          ∙ ap (λ (x : Ticket). ps ++ x ∷ map (ticket_after f) ts) (sym (after_same f t h))
    ] refl

still_later : (f : AskKind → ℕ → Outcome) (ps ts : List Ticket) (t : Ticket) →
    still_waiting ((ps ++ ticket_after f t ∷ []) ++ map (ticket_after f) ts) (waiting_among ts (length (ps ++ ticket_after f t ∷ [])))
    ≡ waiting_among (map (ticket_after f) ts) (length (ps ++ ticket_after f t ∷ [])) →
    still_waiting (ps ++ ticket_after f t ∷ map (ticket_after f) ts) (waiting_among ts (length ps + 1)) ≡ waiting_among (map (ticket_after f) ts) (length ps + 1)
still_later f ps ts t more =
    ap (λ xs. still_waiting xs (waiting_among ts (length ps + 1))) (sym (append_assoc ps (ticket_after f t ∷ []) (map (ticket_after f) ts)))
    ∙ ap (λ n. still_waiting ((ps ++ ticket_after f t ∷ []) ++ map (ticket_after f) ts) (waiting_among ts n)) (sym (length_push ps (ticket_after f t)))
    ∙ more
    ∙ ap (λ n. waiting_among (map (ticket_after f) ts) n) (length_push ps (ticket_after f t))

still_cases : (f : AskKind → ℕ → Outcome) (ps ts : List Ticket) (t : Ticket) (b : Bool) → is_waiting t.outcome ≡ b →
    still_waiting (ps ++ ticket_after f t ∷ map (ticket_after f) ts) (waiting_among ts (length ps + 1)) ≡ waiting_among (map (ticket_after f) ts) (length ps + 1) →
    still_waiting (ps ++ ticket_after f t ∷ map (ticket_after f) ts) (cond b (length ps ∷ waiting_among ts (length ps + 1)) (waiting_among ts (length ps + 1)))
    ≡ waiting_among (ticket_after f t ∷ map (ticket_after f) ts) (length ps)
still_cases f ps ts t true h later =
    ap (λ o. cond (waits o) (length ps ∷ still_waiting (ps ++ ticket_after f t ∷ map (ticket_after f) ts) (waiting_among ts (length ps + 1)))
    (still_waiting (ps ++ ticket_after f t ∷ map (ticket_after f) ts) (waiting_among ts (length ps + 1)))) (get_here ps (ticket_after f t) (map (ticket_after f) ts))
    ∙ ap (λ xs. cond (is_waiting (ticket_after f t).outcome) (length ps ∷ xs) xs) later
still_cases f ps ts t false h later =
    later ∙ sym (ap (λ b. cond b (length ps ∷ waiting_among (map (ticket_after f) ts) (length ps + 1)) (waiting_among (map (ticket_after f) ts) (length ps + 1)))
    (ap (λ (x : Ticket). is_waiting x.outcome) (after_same f t h) ∙ h))

still_by : (f : AskKind → ℕ → Outcome) (ps ts : List Ticket) →
    still_waiting (ps ++ map (ticket_after f) ts) (waiting_among ts (length ps)) ≡ waiting_among (map (ticket_after f) ts) (length ps)
still_by f ps [] = refl
still_by f ps (t ∷ ts) = still_cases f ps ts t (is_waiting t.outcome) refl (still_later f ps ts t (still_by f (ps ++ ticket_after f t ∷ []) ts))

fixed_later : (f : AskKind → ℕ → Outcome) (ps ts : List Ticket) (t : Ticket) →
    fixed_of f ((ps ++ t ∷ []) ++ ts) (waiting_among ts (length (ps ++ t ∷ []))) ≡ fixed_among f ts (length (ps ++ t ∷ [])) →
    fixed_of f (ps ++ t ∷ ts) (waiting_among ts (length ps + 1)) ≡ fixed_among f ts (length ps + 1)
fixed_later f ps ts t more = moved (λ xs n. fixed_of f xs (waiting_among ts n)) ps t ts ∙ more ∙ ap (λ n. fixed_among f ts n) (length_push ps t)

fixed_cases : (f : AskKind → ℕ → Outcome) (ps ts : List Ticket) (t : Ticket) (b : Bool) → is_waiting t.outcome ≡ b →
    fixed_of f (ps ++ t ∷ ts) (waiting_among ts (length ps + 1)) ≡ fixed_among f ts (length ps + 1) →
    fixed_of f (ps ++ t ∷ ts) (cond b (length ps ∷ waiting_among ts (length ps + 1)) (waiting_among ts (length ps + 1)))
    ≡ cond (b && not (is_waiting (f t.kind t.first))) (length ps ∷ fixed_among f ts (length ps + 1)) (fixed_among f ts (length ps + 1))
fixed_cases f ps ts t true h later =
    ap (λ o. cond (is_fixed f o) (length ps ∷ fixed_of f (ps ++ t ∷ ts) (waiting_among ts (length ps + 1))) (fixed_of f (ps ++ t ∷ ts) (waiting_among ts (length ps + 1)))) (get_here ps t ts)
    ∙ ap (λ b. cond (b && not (is_waiting (f t.kind t.first))) (length ps ∷ fixed_of f (ps ++ t ∷ ts) (waiting_among ts (length ps + 1)))
    (fixed_of f (ps ++ t ∷ ts) (waiting_among ts (length ps + 1)))) h
    ∙ ap (λ xs. cond (not (is_waiting (f t.kind t.first))) (length ps ∷ xs) xs) later
fixed_cases f ps ts t false h later = later

fixed_by : (f : AskKind → ℕ → Outcome) (ps ts : List Ticket) → fixed_of f (ps ++ ts) (waiting_among ts (length ps)) ≡ fixed_among f ts (length ps)
fixed_by f ps [] = refl
fixed_by f ps (t ∷ ts) = fixed_cases f ps ts t (is_waiting t.outcome) refl (fixed_later f ps ts t (fixed_by f (ps ++ t ∷ []) ts))

pub settled_all : (f : AskKind → ℕ → Outcome) (ts : List Ticket) (waiting : List ℕ) → waiting ≡ waiting_among ts 0 → tickets_after f ts waiting ≡ map (ticket_after f) ts
settled_all f ts waiting is = ap (λ ws. tickets_after f ts ws) is ∙ settled_by f [] ts

pub still_all : (f : AskKind → ℕ → Outcome) (ts : List Ticket) (waiting : List ℕ) → waiting ≡ waiting_among ts 0 →
    still_waiting (map (ticket_after f) ts) waiting ≡ waiting_among (map (ticket_after f) ts) 0
still_all f ts waiting is = ap (λ ws. still_waiting (map (ticket_after f) ts) ws) is ∙ still_by f [] ts

pub fixed_all : (f : AskKind → ℕ → Outcome) (ts : List Ticket) (waiting : List ℕ) → waiting ≡ waiting_among ts 0 → fixed_of f ts waiting ≡ fixed_among f ts 0
fixed_all f ts waiting is = ap (λ ws. fixed_of f ts ws) is ∙ fixed_by f [] ts

-- one ticket more, which waits
pub waiting_push : (ts : List Ticket) (t : Ticket) (n number : ℕ) → is_waiting t.outcome ≡ true → number ≡ n + length ts →
    waiting_among (ts ++ t ∷ []) n ≡ waiting_among ts n ++ number ∷ []
waiting_push [] t n number h is = let same : n ≡ number = omega arith in rw (h, same) refl
waiting_push (x ∷ ts) t n number h is =
    let next : number ≡ n + 1 + length ts = omega arith in
    elim (is_waiting x.outcome) as (λ b. cond b (n ∷ waiting_among (ts ++ t ∷ []) (n + 1)) (waiting_among (ts ++ t ∷ []) (n + 1))
    ≡ cond b (n ∷ waiting_among ts (n + 1)) (waiting_among ts (n + 1)) ++ number ∷ []) [
      | true ↦ ap (λ ws. n ∷ ws) (waiting_push ts t (n + 1) number h next)
      | false ↦ waiting_push ts t (n + 1) number h next
    ]

and_false : (b : Bool) → (b && false) ≡ false
and_false true = refl
and_false false = refl

and_true : (b : Bool) → (b && true) ≡ b
and_true true = refl
and_true false = refl

-- a detachment leaves nobody waiting, and fixes all who wait
pub none_waiting : (ts : List Ticket) (n : ℕ) → waiting_among (map (ticket_after all_detached) ts) n ≡ []
none_waiting [] n = refl
none_waiting (t ∷ ts) n =
    ap (λ b. cond b (n ∷ waiting_among (map (ticket_after all_detached) ts) (n + 1)) (waiting_among (map (ticket_after all_detached) ts) (n + 1)))
    (then_waiting t.outcome Detached ∙ and_false (is_waiting t.outcome))
    ∙ none_waiting ts (n + 1)

pub detached_all : (ts : List Ticket) (n : ℕ) → fixed_among all_detached ts n ≡ waiting_among ts n
detached_all [] n = refl
detached_all (t ∷ ts) n =
    ap (λ b. cond b (n ∷ fixed_among all_detached ts (n + 1)) (fixed_among all_detached ts (n + 1))) (and_true (is_waiting t.outcome))
    ∙ ap (λ ws. cond (is_waiting t.outcome) (n ∷ ws) ws) (detached_all ts (n + 1))
