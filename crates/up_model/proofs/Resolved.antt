-- What an entry makes of those who wait: one that parks, one whose events happen, one that detaches, one that takes a packet; and of who acts.
use Rattle.std.proofs.Common.{◌≡◌, ℕ, ◌<◌, ◌==◌, ◌&&◌, ◌||◌, not, Bool, true, false, cond, Option, Some, None, option_map, List, [], ◌∷◌, ◌++◌, suc, refl, ap, sym, ◌∙◌}
use Rattle.up_num.specs.Span.{Span}
use Rattle.up_num.specs.declared.answers.AskKind.{AskKind}
use Rattle.up_num.specs.declared.answers.Outcome.{Outcome}
use Rattle.up_num.specs.declared.answers.Outcome.TheVariants.{Waiting, Detached as DetachedOutcome}
use Rattle.up_num.specs.declared.answers.Packet.{Packet}
use Rattle.up_num.specs.declared.answers.Packet.TheVariants.{Complete}
use Rattle.up_model.specs.Attempts.{Access, accepts, is_done, attempt, parked}
use Rattle.up_model.specs.Size.{size}
use Rattle.up_model.specs.Roles.{detached}
use Rattle.up_model.specs.Asks.{Ask, asked, asks, want, resolves, resolved, is_waiting}
use Rattle.up_model.specs.Packets.{packets, requested, sent, taken}
use Rattle.up_model.specs.Tickets.{next_ticket, owner, waits, outcome, keeps_ticket, resolved_for, then_outcome}
use Rattle.up_model.specs.Modified.{modified, is_reset, is_write, asks_other_size, is_zero_call}
use Rattle.up_model.specs.Concerns.{is_touch}
use Rattle.up_model.specs.Changes.{Parks, Happens, Detaches, TakesPacket, Spends, SetsModified, Departs, SetsDetached}
use Rattle.up_model.specs.declared.entry.Birth.{Birth}
use Rattle.up_model.specs.declared.entry.Brought.{Brought}
use Rattle.up_model.specs.declared.entry.Entry.{Entry}
use Rattle.up_model.specs.declared.entry.Call.{Call}
use Rattle.up_model.specs.declared.entry.Call.TheVariants as calls
use Rattle.up_model.specs.declared.entry.Role.TheVariants.{User, Pager}
use Rattle.up_model.specs.declared.entry.Reply.TheVariants.{Left}
use Rattle.up_model.proofs.OneEntryMore.{accepted_parks_none, resolved_refused, outcome_kept, detached_refused, requested_kept, next_ticket_kept, parked_kept, owner_kept, waits_kept, taken_kept, taken_more, asked_resolved, spent_retry}

-- An entry that parks an access.

-- what it asks for
pub parks_wanted : (birth : Birth) (e : Entry) (h : List Entry) (a : Access) (ask : Ask) → Parks birth e h a ask → option_map (want birth h) (attempt h e) ≡ Some ask
parks_wanted birth e h a ask p = ap (option_map (want birth h)) p.attempted ∙ ap (λ (w : Ask). Some w) p.wanted

pub parks_asked : (birth : Birth) (e : Entry) (h : List Entry) (a : Access) (ask : Ask) → Parks birth e h a ask → (k : AskKind) (p : ℕ) → asked birth (e ∷ h) k p ≡ (asks (Some ask) k p || asked birth h k p)
parks_asked birth e h a ask p k page = rw (p.blocked, parks_wanted birth e h a ask p) refl

pub parks_requested : (birth : Birth) (e : Entry) (h : List Entry) (a : Access) (ask : Ask) → Parks birth e h a ask → requested birth (e ∷ h) ≡ requested birth h ++ packets (asked birth h) (Some ask)
parks_requested birth e h a ask p = rw (p.blocked, parks_wanted birth e h a ask p) refl

pub parks_attached : (birth : Birth) (e : Entry) (h : List Entry) (a : Access) (ask : Ask) → Parks birth e h a ask → detached birth (e ∷ h) ≡ false
parks_attached birth e h a ask p = detached_refused birth e h (ap accepts p.blocked) ∙ p.attached

pub parks_sent : (birth : Birth) (e : Entry) (h : List Entry) (a : Access) (ask : Ask) → Parks birth e h a ask → sent birth (e ∷ h) ≡ sent birth h ++ packets (asked birth h) (Some ask)
parks_sent birth e h a ask p =
    ap (λ b. cond b (requested birth (e ∷ h) ++ Complete ∷ []) (requested birth (e ∷ h))) (parks_attached birth e h a ask p)
    ∙ parks_requested birth e h a ask p
    ∙ ap (λ b. cond b (requested birth h ++ Complete ∷ []) (requested birth h) ++ packets (asked birth h) (Some ask)) (sym p.attached)

pub parks_count : (birth : Birth) (e : Entry) (h : List Entry) (a : Access) (ask : Ask) → Parks birth e h a ask → next_ticket (e ∷ h) ≡ suc (next_ticket h)
parks_count birth e h a ask p = rw p.blocked refl

pub parks_taken : (birth : Birth) (e : Entry) (h : List Entry) (a : Access) (ask : Ask) → Parks birth e h a ask → taken (e ∷ h) ≡ taken h
parks_taken birth e h a ask p = rw p.blocked refl

pub parks_access : (birth : Birth) (e : Entry) (h : List Entry) (a : Access) (ask : Ask) → Parks birth e h a ask → (t : ℕ) → parked (e ∷ h) t ≡ cond (next_ticket h == t) (Some a) (parked h t)
parks_access birth e h a ask p t = rw (p.blocked, p.attempted) refl

pub parks_waits : (birth : Birth) (e : Entry) (h : List Entry) (a : Access) (ask : Ask) → Parks birth e h a ask → (t : ℕ) → waits birth (e ∷ h) t ≡ cond (next_ticket h == t) (Some ask) (waits birth h t)
parks_waits birth e h a ask p t = rw (p.blocked, parks_wanted birth e h a ask p) refl

pub parks_owner : (birth : Birth) (e : Entry) (h : List Entry) (a : Access) (ask : Ask) → Parks birth e h a ask → (t : ℕ) → owner (e ∷ h) t ≡ cond (next_ticket h == t) (Some e.who) (owner h t)
parks_owner birth e h a ask p t = rw p.blocked refl

pub parks_outcome : (birth : Birth) (e : Entry) (h : List Entry) (a : Access) (ask : Ask) → Parks birth e h a ask → (t : ℕ) → outcome birth (e ∷ h) t ≡ outcome birth h t
parks_outcome birth e h a ask p t = outcome_kept birth e h t (λ kind page. resolved_refused birth e h kind page (ap accepts p.blocked))

-- An accepted call whose events happen to those who wait, or that detaches them all: what an outcome table says of it.

pub record Accepted (birth : Birth) (e : Entry) (h : List Entry) (events : AskKind → ℕ → Outcome) : Type 0 where
  pub accepted : accepts e.reply ≡ true
  pub each : (kind : AskKind) (p : ℕ) → resolves birth h e.call kind p ≡ events kind p

pub accepted_asked : (birth : Birth) (e : Entry) (h : List Entry) (events : AskKind → ℕ → Outcome) → Accepted birth e h events → (k : AskKind) (p : ℕ) →
    asked birth (e ∷ h) k p ≡ (is_waiting (events k p) && asked birth h k p)
accepted_asked birth e h events s k p = asked_resolved birth e h k p s.accepted ∙ ap (λ (o : Outcome). is_waiting o && asked birth h k p) (s.each k p)

pub accepted_requested : (birth : Birth) (e : Entry) (h : List Entry) (events : AskKind → ℕ → Outcome) → Accepted birth e h events → requested birth (e ∷ h) ≡ requested birth h
accepted_requested birth e h events s = requested_kept birth e h (accepted_parks_none e.reply s.accepted)

pub accepted_count : (birth : Birth) (e : Entry) (h : List Entry) (events : AskKind → ℕ → Outcome) → Accepted birth e h events → next_ticket (e ∷ h) ≡ next_ticket h
accepted_count birth e h events s = next_ticket_kept e h (accepted_parks_none e.reply s.accepted)

pub accepted_access : (birth : Birth) (e : Entry) (h : List Entry) (events : AskKind → ℕ → Outcome) → Accepted birth e h events → (t : ℕ) → parked (e ∷ h) t ≡ parked h t
accepted_access birth e h events s t = parked_kept e h t (accepted_parks_none e.reply s.accepted)

pub accepted_waits : (birth : Birth) (e : Entry) (h : List Entry) (events : AskKind → ℕ → Outcome) → Accepted birth e h events → (t : ℕ) → waits birth (e ∷ h) t ≡ waits birth h t
accepted_waits birth e h events s t = waits_kept birth e h t (accepted_parks_none e.reply s.accepted)

pub accepted_owner : (birth : Birth) (e : Entry) (h : List Entry) (events : AskKind → ℕ → Outcome) → Accepted birth e h events → (t : ℕ) → owner (e ∷ h) t ≡ owner h t
accepted_owner birth e h events s t = owner_kept e h t (accepted_parks_none e.reply s.accepted)

resolved_same : (f g : AskKind → ℕ → Outcome) (m : Option Ask) → ((k : AskKind) (p : ℕ) → f k p ≡ g k p) → resolved_for f m ≡ resolved_for g m
resolved_same f g None same = refl
resolved_same f g (Some ask) same = same ask.kind ask.first

pub accepted_outcome : (birth : Birth) (e : Entry) (h : List Entry) (events : AskKind → ℕ → Outcome) → Accepted birth e h events → (t : ℕ) →
    outcome birth (e ∷ h) t ≡ then_outcome (outcome birth h t) (resolved_for events (waits birth h t))
accepted_outcome birth e h events s t =
    ap (then_outcome (outcome birth h t)) (resolved_same (resolved birth h e) events (waits birth h t) (λ k p. ap (λ b. cond b (resolves birth h e.call k p) Waiting) s.accepted ∙ s.each k p))

pub happens_accepted : (birth : Birth) (e : Entry) (h : List Entry) (events : AskKind → ℕ → Outcome) → Happens birth e h events → Accepted birth e h events
happens_accepted birth e h events s = record { accepted = s.accepted; each = s.each }

pub happens_sent : (birth : Birth) (e : Entry) (h : List Entry) (events : AskKind → ℕ → Outcome) → Happens birth e h events → sent birth (e ∷ h) ≡ sent birth h
happens_sent birth e h events s =
    λ i. cond (s.attached i) (accepted_requested birth e h events (happens_accepted birth e h events s) i ++ Complete ∷ []) (accepted_requested birth e h events (happens_accepted birth e h events s) i)

pub happens_taken : (birth : Birth) (e : Entry) (h : List Entry) (events : AskKind → ℕ → Outcome) → Happens birth e h events → taken (e ∷ h) ≡ taken h
happens_taken birth e h events s = taken_kept e h s.no_packet

pub detaches_accepted : (birth : Birth) (e : Entry) (h : List Entry) → Detaches birth e h → Accepted birth e h (λ k p. DetachedOutcome)
detaches_accepted birth e h s = record { accepted = s.accepted; each = s.each }

pub detaches_sent : (birth : Birth) (e : Entry) (h : List Entry) → Detaches birth e h → sent birth (e ∷ h) ≡ sent birth h ++ Complete ∷ []
detaches_sent birth e h s =
    ap (λ b. cond b (requested birth (e ∷ h) ++ Complete ∷ []) (requested birth (e ∷ h))) s.gone
    ∙ ap (λ (ps : List Packet). ps ++ Complete ∷ []) (accepted_requested birth e h (λ k p. DetachedOutcome) (detaches_accepted birth e h s))
    ∙ ap (λ b. cond b (requested birth h ++ Complete ∷ []) (requested birth h) ++ Complete ∷ []) (sym s.attached)

pub detaches_taken : (birth : Birth) (e : Entry) (h : List Entry) → Detaches birth e h → taken (e ∷ h) ≡ taken h
detaches_taken birth e h s = taken_kept e h s.no_packet

pub packet_accepted : (birth : Birth) (e : Entry) (h : List Entry) → TakesPacket birth e h → Accepted birth e h (λ k p. Waiting)
packet_accepted birth e h s = record { accepted = s.accepted; each = s.none }

pub packet_sent : (birth : Birth) (e : Entry) (h : List Entry) → TakesPacket birth e h → sent birth (e ∷ h) ≡ sent birth h
packet_sent birth e h s =
    λ i. cond (s.attached i) (accepted_requested birth e h (λ k p. Waiting) (packet_accepted birth e h s) i ++ Complete ∷ []) (accepted_requested birth e h (λ k p. Waiting) (packet_accepted birth e h s) i)

pub packet_taken : (birth : Birth) (e : Entry) (h : List Entry) → TakesPacket birth e h → taken (e ∷ h) ≡ suc (taken h)
packet_taken birth e h s = taken_more e h s.packet

-- a retry that is answered for good spends its ticket
pub retry_spends : (e : Entry) (h : List Entry) (ticket : ℕ) (brought : Brought) → e.call ≡ calls.Retry ticket brought → keeps_ticket e.reply ≡ false → ticket < next_ticket h → Spends e h ticket
retry_spends e h ticket brought call reply given = record { given = given; each = λ t. spent_retry e h ticket brought t call reply }

-- Whether the object was changed, and who acts.

pub zero_modifies : (birth : Birth) (e : Entry) (h : List Entry) (range : Span) → e.call ≡ calls.Zero range → accepts e.reply ≡ true → SetsModified birth e h true
zero_modifies birth e h range c a = record { is = rw (c, a) refl }

unreset : (call : Call) → is_touch call ≡ true → is_reset call ≡ false
unreset (calls.Stats reset) touch = absurd cc
unreset _ touch = refl

written : (reset write other was : Bool) → reset ≡ false → write ≡ true → (not reset && ((write || other) || was)) ≡ true
written r w o was none now = rw (none, now) refl

same_test : (b was : Bool) → (((b || false) && true) || was) ≡ (b || was)
same_test true was = refl
same_test false was = refl

pub write_modifies : (birth : Birth) (e : Entry) (h : List Entry) (a : Access) (new : List ℕ) → attempt h e ≡ Some a → a.bytes ≡ Some new → is_done e.reply ≡ true → is_touch e.call ≡ true → SetsModified birth e h true
write_modifies birth e h a new attempted brings done touch = record { is = written (is_reset e.call) (is_write (attempt h e) && is_done e.reply) ((asks_other_size e.call (size birth h) || is_zero_call e.call) && accepts e.reply) (modified birth h) (unreset e.call touch) (rw (attempted, brings, done) refl) }

pub stats_modifies : (birth : Birth) (e : Entry) (h : List Entry) (reset : Bool) → e.call ≡ calls.Stats reset → SetsModified birth e h (not reset && modified birth h)
stats_modifies birth e h reset c = record { is = rw c refl }

pub resize_modifies : (birth : Birth) (e : Entry) (h : List Entry) (pages : ℕ) → e.call ≡ calls.Resize pages → accepts e.reply ≡ true → SetsModified birth e h (not (pages == size birth h) || modified birth h)
resize_modifies birth e h pages c a = record { is = rw (c, a) (same_test (not (pages == size birth h)) (modified birth h)) }

pub user_departs : (birth : Birth) (e : Entry) (h : List Entry) (woken : ℕ) → e.call ≡ calls.Leave User → e.reply ≡ Left woken → Departs birth e h true
user_departs birth e h woken c r = record { acting = rw (c, r) refl; paging = rw c refl; cut_off = rw c refl }

pub pager_departs : (birth : Birth) (e : Entry) (h : List Entry) (woken : ℕ) → e.call ≡ calls.Leave Pager → e.reply ≡ Left woken → Departs birth e h false
pager_departs birth e h woken c r = record { acting = rw c refl; paging = rw (c, r) refl; cut_off = rw c refl }

pub detach_cuts_off : (birth : Birth) (e : Entry) (h : List Entry) → e.call ≡ calls.Detach → accepts e.reply ≡ true → SetsDetached birth e h
detach_cuts_off birth e h c a = record { acting = rw c refl; paging = rw c refl; cut_off = rw (c, a) refl }
