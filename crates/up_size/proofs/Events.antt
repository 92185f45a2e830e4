-- The same becomes of all who wait for a page of a range: as events, and what it leaves of what is asked for.
use Rattle.std.proofs.Common.{◌≡◌, ℕ, ◌&&◌, false, cond, List, [], ◌∷◌, refl, ap, sym, ◌∙◌}
use Rattle.up_num.specs.Span.{Span, covers}
use Rattle.up_num.specs.Asks.{then_outcome, is_waiting}
use Rattle.up_num.specs.declared.answers.AskKind.{AskKind}
use Rattle.up_num.specs.declared.answers.AskKind.TheVariants.{Read as ReadAsk, Dirty as DirtyAsk}
use Rattle.up_num.specs.declared.answers.Outcome.{Outcome}
use Rattle.up_num.specs.declared.answers.Outcome.TheVariants.{Waiting, Freed, Failed, Detached as DetachedOutcome, Shrunk}
use Rattle.up_asks.specs.Asking.{events_of}
use Rattle.up_asks.specs.Keeps.{AllFixed}
use Rattle.up_asks.specs.declared.event.Event.{Event}
use Rattle.up_model.specs.Asks.{asked}
use Rattle.up_model.specs.Changes.{Happens}
use Rattle.up_model.specs.declared.entry.Birth.{Birth}
use Rattle.up_model.specs.declared.entry.Entry.{Entry}
use Rattle.up_model.proofs.Resolved.{accepted_asked, happens_accepted}
use Rattle.up_size.specs.Sizes.{over, event_over, both_over}

then_waits : (outcome : Outcome) → then_outcome outcome Waiting ≡ outcome
then_waits Waiting = refl
then_waits Freed = refl
then_waits (Failed code) = refl
then_waits DetachedOutcome = refl
then_waits Shrunk = refl

-- both events say it
pub both_say : (range : Span) (outcome : Outcome) (kind : AskKind) (p : ℕ) → events_of (both_over range outcome) kind p ≡ over range outcome kind p
both_say range outcome ReadAsk p = then_waits (cond (covers range p) outcome Waiting)
both_say range outcome DirtyAsk p = then_waits (cond (covers range p) outcome Waiting)

pub both_are : (read dirty : Event) (range : Span) (outcome : Outcome) → read ≡ event_over ReadAsk range outcome → dirty ≡ event_over DirtyAsk range outcome → read ∷ dirty ∷ [] ≡ both_over range outcome
both_are read dirty range outcome one other = λ i. one i ∷ other i ∷ []

-- so do events that are these
pub pair_says : (read dirty : Event) (range : Span) (outcome : Outcome) → read ≡ event_over ReadAsk range outcome → dirty ≡ event_over DirtyAsk range outcome → (kind : AskKind) (p : ℕ) →
    events_of (read ∷ dirty ∷ []) kind p ≡ over range outcome kind p
pair_says read dirty range outcome one other kind p =
    ap (λ (events : List Event). events_of events kind p) (both_are read dirty range outcome one other) ∙ both_say range outcome kind p

pub pair_fixed : (read dirty : Event) (range : Span) (outcome : Outcome) → read ≡ event_over ReadAsk range outcome → dirty ≡ event_over DirtyAsk range outcome → is_waiting outcome ≡ false → AllFixed (read ∷ dirty ∷ [])
pair_fixed read dirty range outcome one other fixed = (ap (λ (e : Event). is_waiting e.outcome) one ∙ fixed, (ap (λ (e : Event). is_waiting e.outcome) other ∙ fixed, tt))

pub pair_happens : (birth : Birth) (e : Entry) (h : List Entry) (read dirty : Event) (range : Span) (outcome : Outcome) → read ≡ event_over ReadAsk range outcome → dirty ≡ event_over DirtyAsk range outcome →
    Happens birth e h (over range outcome) → Happens birth e h (events_of (read ∷ dirty ∷ []))
pair_happens birth e h read dirty range outcome one other s = record {
  accepted = s.accepted;
  no_packet = s.no_packet;
  attached = s.attached;
  each = λ kind p. s.each kind p ∙ sym (pair_says read dirty range outcome one other kind p);
}

-- outside the range all is asked for as before
pub unasked_outside : (birth : Birth) (e : Entry) (h : List Entry) (range : Span) (outcome : Outcome) → Happens birth e h (over range outcome) → (kind : AskKind) (p : ℕ) → covers range p ≡ false →
    asked birth (e ∷ h) kind p ≡ asked birth h kind p
unasked_outside birth e h range outcome s kind p out =
    accepted_asked birth e h (over range outcome) (happens_accepted birth e h (over range outcome) s) kind p
    ∙ ap (λ b. is_waiting (cond b outcome Waiting) && asked birth h kind p) out
