-- What a call makes that makes pages zeros.
use Rattle.std.proofs.Common.{◌≡◌, ℕ, ◌+◌, ◌<◌, ◌≤◌, ◌&&◌, true, false, List, refl, ap, ◌∙◌, arith, nat_le, nat_lt}
use Rattle.std.proofs.lemmas.Bool.Decides.{nat_tests}
use Rattle.up_num.specs.Span.{Span, covers}
use Rattle.up_num.specs.declared.answers.AskKind.TheVariants.{Dirty as DirtyAsk}
use Rattle.up_num.specs.declared.answers.Outcome.TheVariants.{Freed}
use Rattle.up_model.specs.Attempts.{accepts}
use Rattle.up_model.specs.Packets.{is_packet}
use Rattle.up_model.specs.Asks.{resolves}
use Rattle.up_model.specs.Concerns.{concerns}
use Rattle.up_model.specs.Changes.{Blanks, Happens}
use Rattle.up_model.specs.declared.entry.Birth.{Birth}
use Rattle.up_model.specs.declared.entry.Call.{Call}
use Rattle.up_model.specs.declared.entry.Call.TheVariants as calls
use Rattle.up_model.specs.declared.entry.Entry.{Entry}
use Rattle.up_model.proofs.OneEntryMore.{changes_roles, detached_kept}
use Rattle.up_model.proofs.PagesTouched.{zero_blanks}
use Rattle.up_object.specs.Change.{CallProgress, is_done, Rests}
use Rattle.up_size.specs.Sizes.{over}
use Rattle.up_size.proofs.Events.{unasked_outside}

-- those who wait for one of the pages are freed
pub zero_happens : (birth : Birth) (e : Entry) (h : List Entry) (range : Span) → e.call ≡ calls.Zero range → accepts e.reply ≡ true → is_packet e.reply ≡ false → Happens birth e h (over range Freed)
zero_happens birth e h range c a n = record {
  accepted = a;
  no_packet = n;
  attached = detached_kept birth e h (ap changes_roles c);
  each = λ kind p. ap (λ (call : Call). resolves birth h call kind p) c;
}

inside : (range : Span) (p : ℕ) → range.first ≤ p → p < range.first + range.count → covers range p ≡ true
inside range p low below = grind (arith, nat_tests)

pub zeroed : (birth : Birth) (e : Entry) (h : List Entry) (range : Span) (first limit : ℕ) → e.call ≡ calls.Zero range → accepts e.reply ≡ true → first ≡ range.first → limit ≡ range.first + range.count →
    (p : ℕ) → first ≤ p → p < limit → Blanks birth e h p
zeroed birth e h range first limit c a from to p low below = zero_blanks birth e h range p c a (inside range p (omega arith) (omega arith))

-- the call is done with just the pages of a range
pub is_over : (done : CallProgress) (range : Span) (p : ℕ) → done.first ≡ range.first → done.mark ≡ range.first + range.count → is_done done p ≡ covers range p
is_over done range p from to = λ i. nat_le (from i) p && nat_lt p (to i)

-- other pages aren't concerned
pub zero_leaves : (birth : Birth) (e : Entry) (h : List Entry) (range : Span) (p : ℕ) → e.call ≡ calls.Zero range → accepts e.reply ≡ true → covers range p ≡ false → concerns birth h e p ≡ false
zero_leaves birth e h range p c a out = rw (c, a, out) refl

-- and keep their places
pub zero_rests : (birth : Birth) (e : Entry) (h : List Entry) (range : Span) (done : CallProgress) (p : ℕ) → e.call ≡ calls.Zero range → accepts e.reply ≡ true → is_packet e.reply ≡ false →
    done.first ≡ range.first → done.mark ≡ range.first + range.count → covers range p ≡ false → Rests birth e h done p
zero_rests birth e h range done p c a n from to out = record {
  undone = is_over done range p from to ∙ out;
  unasked = unasked_outside birth e h range Freed (zero_happens birth e h range c a n) DirtyAsk p out;
}
