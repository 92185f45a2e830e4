-- A call that detaches the object.
use Rattle.std.proofs.Common.{◌≡◌, ℕ, ◌<◌, ◌≤◌, ◌&&◌, true, false, List, refl, sym, ◌∙◌, arith, nat_le, nat_lt}
use Rattle.std.proofs.lemmas.Bool.Decides.{nat_tests}
use Rattle.up_num.specs.declared.answers.AskKind.TheVariants.{Dirty as DirtyAsk}
use Rattle.up_model.specs.Attempts.{accepts}
use Rattle.up_model.specs.Size.{size}
use Rattle.up_model.specs.Asks.{asked}
use Rattle.up_model.specs.Roles.{detached}
use Rattle.up_model.specs.Packets.{is_packet}
use Rattle.up_model.specs.Changes.{Detaches}
use Rattle.up_model.specs.Legal.{Legal}
use Rattle.up_model.specs.declared.entry.Birth.{Birth}
use Rattle.up_model.specs.declared.entry.Call.TheVariants.{Detach}
use Rattle.up_model.specs.declared.entry.Entry.{Entry}
use Rattle.up_model.proofs.Asked.{dirty_asked}
use Rattle.up_model.proofs.Presence.{pages_within}
use Rattle.up_model.proofs.Resolved.{accepted_asked, detaches_accepted}
use Rattle.up_object.specs.Change.{CallProgress, Rests}

pub detach_detaches : (birth : Birth) (e : Entry) (h : List Entry) → e.call ≡ Detach → accepts e.reply ≡ true → is_packet e.reply ≡ false → detached birth h ≡ false → Detaches birth e h
detach_detaches birth e h c a n attached = record {
  accepted = a;
  no_packet = n;
  attached = attached;
  gone = rw (c, a) refl;
  each = λ k p. rw (c, attached) refl;
}

-- a page past the end isn't asked for
beyond_unasked : (birth : Birth) (h : List Entry) → Legal birth h → (p : ℕ) → size birth h ≤ p → asked birth h DirtyAsk p ≡ false
beyond_unasked birth h legal p past = elim (asked birth h DirtyAsk p) as (λ b. asked birth h DirtyAsk p ≡ b → b ≡ false) [
  | true ↦ λ q. let low : p < size birth h = pages_within birth h legal p (dirty_asked birth h legal p q).here in absurd (omega arith)
  | false ↦ λ q. refl
] refl

past_end : (p n : ℕ) → (nat_le 0 p && nat_lt p n) ≡ false → n ≤ p
past_end p n out = grind (arith, nat_tests)

none_done : (p : ℕ) → (nat_le 0 p && nat_lt p 0) ≡ false
none_done p = grind (arith, nat_tests)

-- pages past the end keep their places
pub detached_places : (birth : Birth) (e : Entry) (h : List Entry) (done : CallProgress) → Legal birth h → Detaches birth e h → done.first ≡ 0 → done.mark ≡ 0 →
    (p : ℕ) → (nat_le 0 p && nat_lt p (size birth h)) ≡ false → Rests birth e h done p
detached_places birth e h done legal d from to p out = record {
  undone = rw (from, to) (none_done p);
  unasked = accepted_asked birth e h _ (detaches_accepted birth e h d) DirtyAsk p ∙ sym (beyond_unasked birth h legal p (past_end p (size birth h) out));
}
