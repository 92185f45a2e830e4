-- What a call makes that sets how many pages an object has.
use Rattle.std.proofs.Common.{◌≡◌, ℕ, ◌+◌, ◌-◌, ◌<◌, ◌≤◌, ◌==◌, ◌&&◌, ◌||◌, not, Bool, true, false, cond, Some, None, List, ◌∷◌, zero, suc, refl, ap, sym, ◌∙◌, subst, arith, nat_le, nat_lt, inl, inr}
use Rattle.std.proofs.lemmas.Bool.{cases_eq}
use Rattle.std.proofs.lemmas.Bool.Decides.{nat_tests}
use Rattle.up_num.specs.Span.{Span}
use Rattle.up_num.specs.declared.answers.AskKind.{AskKind}
use Rattle.up_num.specs.declared.answers.AskKind.TheVariants.{Dirty as DirtyAsk}
use Rattle.up_num.specs.declared.answers.Outcome.TheVariants.{Waiting, Shrunk}
use Rattle.up_span.specs.Pages.{first_page}
use Rattle.up_model.specs.Attempts.{accepts}
use Rattle.up_model.specs.Packets.{is_packet}
use Rattle.up_model.specs.Pins.{pins}
use Rattle.up_model.specs.Size.{size}
use Rattle.up_model.specs.Asks.{asked, resolves}
use Rattle.up_model.specs.Reply.{is_pinned}
use Rattle.up_model.specs.Concerns.{concerns}
use Rattle.up_model.specs.Changes.{Blanks, Vanishes, Happens}
use Rattle.up_model.specs.declared.entry.Birth.{Birth}
use Rattle.up_model.specs.declared.entry.Call.{Call}
use Rattle.up_model.specs.declared.entry.Call.TheVariants as calls
use Rattle.up_model.specs.declared.entry.Entry.{Entry}
use Rattle.up_model.proofs.Passed.{none_passes}
use Rattle.up_model.proofs.Resolved.{accepted_asked, happens_accepted}
use Rattle.up_model.proofs.OneEntryMore.{changes_roles, detached_kept}
use Rattle.up_model.proofs.PagesTouched.{growth_blanks, cut_vanishes}
use Rattle.up_object.specs.Change.{Change, CallProgress, Rests}
use Rattle.up_size.specs.Sizes.{over, pinned_past}
use Rattle.up_size.proofs.Events.{unasked_outside}

-- The size after it.

pub size_set : (birth : Birth) (e : Entry) (h : List Entry) (pages : ℕ) → e.call ≡ calls.Resize pages → accepts e.reply ≡ true → size birth (e ∷ h) ≡ pages
size_set birth e h pages c a = rw (c, a) refl

-- Growth.

-- no page is cut off
pub uncut : (pages n p : ℕ) → n ≤ pages → (nat_lt p n && nat_le pages p) ≡ false
uncut pages n p more = grind (arith, nat_tests)

pub growth_resolves : (birth : Birth) (h : List Entry) (pages : ℕ) (kind : AskKind) (p : ℕ) → size birth h ≤ pages → resolves birth h (calls.Resize pages) kind p ≡ Waiting
growth_resolves birth h pages kind p more = ap (λ b. cond b Shrunk Waiting) (uncut pages (size birth h) p more)

pub growth_happens : (birth : Birth) (e : Entry) (h : List Entry) (pages : ℕ) → e.call ≡ calls.Resize pages → accepts e.reply ≡ true → is_packet e.reply ≡ false → size birth h ≤ pages → Happens birth e h (λ kind p. Waiting)
growth_happens birth e h pages c a n more = record {
  accepted = a;
  no_packet = n;
  attached = detached_kept birth e h (ap changes_roles c);
  each = λ kind p. ap (λ (call : Call). resolves birth h call kind p) c ∙ growth_resolves birth h pages kind p more;
}

brought : (pages n p : ℕ) → n ≤ p → p < pages → (nat_le n p && nat_lt p pages) ≡ true
brought pages n p low below = grind (arith, nat_tests)

pub grown_blanks : (birth : Birth) (e : Entry) (h : List Entry) (pages first : ℕ) → e.call ≡ calls.Resize pages → accepts e.reply ≡ true → first ≡ size birth h → (p : ℕ) → first ≤ p → p < pages → Blanks birth e h p
grown_blanks birth e h pages first c a from p low below =
    growth_blanks birth e h pages p c a (brought pages (size birth h) p (subst (λ (n : ℕ). n ≤ p) from low) below)

outside_both : (pages n p : ℕ) → n ≤ pages → (nat_le n p && nat_lt p pages) ≡ false → ((nat_le n p && nat_lt p pages) || (nat_lt p n && nat_le pages p)) ≡ false
outside_both pages n p more out = rw out (uncut pages n p more)

-- other pages aren't concerned
pub growth_leaves : (birth : Birth) (e : Entry) (h : List Entry) (pages first p : ℕ) → e.call ≡ calls.Resize pages → accepts e.reply ≡ true → first ≡ size birth h → first ≤ pages →
    (nat_le first p && nat_lt p pages) ≡ false → concerns birth h e p ≡ false
growth_leaves birth e h pages first p c a from more out =
    rw (c, a) (outside_both pages (size birth h) p (subst (λ (n : ℕ). n ≤ pages) from more) (subst (λ (n : ℕ). (nat_le n p && nat_lt p pages) ≡ false) from out))

pub growth_rests : (birth : Birth) (e : Entry) (h : List Entry) (pages first : ℕ) (done : CallProgress) (p : ℕ) → e.call ≡ calls.Resize pages → accepts e.reply ≡ true → is_packet e.reply ≡ false → size birth h ≤ pages →
    done.first ≡ first → done.mark ≡ pages → (nat_le first p && nat_lt p pages) ≡ false → Rests birth e h done p
growth_rests birth e h pages first done p c a n more from to out = record {
  undone = (λ i. nat_le (from i) p && nat_lt p (to i)) ∙ out;
  unasked = accepted_asked birth e h (λ kind q. Waiting) (happens_accepted birth e h (λ kind q. Waiting) (growth_happens birth e h pages c a n more)) DirtyAsk p;
}

-- A cut.

cut_covers : (pages n p : ℕ) → pages < n → (nat_lt p n && nat_le pages p) ≡ (nat_le pages p && nat_lt p (pages + (n - pages)))
cut_covers pages n p less = grind (arith, nat_tests)

abbrev pub cut_range : ℕ → ℕ → Span
cut_range pages n = record { first = pages; count = n - pages }

pub cut_resolves : (birth : Birth) (h : List Entry) (pages n : ℕ) (kind : AskKind) (p : ℕ) → n ≡ size birth h → pages < n → resolves birth h (calls.Resize pages) kind p ≡ over (cut_range pages n) Shrunk kind p
cut_resolves birth h pages n kind p is less =
    ap (λ (m : ℕ). cond (nat_lt p m && nat_le pages p) Shrunk Waiting) (sym is) ∙ ap (λ b. cond b Shrunk Waiting) (cut_covers pages n p less)

pub cut_happens : (birth : Birth) (e : Entry) (h : List Entry) (pages n : ℕ) → e.call ≡ calls.Resize pages → accepts e.reply ≡ true → is_packet e.reply ≡ false → n ≡ size birth h → pages < n →
    Happens birth e h (over (cut_range pages n) Shrunk)
cut_happens birth e h pages n c a calm is less = record {
  accepted = a;
  no_packet = calm;
  attached = detached_kept birth e h (ap changes_roles c);
  each = λ kind p. ap (λ (call : Call). resolves birth h call kind p) c ∙ cut_resolves birth h pages n kind p is less;
}

zero_is : (b : Bool) (n : ℕ) → (b && not (n == 0)) ≡ false → b ≡ true → n ≡ 0
zero_is b n is on = grind (arith, nat_tests)

past : (pages p : ℕ) → pages ≤ p → nat_le pages p ≡ true
past pages p low = grind (arith, nat_tests)

cut_asked : (pages n p : ℕ) → pages ≤ p → p < n → (nat_lt p n && nat_le pages p) ≡ true
cut_asked pages n p low below = grind (arith, nat_tests)

-- the pages that are cut off have no pins
pub cut_gone : (birth : Birth) (e : Entry) (h : List Entry) (pages n : ℕ) → e.call ≡ calls.Resize pages → accepts e.reply ≡ true → n ≡ size birth h → first_page (pinned_past h pages) 0 (size birth h) ≡ None →
    (p : ℕ) → pages ≤ p → p < n → Vanishes birth e h p
cut_gone birth e h pages n c a is none p low below =
    let inside : p < size birth h = subst (λ (m : ℕ). p < m) is below in
    let unpinned = none_passes (pinned_past h pages) 0 (size birth h) none p (omega arith) (omega arith) in
    cut_vanishes birth e h pages p c a (cut_asked pages (size birth h) p low inside) (zero_is (nat_le pages p) (pins h p) unpinned (past pages p low))

-- in the middle of the call: all pages that it is on vanish
abbrev pub AllVanish : Change → Type 0
AllVanish change = (p : ℕ) → change.done.first ≤ p → p < change.done.limit → Vanishes change.birth change.entry change.journal p

outside_cut : (pages n p : ℕ) → pages < n → (nat_le pages p && nat_lt p n) ≡ false → ((nat_le n p && nat_lt p pages) || (nat_lt p n && nat_le pages p)) ≡ false
outside_cut pages n p less out = grind (arith, nat_tests)

pub cut_leaves : (birth : Birth) (e : Entry) (h : List Entry) (pages n p : ℕ) → e.call ≡ calls.Resize pages → accepts e.reply ≡ true → n ≡ size birth h → pages < n →
    (nat_le pages p && nat_lt p n) ≡ false → concerns birth h e p ≡ false
cut_leaves birth e h pages n p c a is less out =
    rw (c, a) (outside_cut pages (size birth h) p (subst (λ (m : ℕ). pages < m) is less) (subst (λ (m : ℕ). (nat_le pages p && nat_lt p m) ≡ false) is out))

cut_out : (pages n p : ℕ) → pages < n → (nat_le pages p && nat_lt p n) ≡ false → (nat_le pages p && nat_lt p (pages + (n - pages))) ≡ false
cut_out pages n p less out = let same : pages + (n - pages) ≡ n = omega arith in ap (λ (m : ℕ). nat_le pages p && nat_lt p m) same ∙ out

pub cut_unasked : (birth : Birth) (e : Entry) (h : List Entry) (pages n : ℕ) → e.call ≡ calls.Resize pages → accepts e.reply ≡ true → is_packet e.reply ≡ false → n ≡ size birth h → pages < n →
    (p : ℕ) → (nat_le pages p && nat_lt p n) ≡ false → asked birth (e ∷ h) DirtyAsk p ≡ asked birth h DirtyAsk p
cut_unasked birth e h pages n c a calm is less p out =
    unasked_outside birth e h (cut_range pages n) Shrunk (cut_happens birth e h pages n c a calm is less) DirtyAsk p (cut_out pages n p less out)

-- The first page with a pin that is cut off.

skips : (test other : ℕ → Bool) (p n : ℕ) → ((q : ℕ) → p ≤ q → test q ≡ other q) → first_page test p n ≡ first_page other p n
skips test other p zero same = refl
skips test other p (suc n) same = λ i. cond (same p (omega arith) i) (Some p) (skips test other (p + 1) n (λ q low. same q (omega arith)) i)

none_before : (h : List Entry) (pages q : ℕ) → q < pages → pinned_past h pages q ≡ false
none_before h pages q low = let below : nat_le pages q ≡ false = grind (arith, nat_tests) in rw below refl

all_past : (h : List Entry) (pages q : ℕ) → pages ≤ q → pinned_past h pages q ≡ is_pinned h q
all_past h pages q low = rw (past pages q low) refl

-- none of the first pages passes
begins_at : (test : ℕ → Bool) (p pages n : ℕ) → ((q : ℕ) → q < pages → test q ≡ false) → p ≤ pages → pages ≤ p + n → first_page test p n ≡ first_page test pages (p + n - pages)
begins_at test p pages zero fails low high =
    let same : p + 0 - pages ≡ 0 = omega arith in sym (ap (λ (k : ℕ). first_page test pages k) same)
begins_at test p pages (suc n) fails low high = elim (cases_eq p pages) [
  | inl same ↦ let all : p + suc n - pages ≡ suc n = omega arith in (λ i. first_page test (same i) (sym all i))
  | inr other ↦
      let below : p < pages = omega arith in
      let rest = begins_at test (p + 1) pages n fails (omega arith) (omega arith) in
      let same : p + 1 + n ≡ p + suc n = omega arith in
      rw (fails p below) (rest ∙ ap (λ (m : ℕ). first_page test pages (m - pages)) same)
]

pub first_past : (h : List Entry) (pages n : ℕ) → pages < n → first_page (is_pinned h) pages (n - pages) ≡ first_page (pinned_past h pages) 0 n
first_past h pages n less =
    let same : 0 + n ≡ n = omega arith in
    sym (begins_at (pinned_past h pages) 0 pages n (none_before h pages) (omega arith) (omega arith)
    ∙ ap (λ (m : ℕ). first_page (pinned_past h pages) pages (m - pages)) same
    ∙ skips (pinned_past h pages) (is_pinned h) pages (n - pages) (all_past h pages))

none_at : (test : ℕ → Bool) (p n : ℕ) → ((q : ℕ) → q < p + n → test q ≡ false) → first_page test p n ≡ None
none_at test p zero fails = refl
none_at test p (suc n) fails = let here = fails p (omega arith) in rw here (none_at test (p + 1) n (λ q low. fails q (omega arith)))

pub none_past : (h : List Entry) (pages n : ℕ) → n ≤ pages → None ≡ first_page (pinned_past h pages) 0 n
none_past h pages n more = sym (none_at (pinned_past h pages) 0 n (λ q low. none_before h pages q (omega arith)))
