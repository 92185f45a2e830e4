-- What a reply tells that isn't a refusal and asks for no frames: every refusal before it was passed.
use Rattle.std.proofs.Common.{◌≡◌, ℕ, ◌<◌, ◌≤◌, ◌+◌, ◌==◌, Bool, true, false, cond, Option, Some, None, List, zero, suc, refl, ap, ◌∙◌, arith, nat_lt, inl, inr}
use Rattle.std.proofs.lemmas.Bool.Decides.{nat_tests}
use Rattle.std.proofs.lemmas.Bool.{cases_eq}
use Rattle.up_num.specs.Span.{Span, covers}
use Rattle.up_num.specs.declared.pages.PageNo.{PageNo}
use Rattle.up_num.specs.declared.answers.Refusal.{Refusal}
use Rattle.up_model.specs.Attempts.{accepts, is_done, blocks}
use Rattle.up_model.specs.Size.{size, range_fits}
use Rattle.up_model.specs.Deeds.{says_evicted, says_borrowed}
use Rattle.up_model.specs.Pages.{first_page}
use Rattle.up_model.specs.Reply.{refuse_where, refuse_at, with_frames, is_scan, frames_in, first_in}
use Rattle.up_model.specs.declared.entry.Birth.{Birth}
use Rattle.up_model.specs.declared.entry.Entry.{Entry}
use Rattle.up_model.specs.declared.entry.Brought.{Brought}
use Rattle.up_model.specs.declared.entry.Reply.{Reply}
use Rattle.up_model.specs.declared.entry.Reply.TheVariants.{Refused, Needs}

-- no refusal passes the test, and no reply that asks for frames
pub record Past (test : Reply → Bool) : Type 0 where
  pub refused : (why : Refusal) → test (Refused why) ≡ false
  pub needs : (count : ℕ) → test (Needs count) ≡ false

pub past_where : (test : Reply → Bool) → Past test → (b : Bool) (why : Refusal) (next : Reply) → test (refuse_where b why next) ≡ true → (b ≡ false) × (test next ≡ true)
past_where test past true why next is = let no = past.refused why in absurd cc
past_where test past false why next is = (refl, is)

pub past_at : (test : Reply → Bool) → Past test → (o : Option ℕ) (why : PageNo → Refusal) (next : Reply) → test (refuse_at o why next) ≡ true → (o ≡ None) × (test next ≡ true)
past_at test past None why next is = (refl, is)
past_at test past (Some p) why next is = let no = past.refused (why (record { 0 = p })) in absurd cc

past_three : (test : Reply → Bool) → Past test → (none scan few : Bool) (why : Refusal) (m : ℕ) (next : Reply) →
    test (cond none next (cond scan (Refused why) (cond few (Needs m) next))) ≡ true → test next ≡ true
past_three test past true scan few why m next is = is
past_three test past false true few why m next is = let no = past.refused why in absurd cc
past_three test past false false true why m next is = let no = past.needs m in absurd cc
past_three test past false false false why m next is = is

pub past_frames : (test : Reply → Bool) → Past test → (m : ℕ) (brought : Brought) (next : Reply) → test (with_frames m brought next) ≡ true → test next ≡ true
past_frames test past m brought next is = past_three test past (m == 0) (is_scan brought) (nat_lt (frames_in brought) m) _ m next is

first_none : (b : Bool) (p : ℕ) (rest : Option ℕ) → cond b (Some p) rest ≡ None → (b ≡ false) × (rest ≡ None)
first_none true p rest none = absurd cc
first_none false p rest none = (refl, none)

-- where no page of the n from p on passes the test, none of them does
pub none_passes : (test : ℕ → Bool) (p n : ℕ) → first_page test p n ≡ None → (q : ℕ) → p ≤ q → q < p + n → test q ≡ false
none_passes test p zero none q low high = absurd (omega arith)
none_passes test p (suc n) none q low high =
    let here = first_none (test p) p (first_page test (p + 1) n) none in
    elim (cases_eq q p) [
      | inl same ↦ ap test same ∙ here.0
      | inr other ↦ none_passes test (p + 1) n here.1 q (omega arith) (omega arith)
    ]

-- the pages that a range has
pub covers_bounds : (range : Span) (p : ℕ) → covers range p ≡ true → (range.first ≤ p) × (p < range.first + range.count)
covers_bounds range p is = grind (arith, nat_tests)

-- those of a range that fits lie within the object
pub covers_within : (birth : Birth) (h : List Entry) (range : Span) (p : ℕ) → range_fits birth h range ≡ true → covers range p ≡ true → p < size birth h
covers_within birth h range p fits is = let bounds = covers_bounds range p is in grind (arith, nat_tests)

-- no page of a range passes the test, where none is found
pub none_in : (test : ℕ → Bool) (range : Span) (p : ℕ) → first_in test range ≡ None → covers range p ≡ true → test p ≡ false
none_in test range p none is = let bounds = covers_bounds range p is in none_passes test range.first range.count none p bounds.0 bounds.1

-- accepted, done, blocked
pub past_accepts : Past accepts
past_accepts = record { refused = λ why. refl; needs = λ count. refl }

pub past_done : Past is_done
past_done = record { refused = λ why. refl; needs = λ count. refl }

pub past_evicted : (p : ℕ) → Past (λ r. says_evicted r p)
past_evicted p = record { refused = λ why. refl; needs = λ count. refl }

pub past_borrowed : Past says_borrowed
past_borrowed = record { refused = λ why. refl; needs = λ count. refl }

pub past_blocks : (t : ℕ) → Past (λ r. blocks r t)
past_blocks t = record { refused = λ why. refl; needs = λ count. refl }
