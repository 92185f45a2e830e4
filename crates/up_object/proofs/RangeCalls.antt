-- What a call over a range needs at its end, and how far it has come.
use Rattle.std.proofs.Common.{◌≡◌, ℕ, ◌+◌, ◌-◌, ◌<◌, ◌≤◌, ◌&&◌, Bool, true, false, cond, List, ap, sym, ◌∙◌, subst, arith, nat_le, nat_lt}
use Rattle.std.proofs.lemmas.Bool.Decides.{nat_tests}
use Rattle.up_num.specs.Span.{Span, covers}
use Rattle.up_num.specs.declared.answers.AskKind.TheVariants.{Dirty as DirtyAsk}
use Rattle.up_model.specs.Concerns.{keeps_asks}
use Rattle.up_model.proofs.Kept.{kept_asks}
use Rattle.up_model.specs.declared.entry.Birth.{Birth}
use Rattle.up_model.specs.declared.entry.Entry.{Entry}
use Rattle.up_object.specs.Change.{Change, CallProgress, Rests, next, next_using}
use Rattle.up_object.specs.OneCall.{further}
use Rattle.up_object.proofs.PageSteps.{count_step}
use Rattle.up_span.specs.Pages.{count_pages}

-- where the asked pages stay, the pages that aren't done keep their places
pub rests_outside : (birth : Birth) (e : Entry) (h : List Entry) (done : CallProgress) (from to p : ℕ) → done.first ≡ from → done.mark ≡ to → keeps_asks e ≡ true →
    (nat_le from p && nat_lt p to) ≡ false → Rests birth e h done p
rests_outside birth e h done from to p f m keeps out = record {
  undone = ap (λ n. nat_le n p && nat_lt p done.mark) f ∙ ap (λ n. nat_le from p && nat_lt p n) m ∙ out;
  unasked = (kept_asks birth e h keeps).pages DirtyAsk p;
}

pub further_none : (change : Change) → change ≡ further 0 change
further_none change = let same : change.done.mark ≡ change.done.mark + 0 = omega arith in ap (λ n. record change { done = record change.done { mark = n } }) same

pub further_next : (change : Change) (n : ℕ) → next (further n change) ≡ further (n + 1) change
further_next change n = let same : change.done.mark + n + 1 ≡ change.done.mark + (n + 1) = omega arith in ap (λ m. record change { done = record change.done { mark = m } }) same

-- the pages of a range, one after the other
pub covered_at : (range : Span) (mark place : ℕ) → mark ≡ range.first → place < range.count → covers range (mark + place) ≡ true
covered_at range mark place is lt = grind (arith, nat_tests)

-- one page further, with a given frame used or not
pub used_further : (uses : Bool) (old change new : Change) (n : ℕ) → change ≡ record (further n old) { given = change.given } → new ≡ next_using uses change →
    new ≡ record (further (n + 1) old) { given = new.given }
used_further uses old change new n at is =
    let same : old.done.mark + n + 1 ≡ old.done.mark + (n + 1) = omega arith in
    let given : new.given ≡ change.given - cond uses 1 0 = ap (λ (c : Change). c.given) is in
    is ∙ ap (next_using uses) at ∙ (λ i. record old { done = record old.done { mark = same i }; given = sym given i })

-- where the pages to come need no more frames than are left, one that needs a frame finds one, and the others do after it
pub one_left : (test : ℕ → Bool) (first place count left : ℕ) → place < count → count_pages test (first + place) (count - place) ≤ left → test (first + place) ≡ true → 0 < left
one_left test first place count left lt enough needs =
    let more : count_pages test (first + place) (count - place) ≡ 1 + count_pages test (first + (place + 1)) (count - (place + 1)) =
    count_step test first place count lt ∙ ap (λ b. cond b 1 0 + count_pages test (first + (place + 1)) (count - (place + 1))) needs in
    omega arith

less_left : (uses : Bool) (n rest left : ℕ) → n ≡ cond uses 1 0 + rest → n ≤ left → rest ≤ left - cond uses 1 0
less_left true n rest left is enough = omega arith
less_left false n rest left is enough = omega arith

pub rest_left : (test : ℕ → Bool) (first place count left now : ℕ) → place < count → count_pages test (first + place) (count - place) ≤ left → now ≡ left - cond (test (first + place)) 1 0 →
    count_pages test (first + (place + 1)) (count - (place + 1)) ≤ now
rest_left test first place count left now lt enough is =
    subst (λ (n : ℕ). count_pages test (first + (place + 1)) (count - (place + 1)) ≤ n) (sym is)
    (less_left (test (first + place)) _ _ left (count_step test first place count lt) enough)
