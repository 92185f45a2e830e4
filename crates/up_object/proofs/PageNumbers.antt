-- What is kept of a page by the numbers of begins, after one more entry, and which begins count for the page by it.
use Rattle.std.proofs.Common.{◌≡◌, ℕ, ◌&&◌, ◌||◌, not, Bool, true, false, cond, Option, Some, None, is_some, option_map, List, ◌∷◌, slice_get, refl, ap, sym, ◌∙◌, nat_le, nat_lt}
use Rattle.up_num.specs.Span.{covers}
use Rattle.up_model.specs.Deeds.{ThisBegin, named_by, dirties}
use Rattle.up_model.specs.Value.{there, marked, begun_by, begun, settled}
use Rattle.up_model.specs.States.{plain, unclean}
use Rattle.up_model.specs.Pins.{loaned}
use Rattle.up_model.specs.Numbers.{BeginOf, next_number, begin_named, dirtied_at, zero_until, counts_since}
use Rattle.up_model.specs.Reply.{same_flag}
use Rattle.up_model.specs.Looks.{PageLook, Missing, Zeros, Framed, look_by, look_of, is_unclean, awaits, lacks_own_frame}
use Rattle.up_model.specs.declared.entry.Birth.{Birth}
use Rattle.up_model.specs.declared.entry.Entry.{Entry}
use Rattle.up_object.specs.declared.marks.Mark.{Mark}
use Rattle.up_object.specs.declared.numbers.Begin.{Begin}
use Rattle.up_object.specs.Numbers.{NumbersStand, BeginsStand, as_begin, is_zeros, counts_by, ended_by}
use Rattle.up_object.proofs.PageLooks.{unclean_is}

zeros_by : (here mark rest run loan : Bool) → is_zeros (look_by here mark rest run loan) ≡ (here && mark)
zeros_by false m s b l = refl
zeros_by true true s b l = refl
zeros_by true false s b l = refl

-- a zero page, by its look
pub zeros_is : (birth : Birth) (h : List Entry) (p : ℕ) (look : PageLook) → look_of birth h p ≡ look → is_zeros look ≡ plain birth h p
zeros_is birth h p look is = ap is_zeros (sym is) ∙ zeros_by (there birth h p) (marked birth h p) (settled birth h p) (begun birth h p) (loaned birth h p)

until_kept : (b : Bool) (number old now : ℕ) → (b ≡ false → old ≡ now) → cond b number old ≡ cond b number now
until_kept true number old now same = refl
until_kept false number old now same = same refl

-- by whether the entry dirties the page, and what the page was
pub numbers_next : (mark new : Mark) (birth : Birth) (e : Entry) (h : List Entry) (p : ℕ) (old : PageLook) (dirt : Bool) → NumbersStand mark birth h p → look_of birth h p ≡ old → dirties birth h e p ≡ dirt →
    new.dirtied ≡ cond dirt (next_number h) mark.dirtied → (plain birth (e ∷ h) p ≡ false → new.unzeroed ≡ cond (is_zeros old) (next_number h) mark.unzeroed) → NumbersStand new birth (e ∷ h) p
numbers_next mark new birth e h p old dirt s was is now until = record {
  dirtied = ap (λ b. cond b (next_number h) (dirtied_at birth h p)) is ∙ ap (λ (n : ℕ). cond dirt (next_number h) n) s.dirtied ∙ sym now;
  unzeroed = λ bare. until_kept (plain birth h p) (next_number h) (zero_until birth h p) mark.unzeroed s.unzeroed
      ∙ ap (λ b. cond b (next_number h) mark.unzeroed) (sym (zeros_is birth h p old was)) ∙ sym (until bare);
}

unzeroed_by : (b : Bool) (number kept : ℕ) → b ≡ false → kept ≡ cond b number kept
unzeroed_by true number kept is = absurd cc
unzeroed_by false number kept is = refl

-- a page that is no zero page after the entry was none before
pub still_bare : (birth : Birth) (e : Entry) (h : List Entry) (p : ℕ) (old now : PageLook) (kept : ℕ) → look_of birth (e ∷ h) p ≡ now → (is_zeros now ≡ false → is_zeros old ≡ false) →
    plain birth (e ∷ h) p ≡ false → kept ≡ cond (is_zeros old) (next_number h) kept
still_bare birth e h p old now kept is so bare = unzeroed_by (is_zeros old) (next_number h) kept (so (zeros_is birth (e ∷ h) p now is ∙ bare))

-- a page that has a frame of its own is no zero page
pub own_bare : (look : PageLook) → lacks_own_frame look ≡ false → is_zeros look ≡ false
own_bare Missing own = refl
own_bare (Zeros state) own = absurd cc
own_bare (Framed state loan) own = refl

-- Which begins count for a page.

counts_kept : (birth : Birth) (h : List Entry) (p : ℕ) (look : PageLook) (mark : Mark) (n : ℕ) (b : Option Begin) → NumbersStand mark birth h p → look_of birth h p ≡ look →
    counts_since birth h (option_map as_begin b) n p ≡ counts_by look mark b n p
counts_kept birth h p look mark n None s is = refl
counts_kept birth h p look mark n (Some b) s is =
    let zeros : (plain birth h p || nat_lt n (zero_until birth h p)) ≡ (plain birth h p || nat_lt n mark.unzeroed) =
    elim (plain birth h p) as (λ z. plain birth h p ≡ z → (z || nat_lt n (zero_until birth h p)) ≡ (z || nat_lt n mark.unzeroed)) [
      | true ↦ λ q. refl
      | false ↦ λ q. ap (λ (k : ℕ). nat_lt n k) (s.unzeroed q)
    ] refl in
    let shows : is_zeros look ≡ plain birth h p = zeros_is birth h p look is in
    ap (λ (d : ℕ). covers b.range p && (nat_le d n && (not b.only_zero || (plain birth h p || nat_lt n (zero_until birth h p))))) s.dirtied
    ∙ ap (λ z. covers b.range p && (nat_le mark.dirtied n && (not b.only_zero || z))) (zeros ∙ ap (λ z. z || nat_lt n mark.unzeroed) (sym shows))

awaits_by : (here mark rest run loan : Bool) → (is_unclean (look_by here mark rest run loan) && awaits (look_by here mark rest run loan)) ≡ ((here && not rest) && run)
awaits_by false m s b l = refl
awaits_by true true true b l = refl
awaits_by true true false true l = refl
awaits_by true true false false l = refl
awaits_by true false true b l = refl
awaits_by true false false true l = refl
awaits_by true false false false l = refl

ranged : (flag : Bool) → same_flag flag false ≡ true → flag ≡ false
ranged true is = absurd cc
ranged false is = refl

numbered : (flag : Bool) → same_flag flag true ≡ true → flag ≡ true
numbered true is = refl
numbered false is = absurd cc

-- an end is for a page that isn't clean just where a begin that it is for counts for the page
pub ended_is : (birth : Birth) (h : List Entry) (p : ℕ) (look : PageLook) (mark : Mark) (begins : List Begin) (of : Option ℕ) →
    ((n : ℕ) → begun_by birth h (ThisBegin n) p ≡ counts_since birth h (begin_named h n) n p) →
    NumbersStand mark birth h p → BeginsStand begins h → look_of birth h p ≡ look → same_flag birth.numbered (is_some of) ≡ true →
    ended_by look mark begins of p ≡ (unclean birth h p && begun_by birth h (named_by birth.numbered of) p)
ended_is birth h p look mark begins None law s all is proper =
    ap (λ (l : PageLook). is_unclean l && awaits l) (sym is)
    ∙ awaits_by (there birth h p) (marked birth h p) (settled birth h p) (begun birth h p) (loaned birth h p)
    ∙ ap (λ b. unclean birth h p && begun_by birth h (named_by b None) p) (sym (ranged birth.numbered proper))
ended_is birth h p look mark begins (Some n) law s all is proper =
    let counts : counts_by look mark (slice_get begins n) n p ≡ begun_by birth h (ThisBegin n) p =
    sym (counts_kept birth h p look mark n (slice_get begins n) s is) ∙ ap (λ (o : Option BeginOf). counts_since birth h o n p) (all.named n) ∙ sym (law n) in
    ap (λ (l : PageLook). is_unclean l && counts_by look mark (slice_get begins n) n p) (sym is)
    ∙ ap (λ b. b && counts_by look mark (slice_get begins n) n p) (unclean_is birth h p)
    ∙ ap (λ b. unclean birth h p && b) (counts ∙ ap (λ b. begun_by birth h (named_by b (Some n)) p) (sym (numbered birth.numbered proper)))
