-- Which claim is in the way of a range, and that claims stay disjoint.
use Rattle.std.proofs.Common.{◌≡◌, ℕ, ◌+◌, ◌<◌, ◌≤◌, ◌==◌, Bool, true, false, cond, Option, Some, None, is_some, List, [], ◌∷◌, zero, suc, length, slice_get, ltb, refl, sym, ap, ◌∙◌, subst, ⊎_elim, arith}
use Rattle.std.proofs.lemmas.Bool.{cases_lt, false≢true}
use Rattle.std.proofs.lemmas.Bool.Decides.{nat_tests}
use Rattle.up_num.specs.Span.{Span, covers}
use Rattle.up_model.proofs.Bools.{nat_eq_true}
use Rattle.up_claims.specs.Slots.{at_most_one, range_of, has_page, overlaps, Disjoint, IsClaimed, IsInTheWay, in_way, earlier, FoundBefore}
use Rattle.up_claims.specs.declared.claims.Found.{Found}

none_some : {A : Type 0} (a : A) → None ≡ Some a → ⊥
none_some a is = false≢true (ap is_some is)

some_is : (m n : ℕ) → Some m ≡ Some n → m ≡ n
some_is m n is = ap (λ o. elim o [ Some k ↦ k | None ↦ m ]) is

-- the places before the next one are those before this one, and this one
before_next : (P : ℕ → Type 0) (place : ℕ) → ((n : ℕ) → n < place → P n) → P place → (n : ℕ) → n < place + 1 → P n
before_next P place before here n low = ⊎_elim
    (λ less. before n less)
    (λ more. let same : place ≡ n = omega arith in subst P same here)
    (cases_lt n place)

found_by : (slots : List (Option Span)) (range : Span) (place : ℕ) (found : Option Found) (way : Option ℕ) → in_way range (range_of slots place) ≡ way →
    FoundBefore slots range place found → FoundBefore slots range (place + 1) (earlier found place way)
found_by slots range place None None is before = before_next (λ n. in_way range (range_of slots n) ≡ None) place before is
found_by slots range place None (Some first) is before = (
  omega arith,
  is,
  λ n other low. before_next (λ n. in_way range (range_of slots n) ≡ Some other → first ≤ other) place
      (λ n less there. absurd (none_some other (sym (before n less) ∙ there)))
      (λ there. let same : first ≡ other = some_is first other (sym is ∙ there) in omega arith) n low,
)
found_by slots range place (Some best) None is before =
    let below : best.place < place = before.0 in (
      omega arith,
      before.1,
      λ n other low. before_next (λ n. in_way range (range_of slots n) ≡ Some other → best.first ≤ other) place
          (λ n less there. before.2 n other less there)
          (λ there. absurd (none_some other (sym is ∙ there))) n low,
    )
found_by slots range place (Some best) (Some first) is before =
    let below : best.place < place = before.0 in
    elim (ltb first best.first) as (λ b. ltb first best.first ≡ b →
    FoundBefore slots range (place + 1) (cond b (Some (record { place = place; first = first })) (Some best))) [
      | true ↦ λ less. let less' : first < best.first = grind (arith, nat_tests) in (
        omega arith,
        is,
        λ n other low. before_next (λ n. in_way range (range_of slots n) ≡ Some other → first ≤ other) place
            (λ n less there. let old : best.first ≤ other = before.2 n other less there in omega arith)
            (λ there. let same : first ≡ other = some_is first other (sym is ∙ there) in omega arith) n low,
      )
      | false ↦ λ more. let more' : best.first ≤ first = grind (arith, nat_tests) in (
        omega arith,
        before.1,
        λ n other low. before_next (λ n. in_way range (range_of slots n) ≡ Some other → best.first ≤ other) place
            (λ n less there. before.2 n other less there)
            (λ there. let same : first ≡ other = some_is first other (sym is ∙ there) in omega arith) n low,
      )
    ] refl

pub found_more : (slots : List (Option Span)) (range : Span) (place : ℕ) (found : Option Found) (slot : Option Span) → range_of slots place ≡ slot →
    FoundBefore slots range place found → FoundBefore slots range (place + 1) (earlier found place (in_way range slot))
found_more slots range place found slot is before = found_by slots range place found (in_way range slot) (ap (in_way range) is) before

-- what is in the way overlaps the range
record Meets (range : Span) (slot : Option Span) (first : ℕ) : Type 0 where
  held : Span
  is : slot ≡ Some held
  meets : overlaps held range ≡ true
  starts : held.first ≡ first

meets_by : (range held : Span) (first : ℕ) (b : Bool) → overlaps held range ≡ b → cond b (Some held.first) None ≡ Some first → Meets range (Some held) first
meets_by range held first true is way = record { held = held; is = refl; meets = is; starts = some_is held.first first way }
meets_by range held first false is way = absurd (none_some first way)

meets_slot : (range : Span) (slot : Option Span) (first : ℕ) → in_way range slot ≡ Some first → Meets range slot first
meets_slot range None first way = absurd (none_some first way)
meets_slot range (Some held) first way = meets_by range held first (overlaps held range) refl way

in_way_of : (range other : Span) (slot : Option Span) → slot ≡ Some other → overlaps other range ≡ true → in_way range slot ≡ Some other.first
in_way_of range other slot is meets = rw (is, meets) refl

get_past : (slots : List (Option Span)) (n : ℕ) → length slots ≤ n → slice_get slots n ≡ None
get_past [] n past = refl
get_past (slot ∷ rest) zero past = absurd (omega arith)
get_past (slot ∷ rest) (suc n) past = get_past rest n (omega arith)

-- a claim stands at a place of the list
in_list : (slots : List (Option Span)) (n : ℕ) (other : Span) → range_of slots n ≡ Some other → n < length slots
in_list slots n other is = ⊎_elim (λ low. low)
    (λ past. let none : slice_get slots n ≡ None = get_past slots n past in absurd (none_some other (sym (ap at_most_one none) ∙ is)))
    (cases_lt n (length slots))

pub stands_in_the_way : (slots : List (Option Span)) (range : Span) (best : Found) → FoundBefore slots range (length slots) (Some best) → IsInTheWay slots range best.place
stands_in_the_way slots range best found =
    let met : Meets range (range_of slots best.place) best.first = meets_slot range (range_of slots best.place) best.first found.1 in
    record {
      held = met.held;
      live = met.is;
      meets = met.meets;
      least = λ n other is meets.
          let first : best.first ≤ other.first = found.2 n other.first (in_list slots n other is) (in_way_of range other (range_of slots n) is meets) in
          let starts : met.held.first ≡ best.first = met.starts in
          omega arith;
    }

false_by : (b : Bool) → (b ≡ true → ⊥) → b ≡ false
false_by true never = absurd (never refl)
false_by false never = refl

pub is_claimed : (old new : List (Option Span)) (range : Span) (number : ℕ) → FoundBefore old range (length old) None → range_of old number ≡ None →
    ((n : ℕ) → range_of new n ≡ cond (number == n) (Some range) (range_of old n)) → IsClaimed old new range number
is_claimed old new range number none fresh put = record {
  fresh = fresh;
  claims = put;
  alone = λ n other is. false_by (overlaps other range) (λ meets.
      none_some other.first (sym (none n (in_list old n other is)) ∙ in_way_of range other (range_of old n) is meets));
}

common : (one other : Span) (p : ℕ) → covers one p ≡ true → covers other p ≡ true → overlaps one other ≡ true
common one other p here there = grind (arith, nat_tests)

-- a page of the range is in no claim that was there
apart_from : (old : List (Option Span)) (range : Span) (p n : ℕ) (slot : Option Span) → range_of old n ≡ slot →
    ((n : ℕ) (other : Span) → range_of old n ≡ Some other → overlaps other range ≡ false) → covers range p ≡ true → has_page slot p ≡ true → ⊥
apart_from old range p n None is alone has there = false≢true there
apart_from old range p n (Some other) is alone has there = false≢true (sym (alone n other is) ∙ common other range p there has)

pub disjoint_more : (old new : List (Option Span)) (range : Span) (number : ℕ) → Disjoint old → IsClaimed old new range number → Disjoint new
disjoint_more old new range number apart claimed one other p here there =
    by_tests (number == one) (number == other) refl refl
    (sym (ap (λ s. has_page s p) (claimed.claims one)) ∙ here) (sym (ap (λ s. has_page s p) (claimed.claims other)) ∙ there)
  where
    by_tests : (a b : Bool) → (number == one) ≡ a → (number == other) ≡ b → has_page (cond a (Some range) (range_of old one)) p ≡ true →
        has_page (cond b (Some range) (range_of old other)) p ≡ true → one ≡ other
    by_tests true true is_one is_other has also = sym (nat_eq_true number one is_one) ∙ nat_eq_true number other is_other
    by_tests true false is_one is_other has also = absurd (apart_from old range p other (range_of old other) refl claimed.alone has also)
    by_tests false true is_one is_other has also = absurd (apart_from old range p one (range_of old one) refl claimed.alone also has)
    by_tests false false is_one is_other has also = apart one other p has also
