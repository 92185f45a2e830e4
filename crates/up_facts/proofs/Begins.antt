-- A begin counts for a page exactly where it stands after what dirtied the page last, and, if it is for zero pages, before the page
-- stopped being one: over any journal.
use Rattle.std.proofs.Common.{◌≡◌, ℕ, ◌≤◌, ◌&&◌, ◌||◌, ◌⊎◌, inl, inr, not, Bool, true, false, cond, List, [], ◌∷◌, length, take, reverse, nat_le, nat_lt, suc, refl, ap, sym, ◌∙◌, arith}
use Rattle.std.proofs.lemmas.Bool.{le-leb}
use Rattle.std.proofs.lemmas.Bool.Decides.{nat_tests}
use Rattle.std.proofs.lemmas.List.{take_all}
use Rattle.up_model.specs.Deeds.{Named, NoBegin, is_named, begins, for_zero, dirties}
use Rattle.up_model.specs.Value.{begun_by}
use Rattle.up_model.specs.States.{plain}
use Rattle.up_model.specs.declared.entry.Birth.{Birth}
use Rattle.up_model.specs.declared.entry.Entry.{Entry}
use Rattle.up_model.proofs.Equations.{begun_by_is, begun_by_none}
use Rattle.up_model.proofs.BeginNumbers.{plain_before}
use Rattle.up_facts.specs.Seen.{since, until, counts_within, begun_within}

-- both numbers are at most the number of entries
chosen : (b : Bool) (old count : ℕ) → old ≤ count → cond b (suc count) old ≤ suc count
chosen true old count low = omega arith
chosen false old count low = omega arith

since_below : (birth : Birth) (h : List Entry) (p : ℕ) → since birth h p ≤ length h
since_below birth [] p = omega arith
since_below birth (e ∷ before) p = chosen (dirties birth before e p) (since birth before p) (length before) (since_below birth before p)

until_below : (birth : Birth) (h : List Entry) (p : ℕ) → until birth h p ≤ length h
until_below birth [] p = omega arith
until_below birth (e ∷ before) p = chosen (plain birth before p) (until birth before p) (length before) (until_below birth before p)

-- no entry stands from the end on
none_past : (h : List Entry) (which : Named) (p from to : ℕ) → length h ≤ from → begun_within h which p from to ≡ false
none_past [] which p from to past = refl
none_past (e ∷ before) which p from to past =
    let late : nat_le from (length before) ≡ false = grind (arith, nat_tests) in rw (late, none_past before which p from to (omega arith)) refl

-- a bound at the end or beyond it is none
unbound : (h : List Entry) (which : Named) (p from to : ℕ) → length h ≤ to → begun_within h which p from to ≡ begun_within h which p from (length h)
unbound h which p from to past = bounds h which p from to (length h) past (omega arith)
  where
    bounds : (l : List Entry) (w : Named) (q start high low : ℕ) → length l ≤ high → length l ≤ low → begun_within l w q start high ≡ begun_within l w q start low
    bounds [] w q start high low a b = refl
    bounds (e ∷ before) w q start high low a b =
        let one : nat_lt (length before) high ≡ true = grind (arith, nat_tests) in
        let other : nat_lt (length before) low ≡ true = grind (arith, nat_tests) in
        rw (one, other, bounds before w q start high low (omega arith) (omega arith)) refl

-- a page that is a zero page now was one before each entry since it was dirtied
zeros_since : (birth : Birth) (h : List Entry) (p : ℕ) → plain birth h p ≡ true → (length h ≤ since birth h p) ⊎ (length h ≤ until birth h p)
zeros_since birth [] p is = inl (omega arith)
zeros_since birth (e ∷ before) p is =
    elim (dirties birth before e p) as (λ b. dirties birth before e p ≡ b →
    (suc (length before) ≤ cond b (suc (length before)) (since birth before p)) ⊎ (suc (length before) ≤ until birth (e ∷ before) p)) [
      | true ↦ λ q. inl (omega arith)
      | false ↦ λ q. inr (rw (plain_before birth e before p q is) (omega arith))
    ] refl

-- so a later bound changes nothing where the page is a zero page
later_bound : (birth : Birth) (h : List Entry) (which : Named) (p to : ℕ) → plain birth h p ≡ true → length h ≤ to →
    begun_within h which p (since birth h p) to ≡ begun_within h which p (since birth h p) (until birth h p)
later_bound birth h which p to is past = elim (zeros_since birth h p is) [
  | inl late ↦ none_past h which p (since birth h p) to late ∙ sym (none_past h which p (since birth h p) (until birth h p) late)
  | inr far ↦ unbound h which p (since birth h p) to past ∙ sym (unbound h which p (since birth h p) (until birth h p) far)
]

chosen_bound : (birth : Birth) (h : List Entry) (which : Named) (p : ℕ) →
    begun_within h which p (since birth h p) (cond (plain birth h p) (suc (length h)) (until birth h p)) ≡ begun_within h which p (since birth h p) (until birth h p)
chosen_bound birth h which p =
    elim (plain birth h p) as (λ b. plain birth h p ≡ b →
    begun_within h which p (since birth h p) (cond b (suc (length h)) (until birth h p)) ≡ begun_within h which p (since birth h p) (until birth h p)) [
      | true ↦ λ q. later_bound birth h which p (suc (length h)) q (omega arith)
      | false ↦ λ q. refl
    ] refl

-- one more entry, by its tests
own_step : (among begin for_zeros zero old : Bool) (from to count : ℕ) → from ≤ count → to ≤ count →
    cond (among && begin) ((not for_zeros || zero) || old) old
    ≡ ((nat_le from count && (among && (begin && (not for_zeros || nat_lt count (cond zero (suc count) to))))) || old)
own_step among begin for_zeros zero old from to count a b =
    let early : nat_le from count ≡ true = le-leb from count a in
    let bound : nat_lt count (cond zero (suc count) to) ≡ zero = is_bound zero in rw (early, bound) (own among begin (not for_zeros || zero) old)
  where
    is_bound : (z : Bool) → nat_lt count (cond z (suc count) to) ≡ z
    is_bound true = grind (arith, nat_tests)
    is_bound false = grind (arith, nat_tests)

    own : (n g c m : Bool) → cond (n && g) (c || m) m ≡ ((n && (g && c)) || m)
    own true true c m = refl
    own true false c m = refl
    own false g c m = refl

pub counted : (birth : Birth) (h : List Entry) (which : Named) (p : ℕ) → begun_by birth h which p ≡ begun_within h which p (since birth h p) (until birth h p)
counted birth [] which p = begun_by_none birth which p
counted birth (e ∷ before) which p =
    begun_by_is birth e before which p
    ∙ elim (dirties birth before e p) as (λ b. dirties birth before e p ≡ b →
    cond b false (cond (is_named which e.reply && begins e p) ((not (for_zero e.call) || plain birth before p) || begun_by birth before which p) (begun_by birth before which p))
    ≡ begun_within (e ∷ before) which p (cond b (suc (length before)) (since birth before p)) (until birth (e ∷ before) p)) [
      | true ↦ λ q. sym (none_past (e ∷ before) which p (suc (length before)) (until birth (e ∷ before) p) (omega arith))
      | false ↦ λ q.
          own_step (is_named which e.reply) (begins e p) (for_zero e.call) (plain birth before p) (begun_by birth before which p)
          (since birth before p) (until birth before p) (length before) (since_below birth before p) (until_below birth before p)
          ∙ ap (λ b. counts_within e which p (length before) (since birth before p) (until birth (e ∷ before) p) || b)
          (counted birth before which p ∙ sym (chosen_bound birth before which p))
    ] refl

-- what a walk over all entries finds
pub found_all : (birth : Birth) (l : List Entry) (which : Named) (p from to place : ℕ) (found : Bool) → length l ≤ place →
    found ≡ begun_within (reverse (take place l)) which p from to → from ≡ since birth (reverse l) p → to ≡ until birth (reverse l) p →
    found ≡ begun_by birth (reverse l) which p
found_all birth l which p from to place found past is since_is until_is =
    is ∙ ap (λ h. begun_within (reverse h) which p from to) (take_all place l past)
    ∙ rw (since_is, until_is) (sym (counted birth (reverse l) which p))

-- an end that names no begin is for none
pub none_named : (birth : Birth) (h : List Entry) (p : ℕ) → begun_by birth h NoBegin p ≡ false
none_named birth [] p = begun_by_none birth NoBegin p
none_named birth (e ∷ before) p = rw (begun_by_is birth e before NoBegin p, none_named birth before p) (never (dirties birth before e p))
  where
    never : (b : Bool) → cond b false false ≡ false
    never true = refl
    never false = refl
