-- What the pages are doesn't depend on the frames that calls brought: bytes, marks, states, use, and the order of reclaiming but for who waits.
use Rattle.std.proofs.Common.{◌≡◌, ℕ, ◌-◌, ◌*◌, ◌&&◌, ◌||◌, not, true, false, cond, Some, None, is_some, List, [], ◌∷◌, length, min, zero, suc, ◌+◌, refl, sym, ap, ◌∙◌}
use Rattle.up_model.specs.Attempts.{page_of}
use Rattle.up_model.specs.Deeds.{Named, AnyBegin, is_named, named, written}
use Rattle.up_model.specs.Value.{or_else, value, marked, begun_by, settled, there, byte_or_zero, bytes_from}
use Rattle.up_model.specs.States.{plain, unclean, dirty, empty_at_end}
use Rattle.up_model.specs.Use.{uses, last_use, cold_since, generation, age_class}
use Rattle.up_model.specs.declared.entry.Birth.{Birth}
use Rattle.up_model.specs.declared.entry.Entry.{Entry}
use Rattle.up_model.proofs.Equations.{value_is, marked_is, begun_by_is, settled_is}
use Rattle.up_core.specs.Enough.{bare, all_bare}
use Rattle.up_core.proofs.Same.{for_zero_bare, named_bare, supplied_bare, attempt_same, writes_same, reads_same, supplies_same, begins_same, ends_same, pins_one_same, blanks_same, dirties_same, drops_same, hints_cold_same, newest_same}

-- bytes, and what has become of writebacks, are the same
pub record SameBytes (birth : Birth) (h : List Entry) : Type 0 where
  pub values : (x : ℕ) → value birth (all_bare h) x ≡ value birth h x
  pub marks : (p : ℕ) → marked birth (all_bare h) p ≡ marked birth h p
  pub begins : (which : Named) (p : ℕ) → begun_by birth (all_bare h) which p ≡ begun_by birth h which p
  pub settles : (p : ℕ) → settled birth (all_bare h) p ≡ settled birth h p

there_of : (birth : Birth) (h : List Entry) → SameBytes birth h → (p : ℕ) → there birth (all_bare h) p ≡ there birth h p
there_of birth h same p = λ i. is_some (same.values (4096 * p) i)

plain_of : (birth : Birth) (h : List Entry) → SameBytes birth h → (p : ℕ) → plain birth (all_bare h) p ≡ plain birth h p
plain_of birth h same p = λ i. there_of birth h same p i && same.marks p i

empty_of : (birth : Birth) (h : List Entry) → SameBytes birth h → (which : Named) (p : ℕ) → empty_at_end birth (all_bare h) which p ≡ empty_at_end birth h which p
empty_of birth h same which p = λ i. plain_of birth h same p i && ((there_of birth h same p i && not (same.settles p i)) && same.begins which p i)

-- the begins that an entry is for as an end
closed_of : (birth : Birth) (e : Entry) (before : List Entry) → SameBytes birth before → (p : ℕ) → begun_by birth (all_bare before) (named birth (bare e).call) p ≡ begun_by birth before (named birth e.call) p
closed_of birth e before same p = ap (λ which. begun_by birth (all_bare before) which p) (named_bare birth e.call) ∙ same.begins (named birth e.call) p

emptied_of : (birth : Birth) (e : Entry) (before : List Entry) → SameBytes birth before → (p : ℕ) → empty_at_end birth (all_bare before) (named birth (bare e).call) p ≡ empty_at_end birth before (named birth e.call) p
emptied_of birth e before same p = ap (λ which. empty_at_end birth (all_bare before) which p) (named_bare birth e.call) ∙ empty_of birth before same (named birth e.call) p

value_more : (birth : Birth) (e : Entry) (before : List Entry) → SameBytes birth before → (x : ℕ) → value birth (all_bare (e ∷ before)) x ≡ value birth (e ∷ before) x
value_more birth e before same x =
    value_is birth (bare e) (all_bare before) x
    ∙ (λ i. cond (writes_same before e (page_of x) i) (or_else (written (attempt_same before e i) x) (same.values x i))
    (cond (supplies_same e (page_of x) i) (or_else (same.values x i) (supplied_bare e.call x i))
    (cond (blanks_same birth before e (page_of x) i) (Some 0)
    (cond (drops_same birth before e (page_of x) i || (ends_same e (page_of x) i && emptied_of birth e before same (page_of x) i)) None (same.values x i)))))
    ∙ sym (value_is birth e before x)

marked_more : (birth : Birth) (e : Entry) (before : List Entry) → SameBytes birth before → (p : ℕ) → marked birth (all_bare (e ∷ before)) p ≡ marked birth (e ∷ before) p
marked_more birth e before same p =
    marked_is birth (bare e) (all_bare before) p
    ∙ (λ i. cond (blanks_same birth before e p i) true
    (cond (writes_same before e p i || pins_one_same e p i) false (cond (supplies_same e p i) (plain_of birth before same p i) (same.marks p i))))
    ∙ sym (marked_is birth e before p)

begun_more : (birth : Birth) (e : Entry) (before : List Entry) → SameBytes birth before → (which : Named) (p : ℕ) → begun_by birth (all_bare (e ∷ before)) which p ≡ begun_by birth (e ∷ before) which p
begun_more birth e before same which p =
    begun_by_is birth (bare e) (all_bare before) which p
    ∙ (λ i. cond (dirties_same birth before e p i) false
    (cond (is_named which e.reply && begins_same e p i) ((not (for_zero_bare e.call i) || plain_of birth before same p i) || same.begins which p i) (same.begins which p i)))
    ∙ sym (begun_by_is birth e before which p)

settled_more : (birth : Birth) (e : Entry) (before : List Entry) → SameBytes birth before → (p : ℕ) → settled birth (all_bare (e ∷ before)) p ≡ settled birth (e ∷ before) p
settled_more birth e before same p =
    settled_is birth (bare e) (all_bare before) p
    ∙ (λ i. cond (dirties_same birth before e p i) false (cond (ends_same e p i) (closed_of birth e before same p i || same.settles p i) (same.settles p i)))
    ∙ sym (settled_is birth e before p)

pub bytes_same : (birth : Birth) (h : List Entry) → SameBytes birth h
bytes_same birth [] = record { values = λ x. refl; marks = λ p. refl; begins = λ which p. refl; settles = λ p. refl }
bytes_same birth (e ∷ before) = let same = bytes_same birth before in record {
  values = value_more birth e before same;
  marks = marked_more birth e before same;
  begins = begun_more birth e before same;
  settles = settled_more birth e before same;
}

pub there_same : (birth : Birth) (h : List Entry) (p : ℕ) → there birth (all_bare h) p ≡ there birth h p
there_same birth h p = there_of birth h (bytes_same birth h) p

pub plain_same : (birth : Birth) (h : List Entry) (p : ℕ) → plain birth (all_bare h) p ≡ plain birth h p
plain_same birth h p = plain_of birth h (bytes_same birth h) p

pub settled_same : (birth : Birth) (h : List Entry) (p : ℕ) → settled birth (all_bare h) p ≡ settled birth h p
settled_same birth h p = (bytes_same birth h).settles p

pub unclean_same : (birth : Birth) (h : List Entry) (p : ℕ) → unclean birth (all_bare h) p ≡ unclean birth h p
unclean_same birth h p = λ i. there_same birth h p i && not (settled_same birth h p i)

pub dirty_same : (birth : Birth) (h : List Entry) (p : ℕ) → dirty birth (all_bare h) p ≡ dirty birth h p
dirty_same birth h p = λ i. unclean_same birth h p i && not ((bytes_same birth h).begins AnyBegin p i)

pub empty_same : (birth : Birth) (h : List Entry) (which : Named) (p : ℕ) → empty_at_end birth (all_bare h) which p ≡ empty_at_end birth h which p
empty_same birth h which p = empty_of birth h (bytes_same birth h) which p

pub bytes_from_same : (birth : Birth) (h : List Entry) (x n : ℕ) → bytes_from birth (all_bare h) x n ≡ bytes_from birth h x n
bytes_from_same birth h x zero = refl
bytes_from_same birth h x (suc n) = λ i. byte_or_zero ((bytes_same birth h).values x i) ∷ bytes_from_same birth h (x + 1) n i

-- use and age
uses_same : (birth : Birth) (before : List Entry) (e : Entry) (p : ℕ) → uses birth (all_bare before) (bare e) p ≡ uses birth before e p
uses_same birth before e p =
    λ i. reads_same before e p i || (writes_same before e p i || ((supplies_same e p i && not (there_same birth before p i)) || pins_one_same e p i))

length_same : (h : List Entry) → length (all_bare h) ≡ length h
length_same [] = refl
length_same (e ∷ before) = λ i. suc (length_same before i)

pub last_use_same : (birth : Birth) (h : List Entry) (p : ℕ) → last_use birth (all_bare h) p ≡ last_use birth h p
last_use_same birth [] p = refl
last_use_same birth (e ∷ before) p = λ i. cond (uses_same birth before e p i) (Some (length_same before i)) (last_use_same birth before p i)

pub cold_since_same : (birth : Birth) (h : List Entry) (p : ℕ) → cold_since birth (all_bare h) p ≡ cold_since birth h p
cold_since_same birth [] p = refl
cold_since_same birth (e ∷ before) p =
    λ i. cond (hints_cold_same e p i) (Some (length_same before i)) (cond (uses_same birth before e p i) None (cold_since_same birth before p i))

generation_same : (birth : Birth) (h : List Entry) (p : ℕ) → generation birth (all_bare h) p ≡ generation birth h p
generation_same birth [] p = refl
generation_same birth (e ∷ before) p = λ i. cond (uses_same birth before e p i) (newest_same (e ∷ before) i) (generation_same birth before p i)

pub age_same : (birth : Birth) (h : List Entry) (newest p : ℕ) → age_class birth (all_bare h) newest p ≡ age_class birth h newest p
age_same birth h newest p = λ i. min 7 (newest - generation_same birth h p i)
