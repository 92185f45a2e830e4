-- What one more entry makes of a byte and of a page's marks: each of the four definitions as one equation over the last entry.
use Rattle.std.proofs.Common.{◌≡◌, ℕ, ◌&&◌, ◌||◌, not, Bool, true, false, cond, None, List, [], ◌∷◌, refl, ap}
use Rattle.up_model.specs.Attempts.{page_of}
use Rattle.up_model.specs.Deeds.{Named, AnyBegin, is_named, writes, supplies, begins, ends, pins_one, for_zero, blanks, dirties}
use Rattle.up_model.specs.Value.{value, marked, begun_by, begun, settled, value_after}
use Rattle.up_model.specs.States.{plain, closes, empties}
use Rattle.up_model.specs.declared.entry.Birth.{Birth}
use Rattle.up_model.specs.declared.entry.Entry.{Entry}

elim_and : (b x : Bool) → elim b [ true ↦ x | false ↦ false ] ≡ (b && x)
elim_and true x = refl
elim_and false x = refl

elim_cond : (b x y : Bool) → elim b [ true ↦ x | false ↦ y ] ≡ cond b x y
elim_cond true x y = refl
elim_cond false x y = refl

pub value_is : (birth : Birth) (e : Entry) (before : List Entry) (x : ℕ) →
    value birth (e ∷ before) x ≡ value_after birth before e x (empties birth before e (page_of x)) (value birth before x)
unfolding value
value_is birth e before x = ap (λ v. value_after birth before e x v (value birth before x)) (elim_and (ends e (page_of x)) _)

pub marked_is : (birth : Birth) (e : Entry) (before : List Entry) (p : ℕ) →
    marked birth (e ∷ before) p ≡ cond (blanks birth before e p) true
    (cond (writes before e p || pins_one e p) false (cond (supplies e p) (plain birth before p) (marked birth before p)))
unfolding value
marked_is birth e before p =
    ap (λ v. cond (blanks birth before e p) true (cond (writes before e p || pins_one e p) false v)) (elim_cond (supplies e p) _ _)

pub begun_by_is : (birth : Birth) (e : Entry) (before : List Entry) (which : Named) (p : ℕ) →
    begun_by birth (e ∷ before) which p ≡ cond (dirties birth before e p) false
    (cond (is_named which e.reply && begins e p) ((not (for_zero e.call) || plain birth before p) || begun_by birth before which p) (begun_by birth before which p))
unfolding value
begun_by_is birth e before which p = ap (λ v. cond (dirties birth before e p) false v) (elim_cond (is_named which e.reply && begins e p) _ _)

pub begun_is : (birth : Birth) (e : Entry) (before : List Entry) (p : ℕ) →
    begun birth (e ∷ before) p ≡ cond (dirties birth before e p) false
    (cond (begins e p) ((not (for_zero e.call) || plain birth before p) || begun birth before p) (begun birth before p))
begun_is birth e before p = begun_by_is birth e before AnyBegin p

pub settled_is : (birth : Birth) (e : Entry) (before : List Entry) (p : ℕ) →
    settled birth (e ∷ before) p ≡ cond (dirties birth before e p) false
    (cond (ends e p) (closes birth before e p || settled birth before p) (settled birth before p))
unfolding value
settled_is birth e before p = ap (λ v. cond (dirties birth before e p) false v) (elim_cond (ends e p) _ _)

-- before the first entry there is no byte, and nothing was dirtied
pub value_none : (birth : Birth) (x : ℕ) → value birth [] x ≡ None
unfolding value
value_none birth x = refl

pub marked_none : (birth : Birth) (p : ℕ) → marked birth [] p ≡ false
unfolding value
marked_none birth p = refl

pub begun_by_none : (birth : Birth) (which : Named) (p : ℕ) → begun_by birth [] which p ≡ false
unfolding value
begun_by_none birth which p = refl

pub begun_none : (birth : Birth) (p : ℕ) → begun birth [] p ≡ false
begun_none birth p = begun_by_none birth AnyBegin p

pub settled_none : (birth : Birth) (p : ℕ) → settled birth [] p ≡ true
unfolding value
settled_none birth p = refl
