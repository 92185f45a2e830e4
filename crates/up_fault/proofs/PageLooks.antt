-- What the look at a page tells of it.
use Rattle.std.proofs.Common.{◌≡◌, ℕ, ◌&&◌, ◌||◌, not, Bool, true, false, List, refl}
use Rattle.up_model.specs.Value.{there, marked, settled, begun}
use Rattle.up_model.specs.States.{plain, dirty}
use Rattle.up_model.specs.Pins.{loaned}
use Rattle.up_model.specs.Looks.{look_by, look_of, is_present, lacks_own_frame}
use Rattle.up_model.specs.Legal.{Legal}
use Rattle.up_model.specs.declared.entry.Birth.{Birth}
use Rattle.up_model.specs.declared.entry.Entry.{Entry}
use Rattle.up_model.proofs.StateParts.{loaned_page}
use Rattle.up_fault.specs.Accesses.{dirty_look}

present_by : (here mark rest run loan : Bool) → is_present (look_by here mark rest run loan) ≡ here
present_by false m s b l = refl
present_by true true s b l = refl
present_by true false s b l = refl

-- the page is there
pub present_is : (birth : Birth) (h : List Entry) (p : ℕ) → is_present (look_of birth h p) ≡ there birth h p
present_is birth h p = present_by (there birth h p) (marked birth h p) (settled birth h p) (begun birth h p) (loaned birth h p)

dirty_by : (here mark rest run loan : Bool) → dirty_look (look_by here mark rest run loan) ≡ ((here && not rest) && not run)
dirty_by false m s b l = refl
dirty_by true true true b l = refl
dirty_by true true false true l = refl
dirty_by true true false false l = refl
dirty_by true false true b l = refl
dirty_by true false false true l = refl
dirty_by true false false false l = refl

-- it is dirty
pub dirty_is : (birth : Birth) (h : List Entry) (p : ℕ) → dirty_look (look_of birth h p) ≡ dirty birth h p
dirty_is birth h p = dirty_by (there birth h p) (marked birth h p) (settled birth h p) (begun birth h p) (loaned birth h p)

lacking_by : (here mark rest run loan : Bool) → (loan ≡ true → here ≡ true) → lacks_own_frame (look_by here mark rest run loan) ≡ ((here && mark) || loan)
lacking_by false m s b false f = refl
lacking_by false m s b true f = let never : false ≡ true = f refl in absurd cc
lacking_by true true s b l f = refl
lacking_by true false s b l f = refl

-- a write gives it a frame of its own
pub lacking_is : (birth : Birth) (h : List Entry) → Legal birth h → (p : ℕ) → lacks_own_frame (look_of birth h p) ≡ (plain birth h p || loaned birth h p)
lacking_is birth h legal p = lacking_by (there birth h p) (marked birth h p) (settled birth h p) (begun birth h p) (loaned birth h p) (λ is. (loaned_page birth h legal p is).here)
