-- What a look at a page tells in the words of the definitions.
use Rattle.std.proofs.Common.{◌≡◌, ℕ, ◌&&◌, ◌||◌, not, Bool, true, false, List, refl, sym}
use Rattle.up_model.specs.Value.{there, marked, begun, settled}
use Rattle.up_model.specs.States.{unclean}
use Rattle.up_model.specs.Pins.{loaned}
use Rattle.up_model.specs.Reply.{needs_own_frame}
use Rattle.up_model.specs.Looks.{look_by, look_of, is_present, has_loan, lacks_own_frame, is_unclean}
use Rattle.up_model.specs.Legal.{Legal}
use Rattle.up_model.specs.declared.entry.Birth.{Birth}
use Rattle.up_model.specs.declared.entry.Entry.{Entry}
use Rattle.up_model.proofs.StateParts.{loaned_page, loaned_not_plain}

present_by : (here mark rest run loan : Bool) → is_present (look_by here mark rest run loan) ≡ here
present_by false m s b l = refl
present_by true true s b l = refl
present_by true false s b l = refl

pub present_is : (birth : Birth) (h : List Entry) (p : ℕ) → is_present (look_of birth h p) ≡ there birth h p
present_is birth h p = present_by (there birth h p) (marked birth h p) (settled birth h p) (begun birth h p) (loaned birth h p)

unclean_by : (here mark rest run loan : Bool) → is_unclean (look_by here mark rest run loan) ≡ (here && not rest)
unclean_by false m s b l = refl
unclean_by true true true b l = refl
unclean_by true true false true l = refl
unclean_by true true false false l = refl
unclean_by true false true b l = refl
unclean_by true false false true l = refl
unclean_by true false false false l = refl

pub unclean_is : (birth : Birth) (h : List Entry) (p : ℕ) → is_unclean (look_of birth h p) ≡ unclean birth h p
unclean_is birth h p = unclean_by (there birth h p) (marked birth h p) (settled birth h p) (begun birth h p) (loaned birth h p)

own_by : (here mark rest run loan : Bool) → (loan ≡ true → here ≡ true) → lacks_own_frame (look_by here mark rest run loan) ≡ ((here && mark) || loan)
own_by false m s b true lent = lent refl
own_by false m s b false lent = refl
own_by true true s b l lent = refl
own_by true false s b l lent = refl

pub own_is : (birth : Birth) (h : List Entry) → Legal birth h → (p : ℕ) → lacks_own_frame (look_of birth h p) ≡ needs_own_frame birth h p
own_is birth h legal p = own_by (there birth h p) (marked birth h p) (settled birth h p) (begun birth h p) (loaned birth h p) (λ lent. (loaned_page birth h legal p lent).here)

loan_by : (here mark rest run loan : Bool) → (loan ≡ true → here ≡ true) → (loan ≡ true → (here && mark) ≡ false) → has_loan (look_by here mark rest run loan) ≡ loan
loan_by false m s b true lent unmarked = lent refl
loan_by false m s b false lent unmarked = refl
loan_by true true s b true lent unmarked = sym (unmarked refl)
loan_by true true s b false lent unmarked = refl
loan_by true false s b l lent unmarked = refl

pub loan_is : (birth : Birth) (h : List Entry) → Legal birth h → (p : ℕ) → has_loan (look_of birth h p) ≡ loaned birth h p
loan_is birth h legal p = loan_by (there birth h p) (marked birth h p) (settled birth h p) (begun birth h p) (loaned birth h p)
    (λ lent. (loaned_page birth h legal p lent).here) (loaned_not_plain birth h legal p)
