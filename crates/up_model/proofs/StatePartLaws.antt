-- How the parts of a page's state go together, as the laws say it.
use Rattle.std.proofs.Common.{◌≡◌, ℕ, true, false, List, refl}
use Rattle.up_model.specs.Value.{there}
use Rattle.up_model.specs.States.{plain, clean}
use Rattle.up_model.specs.Pins.{pins, loaned}
use Rattle.up_model.specs.Legal.{Legal}
use Rattle.up_model.specs.declared.entry.Birth.{Birth}
use Rattle.up_model.specs.declared.entry.Entry.{Entry}
use Rattle.up_model.proofs.Bools.{and_false}
use Rattle.up_model.proofs.StateParts.{plain_unsettled, loaned_page}

pub plain_not_clean : (birth : Birth) (h : List Entry) → Legal birth h → (p : ℕ) → plain birth h p ≡ true → clean birth h p ≡ false
plain_not_clean birth h legal p is = rw (plain_unsettled birth h legal p is) (and_false (there birth h p))

pub loaned_clean : (birth : Birth) (h : List Entry) → Legal birth h → (p : ℕ) → loaned birth h p ≡ true → clean birth h p ≡ true
loaned_clean birth h legal p is = let page = loaned_page birth h legal p is in rw (page.here, page.rests) refl

pub loaned_unpinned : (birth : Birth) (h : List Entry) → Legal birth h → (p : ℕ) → loaned birth h p ≡ true → pins h p ≡ 0
loaned_unpinned birth h legal p is = (loaned_page birth h legal p is).unpinned
