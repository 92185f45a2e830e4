-- The order of reclaiming, in a reader's words.
use Rattle.std.specs.Prelude.{◌≡◌, ℕ, ◌==◌, ◌||◌, Bool, true, false, cond, List, [], ◌∷◌, suc, filter}
use Rattle.up_model.specs.Order.{loose, reclaimable, goes_before, order}
use Rattle.up_model.specs.Legal.{Legal}
use Rattle.up_model.specs.declared.entry.Birth.{Birth}
use Rattle.up_model.specs.declared.entry.Entry.{Entry}

-- the list has this number, and how often
abbrev pub lists : List ℕ → ℕ → Bool
lists [] p = false
lists (q ∷ qs) p = (q == p) || lists qs p

abbrev pub times : List ℕ → ℕ → ℕ
times [] p = 0
times (q ∷ qs) p = cond (q == p) (suc (times qs p)) (times qs p)

-- each of the list goes before all that follow it
abbrev pub Rising : (ℕ → ℕ → Bool) → List ℕ → Type 0
Rising before [] = Unit {0}
Rising before (p ∷ ps) = ((q : ℕ) → lists ps q ≡ true → before p q ≡ true) × Rising before ps

-- what goes before: nothing before itself; what goes before one goes before all that this goes before; and of two different
-- ones one goes before the other
pub record IsOrder (before : ℕ → ℕ → Bool) : Type 0 where
  pub never : (p : ℕ) → before p p ≡ false
  pub through : (p q r : ℕ) → before p q ≡ true → before q r ≡ true → before p r ≡ true
  pub other : (p q : ℕ) → (p == q) ≡ false → before p q ≡ false → before q p ≡ true

-- after any journal, pages go before one another so
abbrev pub GoesBeforeIsOrder : Type 0
GoesBeforeIsOrder = (birth : Birth) (h : List Entry) → IsOrder (goes_before birth h)

-- after a legal journal the order has each page that may be reclaimed once, and no other
abbrev pub OrderHasEachOnce : Type 0
OrderHasEachOnce =
    (birth : Birth) (h : List Entry) → Legal birth h → (newest limit p : ℕ) →
    times (order birth h newest limit) p ≡ cond (reclaimable birth h newest limit p) 1 0

-- each of its pages goes before all later ones
abbrev pub OrderRises : Type 0
OrderRises = (birth : Birth) (h : List Entry) (newest limit : ℕ) → Rising (goes_before birth h) (order birth h newest limit)

-- at the limit 0 each loose page may be reclaimed; at any other the order is that whole order without those that may not
abbrev pub WholeOrderIsLoose : Type 0
WholeOrderIsLoose = (birth : Birth) (h : List Entry) (newest p : ℕ) → reclaimable birth h newest 0 p ≡ loose birth h p

abbrev pub OrderIsPart : Type 0
OrderIsPart =
    (birth : Birth) (h : List Entry) (newest limit : ℕ) →
    order birth h newest limit ≡ filter (reclaimable birth h newest limit) (order birth h newest 0)
