-- Pins, hints and loans of a page.
use Rattle.std.specs.Prelude.{ℕ, ◌-◌, ◌&&◌, ◌||◌, not, Bool, false, cond, List, [], ◌∷◌, suc}
use Rattle.up_model.specs.Size.{cuts}
use Rattle.up_model.specs.Deeds.{writes, lets_dirty, pins_one, unpins_one, zeroes, hints_always, hints_cold, moves, borrows, drops}
use Rattle.up_model.specs.declared.entry.Birth.{Birth}
use Rattle.up_model.specs.declared.entry.Entry.{Entry}

-- the number of accepted pins over p less that of accepted unpins over p
abbrev pub pins : List Entry → ℕ → ℕ
pins [] p = 0
pins (e ∷ before) p = cond (pins_one e p) (suc (pins before p)) (cond (unpins_one e p) (pins before p - 1) (pins before p))

-- p is protected: the last accepted hint over p since it was last cut off is always
abbrev pub always : Birth → List Entry → ℕ → Bool
always birth [] p = false
always birth (e ∷ before) p =
    hints_always e p || (not (hints_cold e p || cuts birth before e p) && always birth before p)

-- the entry ends a loan of p: a write in p, an accepted dirty, pin or zero call over it, an evict or vacate that lists it, or a cut of it
abbrev pub ends_loan : Birth → List Entry → Entry → ℕ → Bool
ends_loan birth before e p =
    writes before e p || (lets_dirty e p || (pins_one e p || (zeroes e p || (moves e p || drops birth before e p))))

-- the frame of p is a loaned one: of the borrows that put one there and the entries that end a loan the last is a borrow
abbrev pub loaned : Birth → List Entry → ℕ → Bool
loaned birth [] p = false
loaned birth (e ∷ before) p = borrows e p || (not (ends_loan birth before e p) && loaned birth before p)
