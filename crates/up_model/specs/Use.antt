-- When a page was used last, and its age.
use Rattle.std.specs.Prelude.{ℕ, ◌-◌, ◌||◌, min, max, Bool, cond, Option, Some, None, is_some, List, [], ◌∷◌, length}
use Rattle.up_model.specs.Deeds.{writes, reads, pins_one, hints_cold}
use Rattle.up_model.specs.Value.{takes}
use Rattle.up_model.specs.declared.entry.Birth.{Birth}
use Rattle.up_model.specs.declared.entry.Entry.{Entry}

-- the entry uses p: a read or write in p, a taken supply of p, or an accepted pin over p
abbrev pub uses : Birth → List Entry → Entry → ℕ → Bool
uses birth before e p = reads before e p || (writes before e p || (takes birth before e p || pins_one e p))

-- the position of the last entry that uses p
abbrev pub last_use : Birth → List Entry → ℕ → Option ℕ
last_use birth [] p = None
last_use birth (e ∷ before) p = cond (uses birth before e p) (Some (length before)) (last_use birth before p)

-- the position of the last accepted hint cold over p, where no use of p stands after it
abbrev pub cold_since : Birth → List Entry → ℕ → Option ℕ
cold_since birth [] p = None
cold_since birth (e ∷ before) p =
    cond (hints_cold e p) (Some (length before)) (cond (uses birth before e p) None (cold_since birth before p))

abbrev pub is_cold : Birth → List Entry → ℕ → Bool
is_cold birth h p = is_some (cold_since birth h p)

-- the greatest epoch of all entries, 0 without any
abbrev pub newest_epoch : List Entry → ℕ
newest_epoch [] = 0
newest_epoch (e ∷ before) = max e.epoch (newest_epoch before)

-- the generation of p: the greatest epoch of the entries up to and with the last use of p
abbrev pub generation : Birth → List Entry → ℕ → ℕ
generation birth [] p = 0
generation birth (e ∷ before) p = cond (uses birth before e p) (newest_epoch (e ∷ before)) (generation birth before p)

-- how old p is, where the newest epoch is given: at most 7
abbrev pub age_class : Birth → List Entry → ℕ → ℕ → ℕ
age_class birth h newest p = min 7 (newest - generation birth h p)
