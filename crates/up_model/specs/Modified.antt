-- Whether the object was changed.
use Rattle.std.specs.Prelude.{ℕ, ◌&&◌, ◌||◌, ◌==◌, not, Bool, true, false, Option, Some, None, is_some, List, [], ◌∷◌}
use Rattle.up_model.specs.Attempts.{Access, accepts, is_done, attempt}
use Rattle.up_model.specs.Size.{size}
use Rattle.up_model.specs.declared.entry.Birth.{Birth}
use Rattle.up_model.specs.declared.entry.Entry.{Entry}
use Rattle.up_model.specs.declared.entry.Call.{Call}
use Rattle.up_model.specs.declared.entry.Call.TheVariants.{Stats, Zero, Resize}

abbrev pub is_write : Option Access → Bool
is_write None = false
is_write (Some a) = is_some a.bytes

-- the call asks for a number of pages other than n
abbrev pub asks_other_size : Call → ℕ → Bool
asks_other_size (Resize pages) n = not (pages == n)
asks_other_size _ n = false

abbrev pub is_zero_call : Call → Bool
is_zero_call (Zero range) = true
is_zero_call _ = false

abbrev pub is_reset : Call → Bool
is_reset (Stats reset) = reset
is_reset _ = false

-- the entry changes the object: a write, an accepted resize to another size (it grows or cuts some page), or an accepted zero call
abbrev pub modifies : Birth → List Entry → Entry → Bool
modifies birth before e =
    (is_write (attempt before e) && is_done e.reply)
    || ((asks_other_size e.call (size birth before) || is_zero_call e.call) && accepts e.reply)

-- such an entry stands after the last stats call with reset
abbrev pub modified : Birth → List Entry → Bool
modified birth [] = false
modified birth (e ∷ before) = not (is_reset e.call) && (modifies birth before e || modified birth before)
