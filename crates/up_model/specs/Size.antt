-- How many pages the object has, what lies within it, and which pages a resize brings or cuts off.
use Rattle.std.specs.Prelude.{ℕ, ◌+◌, ◌*◌, ◌&&◌, Bool, false, cond, List, [], ◌∷◌, nat_le, nat_lt}
use Rattle.up_num.specs.Span.{Span}
use Rattle.up_model.specs.Attempts.{Access, accepts}
use Rattle.up_model.specs.declared.entry.Birth.{Birth}
use Rattle.up_model.specs.declared.entry.Entry.{Entry}
use Rattle.up_model.specs.declared.entry.Call.{Call}
use Rattle.up_model.specs.declared.entry.Call.TheVariants.{Resize}
use Rattle.up_model.specs.declared.entry.Reply.{Reply}

-- the number of pages after a call, where it was n before: an accepted resize sets it
abbrev pub resized : Call → Reply → ℕ → ℕ
resized (Resize pages) reply n = cond (accepts reply) pages n
resized _ reply n = n

-- the pages of the last accepted resize, else those of the birth
abbrev pub size : Birth → List Entry → ℕ
size birth [] = birth.pages
size birth (e ∷ before) = resized e.call e.reply (size birth before)

-- the call asks for more pages than n, and page p is among the new ones
abbrev pub asks_to_grow : Call → ℕ → ℕ → Bool
asks_to_grow (Resize pages) n p = nat_le n p && nat_lt p pages
asks_to_grow _ n p = false

-- the call asks for fewer pages than n, and page p is among those that go
abbrev pub asks_to_cut : Call → ℕ → ℕ → Bool
asks_to_cut (Resize pages) n p = nat_lt p n && nat_le pages p
asks_to_cut _ n p = false

-- the entry is a growth of page p: an accepted resize, with p at or above the size before it and below the new one
abbrev pub grows : Birth → List Entry → Entry → ℕ → Bool
grows birth before e p = asks_to_grow e.call (size birth before) p && accepts e.reply

-- the entry is a cut of page p: an accepted resize, with p below the size before it and at or above the new one
abbrev pub cuts : Birth → List Entry → Entry → ℕ → Bool
cuts birth before e p = asks_to_cut e.call (size birth before) p && accepts e.reply

-- the range ends within the object
abbrev pub range_fits : Birth → List Entry → Span → Bool
range_fits birth h range = nat_le (range.first + range.count) (size birth h)

-- the bytes of an access end within the object
abbrev pub access_fits : Birth → List Entry → Access → Bool
access_fits birth h a = nat_le (a.off + a.len) (4096 * size birth h)
