-- Which journals are legal, and what one more call makes of an object.
use Rattle.std.specs.Prelude.{ℕ, ◌≡◌, IsTrue, List, [], ◌∷◌}
use Rattle.up_model.specs.Reply.{proper, reply}
use Rattle.up_model.specs.declared.entry.Birth.{Birth}
use Rattle.up_model.specs.declared.entry.Entry.{Entry}
use Rattle.up_model.specs.declared.entry.Call.{Call}

-- each call is proper after the entries before it, and has the reply that they give
abbrev pub Legal : Birth → List Entry → Type 0
Legal birth [] = Unit {0}
Legal birth (e ∷ before) =
    Legal birth before × IsTrue (proper birth before e.who e.call) × (e.reply ≡ reply birth before e.who e.epoch e.call)

-- what contracts see of an object: its birth and its journal, newest entry first
pub record Life : Type 0 where
  pub birth : Birth
  pub journal : List Entry

-- the entry of a call with the reply that is due
abbrev pub due : Life → ℕ → ℕ → Call → Entry
due life who epoch call = record { who = who; epoch = epoch; call = call; reply = reply life.birth life.journal who epoch call }

-- the object after a call: its journal has that entry more
abbrev pub after : Life → ℕ → ℕ → Call → Life
after life who epoch call = record { birth = life.birth; journal = due life who epoch call ∷ life.journal }
