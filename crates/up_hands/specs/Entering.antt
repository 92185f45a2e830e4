-- Entries that are added to the journals of objects.
use Rattle.std.specs.Prelude.{ℕ, List, [], ◌∷◌, zero, suc}
use Rattle.up_model.specs.Legal.{Life}
use Rattle.up_model.specs.declared.entry.Entry.{Entry}
use Rattle.up_worker.specs.Courses.{Entered}

-- one more entry of an object
abbrev pub enter_at : ℕ → Entry → List Life → List Life
enter_at n entry [] = []
enter_at zero entry (life ∷ lives) = record { birth = life.birth; journal = entry ∷ life.journal } ∷ lives
enter_at (suc n) entry (life ∷ lives) = life ∷ enter_at n entry lives

abbrev pub enter : Entered → List Life → List Life
enter x lives = enter_at x.object x.entry lives

-- more entries, the newest first
abbrev pub enter_all : List Entered → List Life → List Life
enter_all [] lives = lives
enter_all (x ∷ made) lives = enter x (enter_all made lives)
