-- Entries that others made since an actor looked.
use Rattle.std.specs.Prelude.{◌≡◌, ℕ, ◌==◌, false, List, [], ◌∷◌, ◌++◌}
use Rattle.up_model.specs.declared.entry.Entry.{Entry}

-- each of the entries is by another
abbrev pub ByOthers : ℕ → List Entry → Type 0
ByOthers who [] = Unit {0}
ByOthers who (e ∷ es) = ((e.who == who) ≡ false) × ByOthers who es

-- a journal, newest entry first, has only entries of others more than one before it
pub record OthersSince (who : ℕ) (before now : List Entry) : Type 0 where
  pub since : List Entry
  pub is : now ≡ since ++ before
  pub theirs : ByOthers who since
