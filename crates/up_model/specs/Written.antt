use Rattle.std.specs.Prelude.{ℕ, List}
use Rattle.up_model.specs.declared.entry.Entry.{Entry}

-- what contracts see of a log: its entries, newest first, and for how many more it has room
pub record Written : Type 0 where
  pub entries : List Entry
  pub spare : ℕ
