-- What contracts see of the shelf of a folder.
use Rattle.std.specs.Prelude.{ℕ, Option, List, []}
use Rattle.up_disk.specs.Filed.{Filed}
use Rattle.up_disk.specs.Shelved.{Brought}

-- the disks that it brought, what was put back at each place, and how many calls failed
pub record Foldered : Type 0 where
  pub brought : List (Brought Filed)
  pub back : List (Option Filed)
  pub faults : ℕ

-- a shelf that was just made
abbrev pub foldered : Foldered
foldered = record { brought = []; back = []; faults = 0 }
