-- A site over a disk, whose object's frames are of these banks.
use Rattle.std.specs.Prelude.{◌≡◌, true, is_some}
use Rattle.up_disk.specs.Platter.{Platter}
use Rattle.up_object.specs.Parts.{BankPair}
use Rattle.up_site.specs.Hosted.{Hosted}

pub record IsOver (site : Hosted Platter) (pool : BankPair) : Type 0 where
  pub image : is_some site.image ≡ true
  pub banks : site.whole.banks ≡ pool
