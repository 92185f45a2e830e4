-- What never changes of a site behind a turn.
use Rattle.std.specs.Prelude.{Option}
use Rattle.up_model.specs.declared.entry.Birth.{Birth}
use Rattle.up_object.specs.Parts.{BankPair}
use Rattle.up_site.specs.Hosted.{Hosted, start_of}

-- the birth, the two banks, and the disk as it was at first, where there is one
pub record Beginning (D : Type 0) : Type 0 where
  pub birth : Birth
  pub banks : BankPair
  pub start : Option D

abbrev pub beginning_of : {D : Type 0} → Hosted D → Beginning D
beginning_of site = record { birth = site.whole.birth; banks = site.whole.banks; start = start_of site.image }
