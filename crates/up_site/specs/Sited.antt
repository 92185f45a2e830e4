-- What contracts see of an object over a disk: the object, the disk now and as it was at first, and each
-- actor's stage.
use Rattle.std.specs.Prelude.{List}
use Rattle.up_object.specs.Whole.{Whole}
use Rattle.up_site.specs.declared.stage.Tour.{Tour}

pub record Sited (D : Type 0) : Type 0 where
  pub whole : Whole
  pub disk : D
  pub start : D
  pub tours : List Tour
