-- What a bank of each kind keep.
use Rattle.std.specs.Prelude.{◌≡◌}
use Rattle.up_bank.specs.declared.kind.FrameKind.TheVariants.{Ordinary, Loaned}
use Rattle.up_banks.specs.declared.pool.Pool.TheInside.{Inside}

pub record PoolStands (o : Inside) : Type 0 where
  pub ordinary : o.ordinary.bank.kind ≡ Ordinary
  pub loaned : o.loaned.bank.kind ≡ Loaned
