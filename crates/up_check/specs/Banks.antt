-- When the banks of a replayed journal stand.
use Rattle.std.specs.Prelude.{◌≡◌}
use Rattle.up_bank.specs.declared.kind.FrameKind.TheVariants.{Ordinary, Loaned}
use Rattle.up_check.specs.declared.banks.ReplayBanks.TheInside.{Inside}

-- each bank is of its kind, and the one that is to be empty has no frame at home
pub record ReplayBanksStand (o : Inside) : Type 0 where
  pub ordinary : o.pool.ordinary.bank.kind ≡ Ordinary
  pub loaned : o.pool.loaned.bank.kind ≡ Loaned
  pub none : o.empty.home ≡ 0
