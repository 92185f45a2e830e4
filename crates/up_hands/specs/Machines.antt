-- What objects keep with their frames and a clock.
use Rattle.std.specs.Prelude.{◌≡◌, ◌<◌, ◌^◌, true, length, map}
use Rattle.up_bank.specs.declared.kind.FrameKind.TheVariants.{Ordinary, Loaned}
use Rattle.up_object.specs.Whole.{life_of}
use Rattle.up_steps.specs.Handed.{AllLegal}
use Rattle.up_hands.specs.Machined.{AllOf}
use Rattle.up_banks.specs.Pools.{banks_of}
use Rattle.up_hands.specs.declared.machine.Machine.TheInside.{Inside}

-- the objects' frames are the pool's, their journals are legal, and the clock has one seat, which is here
pub record MachineStands (o : Inside) : Type 0 where
  pub banks : AllOf (banks_of o.pool) o.objects.items
  pub legal : AllLegal (map life_of o.objects.items)
  pub few : length o.objects.items < 2 ^ 32
  pub clock : o.seat.clock ≡ o.clock
  pub sole : o.seat.sole ≡ true
  pub ordinary : o.pool.ordinary.bank.kind ≡ Ordinary
  pub loaned : o.pool.loaned.bank.kind ≡ Loaned
