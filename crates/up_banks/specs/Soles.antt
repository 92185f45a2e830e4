-- What a bank and its only seat keep.
use Rattle.std.specs.Prelude.{◌≡◌, true, IfSome}
use Rattle.up_banks.specs.declared.sole.SoleBank.TheInside.{Inside}

-- the seat is the bank's only one, and what is put aside is a frame of it
pub record SoleStands (o : Inside) : Type 0 where
  pub seat : o.seat.bank ≡ o.bank
  pub sole : o.seat.sole ≡ true
  pub aside : IfSome o.aside (λ frame. frame.bank ≡ o.bank)
