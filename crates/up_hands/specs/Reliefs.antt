-- What a relief keeps on its way.
use Rattle.std.specs.Prelude.{reverse}
use Rattle.up_hands.specs.Machined.{WentSoFar}
use Rattle.up_hands.specs.declared.relieving.UnderRelief.TheInside.{Inside}

abbrev pub ReliefStands : Inside → Type 0
ReliefStands o = WentSoFar (record { start = o.start.value; now = o.machine; who = o.who; reclaims = reverse o.reclaims.items })
