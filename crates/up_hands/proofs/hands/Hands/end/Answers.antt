use Rattle.std.proofs.Common.{List, sym, subst}
use Rattle.up_bank.specs.Standing.{Held as Frame}
use Rattle.up_object.specs.Change.{AllOwn}
use Rattle.up_object.specs.OneCall.{frames_of}
use Rattle.up_hands.specs.Keeping.{kind_lent}
use Rattle.up_banks.specs.Pools.{banks_of}
use Rattle.up_banks.proofs.Owned.{own_of}
use Rattle.up_hands.proofs.hands.Hands.end.Goals as goal

pub bring_home-requires : goal.bring_home-requires
bring_home-requires c =
    let banks = banks_of c.self.inside.machine.pool in
    subst (λ (frames : List Frame). AllOwn banks frames) (sym c.into_frames.ensures.items)
    (own_of banks (kind_lent c.self.inside.lent) (frames_of c.self.inside.hand) c.has_both_kinds.ensures.0 c.has_both_kinds.ensures.1 c.self.invariant.hand)
