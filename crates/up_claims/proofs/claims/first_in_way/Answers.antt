use Rattle.std.proofs.Common.{◌≡◌, ◌+◌, sym, subst, rules, arith}
use Rattle.up_claims.specs.Slots.{FoundBefore, earlier, in_way}
use Rattle.up_claims.proofs.ClaimsInTheWay.{found_more}
use Rattle.up_claims.proofs.claims.first_in_way.Goals as goal

pub loop-place-preserved : goal.loop-place-preserved
loop-place-preserved c =
    let found : c.earlier-found.result ≡ earlier c.loop-place.found c.loop-place.place (in_way c.args.range c.slot_at.result) = search rules in (
      omega arith,
      subst (λ found. FoundBefore c.args.slots.now.items c.args.range (c.loop-place.place + 1) found) (sym found)
          (found_more c.args.slots.now.items c.args.range c.loop-place.place c.loop-place.found c.slot_at.result c.slot_at.ensures c.loop-place.invariant.1),
    )
