use Rattle.std.proofs.Common.{ap, ◌∙◌, arith}
use Rattle.up_banks.specs.Pools.{Stored}
use Rattle.up_banks.proofs.Owned.{are_pushed, length_popped}
use Rattle.up_banks.proofs.sole.SoleBank.gather.Goals as goal

pub loop-place-preserved : goal.loop-place-preserved
loop-place-preserved c =
    let more = length_popped _ _ c.in-Ok.frame c.put.ensures.items in
    let went = ap (λ (store : Stored). store.home) c.in-Ok.ensures.ok in
    let some = c.in-Ok.ensures.some in
    let before = c.loop-place.invariant.home in
    let so_far = c.loop-place.invariant.count in
    record {
      bank = ap (λ (store : Stored). store.bank) c.in-Ok.ensures.ok ∙ c.loop-place.invariant.bank;
      home = omega arith;
      count = omega arith;
      room = c.put.ensures.room ∙ c.loop-place.invariant.room;
      own = are_pushed c.args.self.now.bank _ _ c.in-Ok.frame c.put.ensures.items (c.in-Ok.ensures.frame ∙ c.loop-place.invariant.bank) c.loop-place.invariant.own;
    }
