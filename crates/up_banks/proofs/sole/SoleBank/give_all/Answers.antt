use Rattle.std.proofs.Common.{ap, sym, ◌∙◌, arith}
use Rattle.up_banks.specs.Pools.{Stored}
use Rattle.up_banks.proofs.Owned.{are_popped, length_popped}
use Rattle.up_banks.proofs.sole.SoleBank.give_all.Goals as goal

pub give-requires : goal.give-requires
give-requires c = (are_popped c.args.self.now.bank _ _ c.in-Some.frame c.in-Some.ensures.items c.loop-frame.invariant.own).1 ∙ sym c.loop-frame.invariant.bank

pub loop-frame-preserved : goal.loop-frame-preserved
loop-frame-preserved c =
    let left = length_popped _ _ c.in-Some.frame c.in-Some.ensures.items in
    let came = ap (λ (store : Stored). store.home) c.give.ensures in
    let before = c.loop-frame.invariant.home in
    record {
      bank = ap (λ (store : Stored). store.bank) c.give.ensures ∙ c.loop-frame.invariant.bank;
      home = omega arith;
      own = (are_popped c.args.self.now.bank _ _ c.in-Some.frame c.in-Some.ensures.items c.loop-frame.invariant.own).0;
    }
