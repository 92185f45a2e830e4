use Rattle.std.proofs.Common.{◌≡◌, ap, sym, subst, ◌∙◌, arith}
use Rattle.up_bank.specs.declared.kind.FrameKind.TheVariants.{Ordinary, Loaned}
use Rattle.up_object.specs.Parts.{BankPair, bank_of}
use Rattle.up_banks.specs.Pools.{Pooled, banks_of}
use Rattle.up_banks.proofs.Owned.{own_popped, count_popped}
use Rattle.up_banks.proofs.pool.Pool.bring_home.Goals as goal

pub give-requires : goal.give-requires
give-requires c =
    subst (λ (banks : BankPair). c.in-Some.frame.bank ≡ bank_of banks c.in-Some.frame.bank.kind) (sym c.loop-frame.invariant.banks)
    (own_popped (banks_of c.args.self.now) _ _ c.in-Some.frame c.in-Some.ensures.items c.loop-frame.invariant.own).1

pub loop-frame-preserved : goal.loop-frame-preserved
loop-frame-preserved c =
    let ordinary = count_popped Ordinary _ _ c.in-Some.frame c.in-Some.ensures.items in
    let loaned = count_popped Loaned _ _ c.in-Some.frame c.in-Some.ensures.items in
    let came = ap (λ (pool : Pooled). pool.ordinary.home) c.give.ensures in
    let lent = ap (λ (pool : Pooled). pool.loaned.home) c.give.ensures in
    let before = c.loop-frame.invariant.ordinary in
    let behind = c.loop-frame.invariant.loaned in
    record {
      banks = ap banks_of c.give.ensures ∙ c.loop-frame.invariant.banks;
      ordinary = omega arith;
      loaned = omega arith;
      own = (own_popped (banks_of c.args.self.now) _ _ c.in-Some.frame c.in-Some.ensures.items c.loop-frame.invariant.own).0;
    }
