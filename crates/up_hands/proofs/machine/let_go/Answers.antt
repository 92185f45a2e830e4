use Rattle.std.proofs.Common.{ap, sym, subst, ◌∙◌}
use Rattle.up_object.specs.Parts.{BankPair}
use Rattle.up_object.specs.Change.{AllOwn}
use Rattle.up_banks.specs.Pools.{banks_of}
use Rattle.up_hands.proofs.EntriesAdded.{banks_popped}
use Rattle.up_hands.proofs.machine.let_go.Goals as goal

pub bring_home-requires : goal.bring_home-requires
bring_home-requires c =
    let last = banks_popped (banks_of c.args.pool.now) _ _ c.in-Some.object c.in-Some.ensures.items c.loop-object.invariant.own in
    subst (λ (banks : BankPair). AllOwn banks c.end-frames.result.1.items) (last.1 ∙ sym c.loop-object.invariant.banks) c.end-frames.ensures.own

pub loop-object-preserved : goal.loop-object-preserved
loop-object-preserved c =
    record {
      banks = ap banks_of c.bring_home.ensures ∙ c.loop-object.invariant.banks;
      own = (banks_popped (banks_of c.args.pool.now) _ _ c.in-Some.object c.in-Some.ensures.items c.loop-object.invariant.own).0;
    }
