use Rattle.std.proofs.Common.{ap, sym, subst, ◌∙◌, arith}
use Rattle.up_object.specs.Parts.{BankPair}
use Rattle.up_object.specs.Change.{AllOwn}
use Rattle.up_banks.specs.Pools.{banks_of}
use Rattle.up_hands.proofs.ObjectEnds.{ended_one}
use Rattle.up_hands.proofs.EntriesAdded.{banks_popped}
use Rattle.up_hands.proofs.machine.end_all.Goals as goal

pub bring_home-requires : goal.bring_home-requires
bring_home-requires c =
    let last = banks_popped (banks_of c.args.pool.now) _ _ c.in-Some.object c.in-Some.ensures.items c.loop-object.invariant.own in
    subst (λ (banks : BankPair). AllOwn banks c.end-entries.result.1.items) (last.1 ∙ sym c.loop-object.invariant.banks) c.end-entries.ensures.own

pub loop-object-preserved : goal.loop-object-preserved
loop-object-preserved c =
    let room = c.loop-object.invariant.room in
    let fewer = c.in-Some.ensures.len in
    let more = c.push_reserved.ensures.len in
    let same = c.push_reserved.ensures.capacity in
    record {
      whole = ended_one _ _ c.in-Some.object _ _ _ _ c.in-Some.ensures.items c.push_reserved.ensures.items c.end-entries.ensures.journal c.loop-object.invariant.whole;
      room = omega arith;
      banks = ap banks_of c.bring_home.ensures ∙ c.loop-object.invariant.banks;
      own = (banks_popped (banks_of c.args.pool.now) _ _ c.in-Some.object c.in-Some.ensures.items c.loop-object.invariant.own).0;
    }
