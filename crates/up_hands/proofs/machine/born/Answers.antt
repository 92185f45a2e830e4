use Rattle.std.proofs.Common.{ap, ◌∙◌, arith}
use Rattle.up_object.specs.Whole.{Whole, life_of}
use Rattle.up_banks.specs.Pools.{banks_of}
use Rattle.up_hands.proofs.ObjectBirths.{born_one}
use Rattle.up_hands.proofs.EntriesAdded.{banks_pushed}
use Rattle.up_hands.proofs.machine.born.Goals as goal

pub loop-one-preserved : goal.loop-one-preserved
loop-one-preserved c =
    let more = c.push_reserved.ensures.len in
    let same = c.push_reserved.ensures.capacity in
    let so_far = c.loop-one.invariant.count in
    let room = c.loop-one.invariant.room in
    record {
      made = born_one c.args.births.now c.loop-one.one-index _ _ _ c.in-Ok.object (omega arith) c.push_reserved.ensures.items (ap life_of c.in-Ok.ensures) c.loop-one.invariant.made;
      count = omega arith;
      room = omega arith;
      banks = banks_pushed (banks_of c.args.pool.now) _ _ c.in-Ok.object c.push_reserved.ensures.items c.loop-one.invariant.banks
          (ap (λ (w : Whole). w.banks) c.in-Ok.ensures ∙ ap banks_of c.loop-one.invariant.pool);
      pool = c.loop-one.invariant.pool;
    }
