use Rattle.std.proofs.Common.{arith}
use Rattle.up_supply.proofs.Filled.{filled_next, filled_none, filling_next}
use Rattle.up_supply.proofs.supplying.fill_all.Goals as goal

pub loop-place-init : goal.loop-place-init
loop-place-init c = record { at = filled_none c.args.changing.now; filling = c.requires.filling; enough = let some = c.requires.enough in omega arith }

pub loop-place-preserved : goal.loop-place-preserved
loop-place-preserved c = record {
  at = filled_next c.args.changing.now c.loop-place.changing c.fill_one.new.changing c.loop-place.place c.loop-place.invariant.at c.fill_one.ensures.new;
  filling = filling_next c.loop-place.changing c.fill_one.new.changing c.args.bytes.now c.args.count c.loop-place.place c.loop-place.invariant.filling c.fill_one.ensures.new;
  enough = let was = c.loop-place.invariant.enough in let used = c.fill_one.ensures.given in omega arith;
}
