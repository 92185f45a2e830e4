use Rattle.std.proofs.Common.{arith}
use Rattle.up_hands.proofs.KeptFrames.{kept_pushed, counts_push}
use Rattle.up_hands.proofs.hands.empty_lists.Goals as goal

pub loop-place-preserved : goal.loop-place-preserved
loop-place-preserved c =
    let more = c.push_reserved.ensures.len in
    let same = c.push_reserved.ensures.capacity in
    let so_far = c.loop-place.invariant.many in
    let room = c.loop-place.invariant.room in
    record {
      counts = counts_push _ _ _ c.loop-place._place c.push_reserved.ensures.items c.new.ensures.empty c.loop-place.invariant.counts;
      many = omega arith;
      room = omega arith;
      none = λ bank. kept_pushed bank _ _ _ c.push_reserved.ensures.items (c.loop-place.invariant.none bank) c.new.ensures.empty;
    }
