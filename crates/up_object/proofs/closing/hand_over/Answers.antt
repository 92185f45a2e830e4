use Rattle.std.proofs.Common.{◌≡◌, ◌∙◌, ap, List, [], arith}
use Rattle.up_bank.specs.Standing.{Held as Frame}
use Rattle.up_pages.specs.Frames.{count_kind}
use Rattle.up_object.proofs.CallEnds.{empty_list, none_left}
use Rattle.up_object.proofs.closing.hand_over.Goals as goal

pub loop-place-preserved : goal.loop-place-preserved
loop-place-preserved c = record {
  left = omega arith;
  room = omega arith;
  kinds = λ kind. c.move_one.ensures.kinds kind ∙ c.loop-place.invariant.kinds kind;
  own = λ banks given back. let was = c.loop-place.invariant.own banks given back in c.move_one.ensures.own banks was.0 was.1;
}

pub returns-clause-kinds : goal.returns-clause-kinds
returns-clause-kinds c = λ kind.
    let none : c.loop-place.given.items ≡ [] = empty_list c.loop-place.given.items c.loop-place._place _ c.loop-place.invariant.left (omega arith) in
    none_left (count_kind kind c.loop-place.given.items) (count_kind kind c.loop-place.back.items) _ (ap (λ (xs : List Frame). count_kind kind xs) none) (c.loop-place.invariant.kinds kind)

pub returns-clause-own : goal.returns-clause-own
returns-clause-own c = λ banks given back. (c.loop-place.invariant.own banks given back).1
