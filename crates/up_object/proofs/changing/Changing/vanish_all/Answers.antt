use Rattle.std.proofs.Common.{sym, subst, ap, arith}
use Rattle.up_model.specs.Changes.{Vanishes}
use Rattle.up_object.specs.Change.{Change}
use Rattle.up_object.proofs.changing.Changing.vanish_all.Goals as goal

pub vanish-requires-clause-gone : goal.vanish-requires-clause-gone
vanish-requires-clause-gone c =
    let low = c.self.invariant.part.order in
    let from = c.loop-place.auto._place in
    let below = c.loop-place-test.true in
    let first = ap (λ (v : Change). v.done.first) c.self.view_is in
    let limit = ap (λ (v : Change). v.done.limit) c.self.view_is in
    subst (λ (v : Change). Vanishes v.birth v.entry v.journal v.done.mark) (sym c.loop-place.invariant) (c.requires.gone c.loop-place._place (omega arith) (omega arith))
