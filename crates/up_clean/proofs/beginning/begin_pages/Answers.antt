use Rattle.std.proofs.Common.{◌<◌, ap, ◌∙◌, arith}
use Rattle.up_object.specs.Change.{Change, next}
use Rattle.up_object.proofs.RangeCalls.{further_none, further_next, covered_at}
use Rattle.up_clean.proofs.beginning.begin_pages.Goals as goal

pub loop-place-init : goal.loop-place-init
loop-place-init c = further_none c.args.changing.now

pub begin_page-requires-clause-inside : goal.begin_page-requires-clause-inside
begin_page-requires-clause-inside c =
    let low : c.loop-place._place < c.args.range.count = omega arith in
    rw c.loop-place.invariant (covered_at c.args.range c.args.changing.now.done.mark c.loop-place._place c.requires.at low)

pub loop-place-preserved : goal.loop-place-preserved
loop-place-preserved c = c.begin_page.ensures ∙ ap (λ (x : Change). next x) c.loop-place.invariant ∙ further_next c.args.changing.now c.loop-place._place
