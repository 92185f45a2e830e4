use Rattle.std.proofs.Common.{◌≡◌, ◌<◌, ◌+◌, ◌-◌, arith}
use Rattle.up_span.specs.Pages.{count_pages}
use Rattle.up_object.proofs.RangeCalls.{covered_at}
use Rattle.up_clean.specs.Dirties.{lent}
use Rattle.up_clean.proofs.Counts.{none_used, Underway, underway_frame, underway_at, underway_enough}
use Rattle.up_clean.proofs.dirtying.dirty_pages.Goals as goal

pub loop-place-init : goal.loop-place-init
loop-place-init c =
    let test = lent c.args.changing.now.birth c.args.changing.now.journal in
    let from : c.args.range.first ≡ c.args.range.first + 0 = omega arith in
    let count : c.args.range.count ≡ c.args.range.count - 0 = omega arith in
    let same : count_pages test c.args.range.first c.args.range.count ≡ count_pages test (c.args.range.first + 0) (c.args.range.count - 0) = λ i. count_pages test (from i) (count i) in
    record { at = none_used c.args.changing.now; enough = omega (arith, c.requires.enough) }

pub dirty_page-requires-clause-inside : goal.dirty_page-requires-clause-inside
dirty_page-requires-clause-inside c =
    let low : c.loop-place._place < c.args.range.count = omega arith in
    rw c.loop-place.invariant.at (covered_at c.args.range c.args.changing.now.done.mark c.loop-place._place c.requires.at low)

pub dirty_page-requires-clause-frame : goal.dirty_page-requires-clause-frame
dirty_page-requires-clause-frame c =
    let low : c.loop-place._place < c.args.range.count = omega arith in
    let so : Underway c.args.changing.now c.loop-place.changing c.args.range.first c.loop-place._place c.args.range.count =
    record { start = c.requires.at; at = c.loop-place.invariant.at; enough = c.loop-place.invariant.enough; low = low } in
    underway_frame _ _ _ _ _ so

pub loop-place-preserved : goal.loop-place-preserved
loop-place-preserved c =
    let low : c.loop-place._place < c.args.range.count = omega arith in
    let so : Underway c.args.changing.now c.loop-place.changing c.args.range.first c.loop-place._place c.args.range.count =
    record { start = c.requires.at; at = c.loop-place.invariant.at; enough = c.loop-place.invariant.enough; low = low } in
    record { at = underway_at _ _ _ _ _ _ so c.dirty_page.ensures; enough = underway_enough _ _ _ _ _ _ so c.dirty_page.ensures }
