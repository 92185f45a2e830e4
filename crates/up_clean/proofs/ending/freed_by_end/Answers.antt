use Rattle.std.proofs.Common.{◌≡◌, ◌<◌, ◌+◌, arith}
use Rattle.up_model.specs.Deeds.{named}
use Rattle.up_model.specs.States.{empty_at_end}
use Rattle.up_model.specs.declared.entry.Call.TheVariants.{End}
use Rattle.up_clean.proofs.Events.{freed_step}
use Rattle.up_clean.proofs.ending.freed_by_end.Goals as goal

pub loop-place-preserved : goal.loop-place-preserved
loop-place-preserved c =
    let low : c.loop-place.place < c.args.range.count = omega arith in
    let here : c.first_of-first.result + c.loop-place.place ≡ c.args.range.first + c.loop-place.place = omega arith in
    freed_step (empty_at_end c.args.object.now.birth c.args.object.now.journal (named c.args.object.now.birth (End c.args.range c.args.of))) c.args.range.first c.loop-place.place c.args.range.count _ c.is_emptied.result
    c.loop-place.events.items c.add_where.new.events.items _ low here c.is_emptied.ensures c.in_ok-add_where.ensures c.loop-place.invariant
