use Rattle.std.proofs.Common.{◌<◌, ◌≤◌, length, sym, ◌∙◌, arith}
use Rattle.up_site.specs.Places.{place_at}
use Rattle.up_site.proofs.Placed.{without_step, without_none}
use Rattle.up_site.proofs.tours.take_out.Goals as goal

pub loop-place-preserved-in-loop-place : goal.loop-place-preserved-in-loop-place
loop-place-preserved-in-loop-place c =
    let low : c.loop-place.place < length c.loop-place.tours.items = omega arith in (
      c.place_of-place-in-loop-place.ensures.value,
      without_step c.args.who c.loop-place.tours.items c.remove-tour.new.self.items c.loop-place.place
          c.loop-place.invariant.0 low c.remove-tour.ensures.items ∙ c.loop-place.invariant.1,
    )

pub loop-place-preserved-in-loop-place-2 : goal.loop-place-preserved-in-loop-place-2
loop-place-preserved-in-loop-place-2 c =
    let low : c.loop-place.place < length c.loop-place.tours.items = omega arith in (
      c.place_of-place-in-loop-place.ensures.value,
      without_step c.args.who c.loop-place.tours.items c.remove-tour.new.self.items c.loop-place.place
          c.loop-place.invariant.0 low c.remove-tour.ensures.items ∙ c.loop-place.invariant.1,
    )

pub loop-place-preserved-in-loop-place-3 : goal.loop-place-preserved-in-loop-place-3
loop-place-preserved-in-loop-place-3 c =
    let low : c.loop-place.place < length c.loop-place.tours.items = omega arith in (
      c.place_of-place-in-loop-place.ensures.value,
      without_step c.args.who c.loop-place.tours.items c.remove-tour.new.self.items c.loop-place.place
          c.loop-place.invariant.0 low c.remove-tour.ensures.items ∙ c.loop-place.invariant.1,
    )

pub loop-place-preserved : goal.loop-place-preserved
loop-place-preserved c =
    let low : c.loop-place.place < length c.loop-place.tours.items = omega arith in (
      c.place_of-place-in-loop-place.ensures.value,
      without_step c.args.who c.loop-place.tours.items c.remove-tour.new.self.items c.loop-place.place
          c.loop-place.invariant.0 low c.remove-tour.ensures.items ∙ c.loop-place.invariant.1,
    )

pub returns : goal.returns
returns c =
    let past : length c.loop-place.tours.items ≤ place_at c.loop-place.tours.items c.args.who = omega
    (arith, c.loop-place.invariant.0) in
    sym (without_none c.args.who c.loop-place.tours.items past) ∙ c.loop-place.invariant.1
