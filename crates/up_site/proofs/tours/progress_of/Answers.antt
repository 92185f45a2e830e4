use Rattle.std.proofs.Common.{◌<◌, ◌≤◌, length, sym, ap, ◌∙◌, arith}
use Rattle.up_site.specs.Places.{place_at, progress_at}
use Rattle.up_site.proofs.Placed.{tour_read, none_at}
use Rattle.up_site.proofs.tours.progress_of.Goals as goal

pub returns-then-place-len : goal.returns-then-place-len
returns-then-place-len c =
    let low : c.place_of-place.result < length c.args.tours.now.items = omega arith in
    c.progress_in.ensures ∙ ap progress_at (sym (tour_read c.args.who c.args.tours.now.items
    c.place_of-place.result c.index.result.now c.place_of-place.ensures.value low c.index.ensures).1)

pub returns-else-place-len : goal.returns-else-place-len
returns-else-place-len c =
    let past : length c.args.tours.now.items ≤ place_at c.args.tours.now.items c.args.who = omega (
      arith,
      c.place_of-place.ensures.value,
    ) in
    ap progress_at (sym (none_at c.args.who c.args.tours.now.items past))
