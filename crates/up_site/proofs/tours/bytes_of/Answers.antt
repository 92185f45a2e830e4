use Rattle.std.proofs.Common.{◌≡◌, ◌<◌, ◌≤◌, Option, length, sym, ap, ◌∙◌, subst, arith}
use Rattle.std.specs.Prelude.{IfOk}
use Rattle.up_site.specs.Places.{place_at, bytes_held}
use Rattle.up_site.specs.declared.stage.Stage.{Stage}
use Rattle.up_site.proofs.Placed.{tour_read, none_at}
use Rattle.up_site.proofs.tours.bytes_of.Goals as goal

pub returns-then-place-len : goal.returns-then-place-len
returns-then-place-len c =
    let low : c.place_of-place.result < length c.args.tours.now.items = omega arith in
    subst (λ (s : Option Stage). IfOk c.held_in.result (λ bytes. bytes ≡ bytes_held s))
    (sym (tour_read c.args.who c.args.tours.now.items c.place_of-place.result c.index.result.now
    c.place_of-place.ensures.value low c.index.ensures).1) c.held_in.ensures

pub returns-else-place-len : goal.returns-else-place-len
returns-else-place-len c =
    let past : length c.args.tours.now.items ≤ place_at c.args.tours.now.items c.args.who = omega (
      arith,
      c.place_of-place.ensures.value,
    ) in
    c.new.ensures ∙ ap bytes_held (sym (none_at c.args.who c.args.tours.now.items past))
