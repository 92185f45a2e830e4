use Rattle.std.proofs.Common.{ℕ, ◌<◌, ◌≤◌, length, slice_set, sym, ap, ◌∙◌, arith}
use Rattle.up_site.specs.Places.{place_at}
use Rattle.up_site.proofs.Placed.{with_at, with_end}
use Rattle.up_site.proofs.tours.set_stage.Goals as goal

pub returns-then-place-len : goal.returns-then-place-len
returns-then-place-len c =
    let low : place_at c.args.tours.now.items c.args.who < length c.args.tours.now.items = omega (
      arith,
      c.place_of-place.ensures.value,
    ) in
    ap (λ (n : ℕ). slice_set c.args.tours.now.items n (record { who = c.args.who; stage = c.args.stage }))
    c.place_of-place.ensures.value
    ∙ sym (with_at c.args.who c.args.stage c.args.tours.now.items low)

pub returns-else-place-len : goal.returns-else-place-len
returns-else-place-len c =
    let past : length c.args.tours.now.items ≤ place_at c.args.tours.now.items c.args.who = omega (
      arith,
      c.place_of-place.ensures.value,
    ) in
    c.push_reserved.ensures.items ∙ sym (with_end c.args.who c.args.stage c.args.tours.now.items past)
