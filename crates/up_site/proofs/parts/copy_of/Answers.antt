use Rattle.std.proofs.Common.{◌≡◌, ◌<◌, length, sym, ap, ◌∙◌, arith}
use Rattle.up_site.specs.Places.{place_at, bytes_held}
use Rattle.up_site.specs.declared.stage.Stage.TheVariants.{Copied}
use Rattle.up_site.proofs.Placed.{some_at, stage_read, copied_is}
use Rattle.up_site.proofs.parts.copy_of.Goals as goal

pub index-requires : goal.index-requires
index-requires c =
    let low : place_at c.args.tours.now.items c.args.who < length c.args.tours.now.items = some_at
    c.args.who c.args.tours.now.items _ c.requires.copied.stage in
    omega (arith, c.place_of-place.ensures.value)

pub unreachable-requires : goal.unreachable-requires
unreachable-requires c =
    let low : place_at c.args.tours.now.items c.args.who < length c.args.tours.now.items = some_at
    c.args.who c.args.tours.now.items _ c.requires.copied.stage in
    let there : c.place_of-place.result < length c.args.tours.now.items = omega (
      arith,
      c.place_of-place.ensures.value,
    ) in
    c.in_default.not-Copied _ _ _ _
    (stage_read c.args.who c.args.tours.now.items c.place_of-place.result c.index.result.now _
    c.place_of-place.ensures.value there c.index.ensures c.requires.copied.stage)

pub returns : goal.returns
returns c =
    let low : place_at c.args.tours.now.items c.args.who < length c.args.tours.now.items = some_at
    c.args.who c.args.tours.now.items _ c.requires.copied.stage in
    let there : c.place_of-place.result < length c.args.tours.now.items = omega (
      arith,
      c.place_of-place.ensures.value,
    ) in
    let is : c.index.result.now.stage ≡ Copied c.args.range c.args.number c.requires.copied.bytes
    c.args.done =
    stage_read c.args.who c.args.tours.now.items c.place_of-place.result c.index.result.now _
    c.place_of-place.ensures.value there c.index.ensures c.requires.copied.stage in
    let same = copied_is _ _ _ _ _ _ _ _ (sym c.in-Copied.is ∙ is) in
    same.2 ∙ sym (ap bytes_held c.requires.copied.stage)
