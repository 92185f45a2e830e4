use Rattle.std.proofs.Common.{◌≡◌, ◌+◌, ◌<◌, suc, length, sym, ◌∙◌, arith, rules}
use Rattle.up_site.specs.Places.{place_at}
use Rattle.up_site.specs.declared.stage.Stage.TheVariants.{Copied}
use Rattle.up_site.proofs.Placed.{some_at, stage_read, tour_read, copied_is, with_at}
use Rattle.up_site.proofs.tours.move_on.Goals as goal

pub index_mut-requires : goal.index_mut-requires
index_mut-requires c =
    let low : place_at c.args.tours.now.items c.args.who < length c.args.tours.now.items = some_at
    c.args.who c.args.tours.now.items _ c.requires.copied.stage in
    omega (arith, c.place_of-place.ensures.value)

pub overflow_add-stored : goal.overflow_add-stored
overflow_add-stored c =
    let low : place_at c.args.tours.now.items c.args.who < length c.args.tours.now.items = some_at
    c.args.who c.args.tours.now.items _ c.requires.copied.stage in
    let there : c.place_of-place.result < length c.args.tours.now.items = omega (
      arith,
      c.place_of-place.ensures.value,
    ) in
    let is : c.index_mut.result.now.stage ≡ Copied c.args.range c.args.number c.requires.copied.bytes
    c.args.done =
    stage_read c.args.who c.args.tours.now.items c.place_of-place.result c.index_mut.result.now _
    c.place_of-place.ensures.value there c.index_mut.ensures.value c.requires.copied.stage in
    let done : c.in-Copied.stored ≡ c.args.done = (copied_is _ _ _ _ _ _ _ _ (sym c.in-Copied.is ∙ is)).3 in
    search rules

pub unreachable-requires : goal.unreachable-requires
unreachable-requires c =
    let low : place_at c.args.tours.now.items c.args.who < length c.args.tours.now.items = some_at
    c.args.who c.args.tours.now.items _ c.requires.copied.stage in
    let there : c.place_of-place.result < length c.args.tours.now.items = omega (
      arith,
      c.place_of-place.ensures.value,
    ) in
    c.in_default.not-Copied _ _ _ _
    (stage_read c.args.who c.args.tours.now.items c.place_of-place.result c.index_mut.result.now _
    c.place_of-place.ensures.value there c.index_mut.ensures.value c.requires.copied.stage)

pub returns : goal.returns
returns c = λ bytes known.
    let low : place_at c.args.tours.now.items c.args.who < length c.args.tours.now.items = some_at
    c.args.who c.args.tours.now.items _ c.requires.copied.stage in
    let there : c.place_of-place.result < length c.args.tours.now.items = omega (
      arith,
      c.place_of-place.ensures.value,
    ) in
    let read = tour_read c.args.who c.args.tours.now.items c.place_of-place.result c.index_mut.result.now
    c.place_of-place.ensures.value there c.index_mut.ensures.value in
    let is : c.index_mut.result.now.stage ≡ Copied c.args.range c.args.number bytes c.args.done =
    stage_read c.args.who c.args.tours.now.items c.place_of-place.result c.index_mut.result.now _
    c.place_of-place.ensures.value there c.index_mut.ensures.value known in
    let same = copied_is _ _ _ _ _ _ _ _ (sym c.in-Copied.is ∙ is) in
    let next : suc c.in-Copied.stored ≡ c.in-Copied.stored + 1 = omega arith in
    rw (read.0, same.0, same.1, same.2, sym next, same.3, c.place_of-place.ensures.value) (sym (with_at
    c.args.who (Copied c.args.range c.args.number bytes (suc c.args.done)) c.args.tours.now.items low))
