use Rattle.std.proofs.Common.{◌≡◌, ◌<◌, ◌≤◌, ◌+◌, length, rules, arith}
use Rattle.up_pages.proofs.HeldCounts.{held_next}
use Rattle.up_pages.proofs.list.held_from.Goals as goal

pub overflow_add-held : goal.overflow_add-held
overflow_add-held c =
    let end : c.len-place-end.result ≡ length c.args.pages.now.items = search rules in
    let within : c.loop-place.place < length c.args.pages.now.items = omega arith in
    let few : c.loop-place.held + c.frames-held.result ≤ length c.args.pages.now.items
    = (held_next c.args.pages.now.items c.args.first c.loop-place.place c.loop-place.held c.frames-held.result c.index.result.now c.loop-place.auto.place within c.index.ensures c.frames-held.ensures c.loop-place.invariant).1 in
    omega arith
