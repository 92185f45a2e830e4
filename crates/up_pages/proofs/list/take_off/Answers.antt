use Rattle.std.proofs.Common.{◌≡◌, ◌<◌, ◌-◌, suc, Some, length, get_or, vec_len, rules, arith}
use Rattle.up_pages.specs.declared.page.Page.TheVariants.{Absent}
use Rattle.up_pages.proofs.PagesTaken.{taken, room_for}
use Rattle.up_pages.proofs.list.take_off.Goals as goal

pub put_some-requires : goal.put_some-requires
put_some-requires c =
    let some : c.args.first < length c.loop-pages.pages.items = search rules in
    let long : length c.loop-pages.pages.items ≡ suc (vec_len c.loop-pages.pages - 1) = omega arith in
    let last : c.pop.result ≡ Some (get_or c.loop-pages.pages.items (vec_len c.loop-pages.pages - 1) Absent) = c.pop.ensures.value Absent (omega arith) in
    let page : c.in-Some.page ≡ get_or c.loop-pages.pages.items (vec_len c.loop-pages.pages - 1) Absent = cc (last, c.in-Some.is) in
    room_for c.args.pages.now.items c.args.first (vec_len c.loop-pages.pages - 1) c.args.frames.now c.loop-pages.pages.items c.loop-pages.frames c.in-Some.page Absent c.into_frame.result
    c.loop-pages.invariant some long page c.into_frame.ensures

pub loop-pages-preserved : goal.loop-pages-preserved
loop-pages-preserved c =
    let some : c.args.first < length c.loop-pages.pages.items = search rules in
    let long : length c.loop-pages.pages.items ≡ suc (vec_len c.loop-pages.pages - 1) = omega arith in
    let last : c.pop.result ≡ Some (get_or c.loop-pages.pages.items (vec_len c.loop-pages.pages - 1) Absent) = c.pop.ensures.value Absent (omega arith) in
    let page : c.in-Some.page ≡ get_or c.loop-pages.pages.items (vec_len c.loop-pages.pages - 1) Absent = cc (last, c.in-Some.is) in
    taken c.args.pages.now.items c.args.first (vec_len c.loop-pages.pages - 1) c.args.frames.now c.loop-pages.pages.items c.pop.new.self.items c.loop-pages.frames c.put_some.new.self c.in-Some.page Absent c.into_frame.result
    c.loop-pages.invariant some long c.pop.ensures.rest page c.into_frame.ensures c.put_some.ensures.items c.put_some.ensures.room
