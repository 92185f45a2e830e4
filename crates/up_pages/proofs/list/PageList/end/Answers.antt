use Rattle.std.proofs.Common.{◌≡◌, ◌≤◌, ◌-◌, ◌++◌, length, get_or, ap, ◌∙◌, arith}
use Rattle.up_pages.specs.Pages.{frames_down}
use Rattle.up_pages.specs.declared.page.Page.TheVariants.{Absent}
use Rattle.up_pages.proofs.HeldCounts.{down_few, all_kinds}
use Rattle.up_pages.proofs.list.PageList.end.Goals as goal

pub take_off-requires-clause-room : goal.take_off-requires-clause-room
take_off-requires-clause-room c =
    let few : length (frames_down (λ p. get_or c.self.inside.pages.items p Absent) 0 (length c.self.inside.pages.items - 0)) ≤ length c.self.inside.pages.items - 0
    = down_few (λ p. get_or c.self.inside.pages.items p Absent) 0 (length c.self.inside.pages.items - 0) in
    let empty : length c.self.inside.home.items ≡ 0 = ap length c.self.invariant.1 in
    omega (arith, few, empty, c.self.invariant.2)

pub returns-clause-kinds : goal.returns-clause-kinds
returns-clause-kinds c = λ kind.
    let whole : length c.self.inside.pages.items - 0 ≡ length c.self.inside.pages.items = omega arith in
    let frames : c.take_off.new.frames.items ≡ frames_down (λ p. get_or c.self.inside.pages.items p Absent) 0 (length c.self.inside.pages.items)
    = c.take_off.ensures.frames ∙ (ap (λ l. l ++ frames_down (λ p. get_or c.self.inside.pages.items p Absent) 0 (length c.self.inside.pages.items - 0)) c.self.invariant.1
    ∙ ap (frames_down (λ p. get_or c.self.inside.pages.items p Absent) 0) whole) in
    rw (frames, ← c.self.view_is) (all_kinds kind c.self.inside.pages.items)
