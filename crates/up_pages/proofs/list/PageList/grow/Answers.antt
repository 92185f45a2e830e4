use Rattle.std.proofs.Common.{◌≤◌, length, get_or, ap, ◌∙◌, arith}
use Rattle.up_pages.specs.declared.page.Page.TheVariants.{Absent}
use Rattle.up_pages.proofs.HeldCounts.{grown_kinds}
use Rattle.up_pages.proofs.list.PageList.grow.Goals as goal

pub returns-clause-kinds : goal.returns-clause-kinds
returns-clause-kinds c = λ kind.
    let longer : length c.self.inside.pages.items ≤ length c.add_absent.new.pages.items = omega (arith, ap length c.in_ok-reserve.ensures.items, c.add_absent.ensures.size) in
    rw (← c.self.view_is) (grown_kinds kind c.self.inside.pages.items c.add_absent.new.pages.items longer
    (λ p. c.add_absent.ensures.pages p ∙ ap (λ l. get_or l p Absent) c.in_ok-reserve.ensures.items))
