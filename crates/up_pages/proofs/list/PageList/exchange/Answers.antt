use Rattle.std.proofs.Common.{rules, ◌≡◌, ◌<◌, length, get_or, set, ap, ◌∙◌}
use Rattle.std.proofs.lemmas.List.{get_or_default}
use Rattle.up_pages.specs.Pages.{frame_of}
use Rattle.up_pages.specs.declared.page.Page.TheVariants.{Absent}
use Rattle.up_pages.proofs.HeldCounts.{kinds_set}
use Rattle.up_pages.proofs.list.PageList.exchange.Goals as goal

pub returns-clause-kinds : goal.returns-clause-kinds
returns-clause-kinds c = λ kind.
    let within : c.args.page.0 < length c.self.inside.pages.items = search rules in
    let back : c.into_frame.result ≡ frame_of (get_or c.self.inside.pages.items c.args.page.0 Absent)
    = c.into_frame.ensures ∙ ap frame_of (c.replace.ensures.value ∙ (c.index_mut-slot.ensures.value ∙ get_or_default c.self.inside.pages.items c.args.page.0 _ Absent within)) in
    rw (← c.self.view_is) (kinds_set kind c.self.inside.pages.items _ c.args.page.0 c.args.new c.into_frame.result within
    (ap (set c.self.inside.pages.items c.args.page.0) c.replace.ensures.after) back)
