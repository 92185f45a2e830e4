use Rattle.std.proofs.Common.{◌≡◌, None, sym, subst}
use Rattle.up_site.specs.Sited.{Sited}
use Rattle.up_site.specs.Stages.{stage_at}
use Rattle.up_site.specs.Standing.{telling}
use Rattle.up_num.specs.declared.answers.Code.TheVariants.{NoSpace}
use Rattle.up_site.proofs.SiteSteps.{site_denied}
use Rattle.up_site.proofs.imaged.Imaged.deny.Goals as goal

pub invariant_of-self-2 : goal.invariant_of-self-2
invariant_of-self-2 g c =
    let free : stage_at c.self.inside.tours.items c.args.by.who ≡ None = subst (λ (v : Sited
    g.row.D.Denot). stage_at v.tours c.args.by.who ≡ None) (sym c.self.view_is) c.requires.free in
    rw (c.in_ok-stepped.ensures.object) (site_denied (telling g.D.Disk.tells g.D.Disk.count g.D.Disk.blocks
    g.D.Disk.faults g.D.Disk.lasts g.D.Disk.time g.D.Disk.leaves) c.self.inside.object.birth
    c.self.inside.object.journal c.self.inside.start.value c.self.inside.disk c.self.inside.tours.items
    c.self.invariant c.args.by.who c.args.by.epoch c.one_page.result NoSpace free)
