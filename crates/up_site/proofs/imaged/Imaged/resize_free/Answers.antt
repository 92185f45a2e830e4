use Rattle.std.proofs.Common.{sym, subst}
use Rattle.up_coherence.specs.StepPremises.{BelowAll}
use Rattle.up_site.specs.Sited.{Sited}
use Rattle.up_site.specs.Standing.{telling}
use Rattle.up_site.proofs.SiteSteps.{site_resized}
use Rattle.up_site.proofs.imaged.Imaged.resize_free.Goals as goal

pub invariant_of-self-2 : goal.invariant_of-self-2
invariant_of-self-2 g c =
    let below : BelowAll c.self.inside.object.journal c.args.pages =
    subst (λ (v : Sited g.row.D.Denot). BelowAll v.whole.journal c.args.pages) (sym c.self.view_is)
    c.requires.below in
    rw (c.in_ok-resized.ensures.object) (site_resized (telling g.D.Disk.tells g.D.Disk.count
    g.D.Disk.blocks g.D.Disk.faults g.D.Disk.lasts g.D.Disk.time g.D.Disk.leaves)
    c.self.inside.object.birth c.self.inside.object.journal c.self.inside.start.value c.self.inside.disk
    c.self.inside.tours.items c.self.invariant c.args.by.who c.args.by.epoch c.args.pages below)
