use Rattle.std.proofs.Common.{refl, le_refl}
use Rattle.up_model.specs.declared.entry.Call.TheVariants as calls
use Rattle.up_model.specs.declared.entry.Told.TheVariants as told
use Rattle.up_site.specs.Standing.{telling}
use Rattle.up_site.proofs.SiteSteps.{site_quiet, left_still}
use Rattle.up_site.proofs.imaged.Imaged.busy.Goals as goal

pub invariant_of-self-2 : goal.invariant_of-self-2
invariant_of-self-2 g c =
    rw (c.in_ok-busy.ensures.object) (site_quiet (telling g.D.Disk.tells g.D.Disk.count g.D.Disk.blocks
    g.D.Disk.faults g.D.Disk.lasts g.D.Disk.time g.D.Disk.leaves)
    c.self.inside.object.birth c.self.inside.object.journal c.self.inside.start.value c.self.inside.disk
    c.self.inside.disk
    c.self.inside.tours.items c.self.invariant c.args.by.who c.args.by.epoch (calls.Tell (told.Busy
    c.args.pages c.args.range))
    refl refl refl (λ tells. refl) (le_refl _)
    (left_still (telling g.D.Disk.tells g.D.Disk.count g.D.Disk.blocks g.D.Disk.faults g.D.Disk.lasts
    g.D.Disk.time g.D.Disk.leaves) (calls.Tell (told.Busy c.args.pages c.args.range))
    c.self.inside.disk refl))
