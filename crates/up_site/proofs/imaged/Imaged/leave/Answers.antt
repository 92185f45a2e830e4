use Rattle.std.proofs.Common.{refl, le_refl}
use Rattle.up_model.specs.declared.entry.Call.TheVariants as calls
use Rattle.up_site.specs.Standing.{telling}
use Rattle.up_site.proofs.SiteSteps.{site_quiet, left_still}
use Rattle.up_site.proofs.imaged.Imaged.leave.Goals as goal

pub invariant_of-self-2 : goal.invariant_of-self-2
invariant_of-self-2 g c =
    rw (c.in_ok-stepped.ensures.object) (site_quiet (telling g.D.Disk.tells g.D.Disk.count g.D.Disk.blocks
    g.D.Disk.faults g.D.Disk.lasts g.D.Disk.time g.D.Disk.leaves) c.self.inside.object.birth
    c.self.inside.object.journal c.self.inside.start.value c.self.inside.disk c.self.inside.disk
    c.self.inside.tours.items c.self.invariant c.args.who c.args.epoch (calls.Leave c.args.role) refl
    refl refl (λ tells. refl) (le_refl _)
    (left_still (telling g.D.Disk.tells g.D.Disk.count g.D.Disk.blocks g.D.Disk.faults g.D.Disk.lasts
    g.D.Disk.time g.D.Disk.leaves) (calls.Leave c.args.role) c.self.inside.disk refl))
