use Rattle.up_site.specs.Standing.{telling}
use Rattle.up_site.proofs.SiteSteps.{site_first}
use Rattle.up_site.proofs.imaged.Imaged.new.Goals as goal

pub invariant_of-result : goal.invariant_of-result
invariant_of-result g c =
    rw (c.requires.first, c.of-start.ensures, c.new.ensures.items) (site_first (telling g.D.Disk.tells
    g.D.Disk.count g.D.Disk.blocks g.D.Disk.faults g.D.Disk.lasts g.D.Disk.time g.D.Disk.leaves)
    c.args.object.birth c.args.disk g.met.D.Disk.told c.requires.room)
