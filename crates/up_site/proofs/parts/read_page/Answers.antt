use Rattle.up_site.specs.Standing.{telling}
use Rattle.up_site.proofs.Leaving.{no_more}
use Rattle.up_site.proofs.parts.read_page.Goals as goal

pub returns-in-Ok-clause-left : goal.returns-in-Ok-clause-left
returns-in-Ok-clause-left g c =
    no_more (telling g.D.Disk.tells g.D.Disk.count g.D.Disk.blocks g.D.Disk.faults g.D.Disk.lasts
    g.D.Disk.time g.D.Disk.leaves)
    c.args.disk.now c.read_block.new.self g.met.D.Disk.earlier c.read_block.ensures.later
    c.read_block.ensures.left

pub returns-in-Err-clause-left : goal.returns-in-Err-clause-left
returns-in-Err-clause-left g c =
    no_more (telling g.D.Disk.tells g.D.Disk.count g.D.Disk.blocks g.D.Disk.faults g.D.Disk.lasts
    g.D.Disk.time g.D.Disk.leaves)
    c.args.disk.now c.read_block.new.self g.met.D.Disk.earlier c.read_block.ensures.later
    c.read_block.ensures.left
