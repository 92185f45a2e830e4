use Rattle.up_site.specs.Standing.{telling}
use Rattle.up_site.proofs.Leaving.{leaves_written}
use Rattle.up_site.proofs.parts.write_page.Goals as goal

pub returns-clause-left : goal.returns-clause-left
returns-clause-left g c =
    leaves_written (telling g.D.Disk.tells g.D.Disk.count g.D.Disk.blocks g.D.Disk.faults g.D.Disk.lasts
    g.D.Disk.time g.D.Disk.leaves)
    c.args.disk.now c.write_block.new.self g.met.D.Disk.earlier g.met.D.Disk.sized c.args.number
    c.args.bytes.now c.requires.number
    c.write_block.ensures.later c.write_block.ensures.left
