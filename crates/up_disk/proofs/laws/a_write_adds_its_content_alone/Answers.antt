use Rattle.up_disk.proofs.Contents.{write_adds_content}
use Rattle.up_disk.proofs.laws.a_write_adds_its_content_alone.Goals as goal

pub returns : goal.returns
returns g c old new number bytes lasts adds since p content low left =
    write_adds_content (g.D.Disk.leaves old) (g.D.Disk.leaves new) (g.D.Disk.time old) number bytes
    (λ early image before now. g.met.D.Disk.earlier old early (g.D.Disk.time old) image lasts before now) adds since p content low left
