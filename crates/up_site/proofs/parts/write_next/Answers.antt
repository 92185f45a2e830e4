use Rattle.std.proofs.Common.{◌+◌, ℕ, List, ap, ◌∙◌, subst}
use Rattle.up_num.specs.Span.{Span}
use Rattle.up_site.specs.Standing.{telling, part_of, LeavesWritten}
use Rattle.up_site.proofs.parts.write_next.Goals as goal

pub returns-clause-left : goal.returns-clause-left
returns-clause-left g c =
    subst (λ (b : List ℕ). LeavesWritten (telling g.D.Disk.tells g.D.Disk.count g.D.Disk.blocks
    g.D.Disk.faults g.D.Disk.lasts g.D.Disk.time g.D.Disk.leaves) c.args.disk.now c.write_page.new.disk
    (c.args.range.first + c.args.done) b)
    (c.part_of.ensures.value ∙ ap (λ (b : List ℕ). part_of b c.args.done) c.copy_of-bytes.ensures)
    (subst (λ (s : Span). LeavesWritten (telling g.D.Disk.tells g.D.Disk.count g.D.Disk.blocks
    g.D.Disk.faults g.D.Disk.lasts g.D.Disk.time g.D.Disk.leaves) c.args.disk.now c.write_page.new.disk
    (s.first + c.args.done) c.part_of.result.now)
    c.range.view_is c.write_page.ensures.left)
