use Rattle.std.proofs.Common.{List, length, reverse, sym, subst}
use Rattle.up_disk.specs.declared.mem.DiskCall.{DiskCall}
use Rattle.up_disk.specs.Left.{AddsWritten}
use Rattle.up_disk.specs.Platter.{Platter, LeftSince, left_on}
use Rattle.up_disk.proofs.WritesAndSyncs.{put_adds}
use Rattle.up_disk.proofs.mem.MemDiskDisk.write_block.Goals as goal

pub returns-then-good-clause-left : goal.returns-then-good-clause-left
returns-then-good-clause-left c =
    subst (λ (v : Platter). AddsWritten (left_on v) (LeftSince c.self.inside.start.items (reverse c.note_write.new.done.items)) (length v.done) c.args.number c.args.bytes.now) c.self.view_is
    (subst (λ (d : List DiskCall). AddsWritten (LeftSince c.self.inside.start.items (reverse c.self.inside.done.items)) (LeftSince c.self.inside.start.items d) (length (reverse c.self.inside.done.items)) c.args.number c.args.bytes.now)
    (sym c.note_write.ensures.done) (put_adds c.self.inside.start.items (reverse c.self.inside.done.items) c.args.number c.args.bytes.now c.is_ok-good.result))

pub returns-else-good-clause-left : goal.returns-else-good-clause-left
returns-else-good-clause-left c =
    subst (λ (v : Platter). AddsWritten (left_on v) (LeftSince c.self.inside.start.items (reverse c.note_write.new.done.items)) (length v.done) c.args.number c.args.bytes.now) c.self.view_is
    (subst (λ (d : List DiskCall). AddsWritten (LeftSince c.self.inside.start.items (reverse c.self.inside.done.items)) (LeftSince c.self.inside.start.items d) (length (reverse c.self.inside.done.items)) c.args.number c.args.bytes.now)
    (sym c.note_write.ensures.done) (put_adds c.self.inside.start.items (reverse c.self.inside.done.items) c.args.number c.args.bytes.now c.is_ok-good.result))
