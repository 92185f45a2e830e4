use Rattle.std.proofs.Common.{List, length, reverse, sym, subst}
use Rattle.up_disk.specs.declared.mem.DiskCall.{DiskCall}
use Rattle.up_disk.specs.Left.{OnlyLeaves, AddsNone}
use Rattle.up_disk.specs.Platter.{Platter, LeftSince, blocks_after, left_on}
use Rattle.up_disk.proofs.WritesAndSyncs.{sync_adds, sync_keeps}
use Rattle.up_disk.proofs.mem.MemDiskDisk.sync.Goals as goal

pub returns-clause-kept : goal.returns-clause-kept
returns-clause-kept c =
    subst (λ (d : List DiskCall). OnlyLeaves (LeftSince c.self.inside.start.items d (length d)) (blocks_after c.self.inside.start.items d)) (sym c.note_sync.ensures.done)
    (sync_keeps c.self.inside.start.items (reverse c.self.inside.done.items))

pub returns-clause-left : goal.returns-clause-left
returns-clause-left c =
    subst (λ (v : Platter). AddsNone (left_on v) (LeftSince c.self.inside.start.items (reverse c.note_sync.new.done.items)) (length v.done)) c.self.view_is
    (subst (λ (d : List DiskCall). AddsNone (LeftSince c.self.inside.start.items (reverse c.self.inside.done.items)) (LeftSince c.self.inside.start.items d) (length (reverse c.self.inside.done.items))) (sym c.note_sync.ensures.done)
    (sync_adds c.self.inside.start.items (reverse c.self.inside.done.items)))
