use Rattle.std.proofs.Common.{refl, subst}
use Rattle.up_model.specs.declared.entry.Call.TheVariants as calls
use Rattle.up_model.specs.declared.entry.Told.TheVariants as told
use Rattle.up_site.specs.Standing.{telling, LeavesDated}
use Rattle.up_claims.specs.Sited.{Flushing}
use Rattle.up_site.proofs.Reached.{rose_told}
use Rattle.up_site.proofs.SiteSteps.{site_quiet, site_same}
use Rattle.up_site.proofs.Leaving.{flush_left, within_none}
use Rattle.up_site.specs.Sited.{Sited}
use Rattle.up_site.proofs.imaged.Imaged.flush.Goals as goal

pub invariant_of-self-2 : goal.invariant_of-self-2
invariant_of-self-2 g c =
    rw (c.in_ok-stepped.ensures.object) (site_quiet (telling g.D.Disk.tells g.D.Disk.count g.D.Disk.blocks
    g.D.Disk.faults g.D.Disk.lasts g.D.Disk.time g.D.Disk.leaves) c.self.inside.object.birth
    c.self.inside.object.journal c.self.inside.start.value c.self.inside.disk c.sync_disk-ok.new.disk
    c.self.inside.tours.items c.self.invariant c.args.by.who c.args.by.epoch (calls.Tell (told.Flushed
    c.sync_disk-ok.result)) refl refl
    c.sync_disk-ok.ensures.count c.sync_disk-ok.ensures.same (rose_told Flushing c.sync_disk-ok.result _ _
    c.sync_disk-ok.ensures.rose)
    (flush_left (telling g.D.Disk.tells g.D.Disk.count g.D.Disk.blocks g.D.Disk.faults g.D.Disk.lasts
    g.D.Disk.time g.D.Disk.leaves) c.self.inside.disk c.sync_disk-ok.new.disk c.sync_disk-ok.result
    c.sync_disk-ok.ensures.left c.sync_disk-ok.ensures.kept c.sync_disk-ok.ensures.same
    c.self.invariant.told))

-- memory was wanted behind the sync
pub invariant_of-self : goal.invariant_of-self
invariant_of-self g c =
    rw (c.in_err-stepped.ensures.same) (site_same (telling g.D.Disk.tells g.D.Disk.count g.D.Disk.blocks
    g.D.Disk.faults g.D.Disk.lasts g.D.Disk.time g.D.Disk.leaves) c.self.inside.object.birth
    c.self.inside.object.journal c.self.inside.start.value c.self.inside.disk c.sync_disk-ok.new.disk
    c.self.inside.tours.items c.self.invariant c.sync_disk-ok.ensures.count c.sync_disk-ok.ensures.same
    c.sync_disk-ok.ensures.later
    c.sync_disk-ok.ensures.left)

pub returns-in_err-stepped-clause-within : goal.returns-in_err-stepped-clause-within
returns-in_err-stepped-clause-within g c =
    subst (λ (v : Sited g.row.D.Denot). LeavesDated (telling g.D.Disk.tells g.D.Disk.count g.D.Disk.blocks
    g.D.Disk.faults g.D.Disk.lasts g.D.Disk.time g.D.Disk.leaves)
    v.whole.birth v.whole.journal v.start c.sync_disk-ok.new.disk (g.D.Disk.time v.disk)) c.self.view_is
    (within_none (telling g.D.Disk.tells g.D.Disk.count g.D.Disk.blocks g.D.Disk.faults g.D.Disk.lasts
    g.D.Disk.time g.D.Disk.leaves) c.self.inside.object.birth c.self.inside.object.journal
    c.self.inside.start.value c.self.inside.disk c.sync_disk-ok.new.disk c.self.inside.tours.items
    c.self.invariant
    c.sync_disk-ok.ensures.left)

pub returns-clause-within : goal.returns-clause-within
returns-clause-within g c =
    subst (λ (v : Sited g.row.D.Denot). LeavesDated (telling g.D.Disk.tells g.D.Disk.count g.D.Disk.blocks
    g.D.Disk.faults g.D.Disk.lasts g.D.Disk.time g.D.Disk.leaves)
    v.whole.birth v.whole.journal v.start c.sync_disk-ok.new.disk (g.D.Disk.time v.disk)) c.self.view_is
    (within_none (telling g.D.Disk.tells g.D.Disk.count g.D.Disk.blocks g.D.Disk.faults g.D.Disk.lasts
    g.D.Disk.time g.D.Disk.leaves) c.self.inside.object.birth c.self.inside.object.journal
    c.self.inside.start.value c.self.inside.disk c.sync_disk-ok.new.disk c.self.inside.tours.items
    c.self.invariant
    c.sync_disk-ok.ensures.left)
