use Rattle.std.proofs.Common.{◌≡◌, Some, sym, ap, ◌∙◌, subst}
use Rattle.std.specs.Prelude.{IfOk, OnErr}
use Rattle.up_object.specs.OneCall.{brought_of}
use Rattle.up_claims.specs.Sited.{deed_of}
use Rattle.up_site.specs.Hosted.{Hosted, seen_in}
use Rattle.up_site.specs.Steps.{bytes_with, TouchesDisk, StopsWithin, BlocksAfter}
use Rattle.up_site.specs.Due.{Did}
use Rattle.up_site.specs.Standing.{telling}
use Rattle.up_site.specs.declared.hosting.Hosting.TheVariants.{OverDisk}
use Rattle.up_site.proofs.site.Site.site_step.Goals as goal

pub returns-clause-did : goal.returns-clause-did
returns-clause-did g c =
    let same : seen_in (OverDisk c.in-OverDisk.imaged) ≡ c.args.self.now = ap seen_in (sym
    c.in-OverDisk.is) ∙ c.self.view_is in
    subst (λ (v : Hosted g.row.D.Denot). IfOk c.make_step.result (λ r. Did v.whole
    c.make_step.new.self.whole c.args.who c.args.epoch
    (deed_of v.whole.birth v.whole.journal c.args.who (brought_of c.args.frames) (bytes_with v.image
    c.args.who) c.args.step) r.0 r.1)) same c.make_step.ensures.answers.did

pub returns-clause-disk : goal.returns-clause-disk
returns-clause-disk g c =
    let same : seen_in (OverDisk c.in-OverDisk.imaged) ≡ c.args.self.now = ap seen_in (sym
    c.in-OverDisk.is) ∙ c.self.view_is in
    subst (λ (v : Hosted g.row.D.Denot). IfOk c.make_step.result (λ r. TouchesDisk g.D.Disk.faults
    (deed_of v.whole.birth v.whole.journal c.args.who (brought_of c.args.frames) (bytes_with v.image
    c.args.who) c.args.step) r.0 v.image (Some c.make_step.new.self))) same
    c.make_step.ensures.answers.disk

pub returns-clause-within : goal.returns-clause-within
returns-clause-within g c =
    let same : seen_in (OverDisk c.in-OverDisk.imaged) ≡ c.args.self.now = ap seen_in (sym c.in-OverDisk.is)
    ∙ c.self.view_is in
    subst (λ (v : Hosted g.row.D.Denot). StopsWithin
    (telling g.D.Disk.tells g.D.Disk.count g.D.Disk.blocks g.D.Disk.faults g.D.Disk.lasts g.D.Disk.time
    g.D.Disk.leaves)
    (deed_of v.whole.birth v.whole.journal c.args.who (brought_of c.args.frames)
    (bytes_with v.image c.args.who) c.args.step) v.image (Some c.make_step.new.self)) same
    c.make_step.ensures.answers.within

pub returns-clause-left : goal.returns-clause-left
returns-clause-left g c =
    let same : seen_in (OverDisk c.in-OverDisk.imaged) ≡ c.args.self.now = ap seen_in (sym c.in-OverDisk.is)
    ∙ c.self.view_is in
    subst (λ (v : Hosted g.row.D.Denot). OnErr c.make_step.result (BlocksAfter
    (telling g.D.Disk.tells g.D.Disk.count g.D.Disk.blocks g.D.Disk.faults g.D.Disk.lasts g.D.Disk.time
    g.D.Disk.leaves)
    (deed_of v.whole.birth v.whole.journal c.args.who (brought_of c.args.frames)
    (bytes_with v.image c.args.who) c.args.step) c.args.who v.image (Some c.make_step.new.self))) same
    c.make_step.ensures.answers.left
