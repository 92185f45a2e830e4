use Rattle.std.proofs.Common.{rules, refl}
use Rattle.up_model.specs.declared.entry.Told.TheVariants as told
use Rattle.up_claims.specs.declared.step.SiteReply.TheVariants as answers
use Rattle.up_claims.specs.Sited.{Flushing}
use Rattle.up_site.specs.Standing.{telling}
use Rattle.up_site.proofs.Unmoved.{tell_holds}
use Rattle.up_site.proofs.Replied.{told_none, bare_told}
use Rattle.up_site.proofs.imaged.Imaged.sync.Goals as goal

pub spend_told-requires : goal.spend_told-requires
spend_told-requires g c = record {
  none = told_none c.args.self.now.whole c.flush.new.self.whole c.in-Ok.ok
      c.in-Ok.stepped c.args.by.who c.args.by.epoch Flushing c.in-Ok.ensures.tells (tell_holds
      c.args.self.now.whole c.args.by.who c.args.by.epoch (told.Flushed c.in-Ok.ok));
}

pub returns-in-Ok : goal.returns-in-Ok
returns-in-Ok g c = record {
  once = search rules;
  bare = bare_told (telling g.D.Disk.tells g.D.Disk.count g.D.Disk.blocks g.D.Disk.faults g.D.Disk.lasts
      g.D.Disk.time g.D.Disk.leaves) c.args.self.now c.flush.new.self c.in-Ok.ok
      c.in-Ok.stepped c.args.by.who c.args.by.epoch Flushing (answers.Flushed c.in-Ok.ok) c.spend_told.result
      c.in-Ok.ensures.tells
      (tell_holds c.args.self.now.whole c.args.by.who c.args.by.epoch (told.Flushed c.in-Ok.ok))
      c.in-Ok.ensures.rose c.in-Ok.ensures.start c.in-Ok.ensures.within (refl) (refl) c.spend_told.ensures;
}
