use Rattle.std.proofs.Common.{rules, refl}
use Rattle.up_model.specs.declared.entry.Call.TheVariants as calls
use Rattle.up_claims.specs.declared.step.SiteReply.TheVariants as answers
use Rattle.up_claims.specs.Sited.{Makes, begins_at}
use Rattle.up_site.specs.Sought.{among_of}
use Rattle.up_site.specs.Standing.{telling}
use Rattle.up_site.proofs.Choices.{begins_so}
use Rattle.up_site.proofs.Unmoved.{begin_holds}
use Rattle.up_site.proofs.Replied.{gives_none, bare_made, bare_as}
use Rattle.up_site.proofs.imaged.Imaged.begin_at.Goals as goal

pub spend-requires : goal.spend-requires
spend-requires g c = record {
  none = gives_none c.args.self.now.whole c.begin_run.new.self.whole
      c.in-Ok.stepped c.args.by.who c.args.by.epoch (calls.Begin c.run_from-range.result
      c.is_plain-zero.result) c.in-Ok.ensures.steps (begin_holds c.args.self.now.whole c.args.by.who
      c.args.by.epoch c.run_from-range.result c.is_plain-zero.result);
}

pub returns-in-Ok : goal.returns-in-Ok
returns-in-Ok g c = record {
  once = search rules;
  bare = bare_as (telling g.D.Disk.tells g.D.Disk.count g.D.Disk.blocks g.D.Disk.faults g.D.Disk.lasts
      g.D.Disk.time g.D.Disk.leaves) c.args.self.now c.begin_run.new.self _
      c.args.by.who c.args.by.epoch (Makes (calls.Begin c.run_from-range.result c.is_plain-zero.result))
      (begins_at c.args.self.now.whole.birth c.args.self.now.whole.journal (among_of c.args.among.now)
      c.args.first)
      (begins_so c.args.self.now.whole.birth c.args.self.now.whole.journal (among_of c.args.among.now)
      c.args.first c.run_from-range.result c.is_plain-zero.result c.run_from-range.ensures.first
      c.run_from-range.ensures.count c.is_plain-zero.ensures)
      (bare_made (telling g.D.Disk.tells g.D.Disk.count g.D.Disk.blocks g.D.Disk.faults g.D.Disk.lasts
      g.D.Disk.time g.D.Disk.leaves) c.args.self.now c.begin_run.new.self c.in-Ok.stepped c.args.by.who
      c.args.by.epoch (calls.Begin c.run_from-range.result c.is_plain-zero.result) (answers.Claimed
      c.run_from-range.result) c.spend.result c.in-Ok.ensures.steps
      (begin_holds c.args.self.now.whole c.args.by.who c.args.by.epoch c.run_from-range.result
      c.is_plain-zero.result) c.in-Ok.ensures.disk c.in-Ok.ensures.start refl c.spend.ensures);
}
