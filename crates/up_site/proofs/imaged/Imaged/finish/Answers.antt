use Rattle.std.proofs.Common.{◌≡◌, Some, true, refl, ap, rules}
use Rattle.up_model.specs.declared.entry.Call.TheVariants as calls
use Rattle.up_claims.specs.declared.step.SiteReply.TheVariants as answers
use Rattle.up_claims.specs.Claimed.{claim_of}
use Rattle.up_claims.specs.Sited.{Makes, finishes}
use Rattle.up_claims.specs.declared.claim.Claim.TheVariants.{Back}
use Rattle.up_site.specs.Standing.{telling}
use Rattle.up_site.proofs.Unmoved.{end_holds}
use Rattle.up_site.proofs.Replied.{gives_none, bare_made, bare_as}
use Rattle.up_site.proofs.imaged.Imaged.finish.Goals as goal

pub spend-requires : goal.spend-requires
spend-requires g c = record {
  none = gives_none c.args.self.now.whole c.end_range.new.self.whole
      c.in-Ok.stepped c.args.by.who c.args.by.epoch (calls.End c.in-Copied.range c.in-Copied.number)
      c.in-Ok.ensures.steps (end_holds c.args.self.now.whole c.args.by.who c.args.by.epoch c.in-Copied.range
      c.in-Copied.number);
}

pub returns-in-Ok : goal.returns-in-Ok
returns-in-Ok g c =
    let claim : claim_of c.args.self.now.whole.journal c.args.by.who ≡ Some (Back c.in-Copied.range
    c.in-Copied.number true c.in-Copied.stored) = search rules in
    record {
      once = search rules;
      bare = bare_as (telling g.D.Disk.tells g.D.Disk.count g.D.Disk.blocks g.D.Disk.faults g.D.Disk.lasts
          g.D.Disk.time g.D.Disk.leaves) c.args.self.now c.end_range.new.self _ c.args.by.who
          c.args.by.epoch (Makes (calls.End c.in-Copied.range c.in-Copied.number)) (finishes (claim_of
          c.args.self.now.whole.journal c.args.by.who)) (ap finishes claim)
          (bare_made (telling g.D.Disk.tells g.D.Disk.count g.D.Disk.blocks g.D.Disk.faults g.D.Disk.lasts
          g.D.Disk.time g.D.Disk.leaves) c.args.self.now c.end_range.new.self c.in-Ok.stepped
          c.args.by.who
          c.args.by.epoch (calls.End c.in-Copied.range c.in-Copied.number) answers.Ended c.spend.result
          c.in-Ok.ensures.steps
          (end_holds c.args.self.now.whole c.args.by.who c.args.by.epoch c.in-Copied.range c.in-Copied.number)
          c.in-Ok.ensures.disk c.in-Ok.ensures.start refl c.spend.ensures);
    }
