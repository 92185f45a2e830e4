use Rattle.std.proofs.Common.{◌≡◌, Some, false, refl, ap, rules}
use Rattle.up_model.specs.declared.entry.Call.TheVariants as calls
use Rattle.up_claims.specs.declared.step.SiteReply.TheVariants as answers
use Rattle.up_model.specs.declared.entry.Told.TheVariants as told
use Rattle.up_claims.specs.Claimed.{claim_of}
use Rattle.up_claims.specs.Sited.{Makes, copies}
use Rattle.up_claims.specs.declared.claim.Claim.TheVariants.{Back}
use Rattle.up_site.specs.Standing.{telling}
use Rattle.up_site.proofs.Unmoved.{tell_holds}
use Rattle.up_site.proofs.Replied.{gives_none, bare_made, bare_as}
use Rattle.up_site.proofs.imaged.Imaged.copy.Goals as goal

pub spend-requires : goal.spend-requires
spend-requires g c = record {
  none = gives_none c.args.self.now.whole c.copy_range.new.self.whole
      c.in-Ok.stepped c.args.by.who c.args.by.epoch (calls.Tell (told.Copied c.in-Begun.range))
      c.in-Ok.ensures.steps (tell_holds c.args.self.now.whole c.args.by.who c.args.by.epoch (told.Copied
      c.in-Begun.range));
}

pub returns-in-Ok : goal.returns-in-Ok
returns-in-Ok g c =
    let claim : claim_of c.args.self.now.whole.journal c.args.by.who ≡ Some (Back c.in-Begun.range
    c.in-Begun.number false 0) = search rules in
    record {
      once = search rules;
      bare = bare_as (telling g.D.Disk.tells g.D.Disk.count g.D.Disk.blocks g.D.Disk.faults g.D.Disk.lasts
          g.D.Disk.time g.D.Disk.leaves) c.args.self.now c.copy_range.new.self _ c.args.by.who
          c.args.by.epoch (Makes (calls.Tell (told.Copied c.in-Begun.range))) (copies (claim_of
          c.args.self.now.whole.journal c.args.by.who)) (ap copies claim)
          (bare_made (telling g.D.Disk.tells g.D.Disk.count g.D.Disk.blocks g.D.Disk.faults g.D.Disk.lasts
          g.D.Disk.time g.D.Disk.leaves) c.args.self.now c.copy_range.new.self c.in-Ok.stepped
          c.args.by.who
          c.args.by.epoch (calls.Tell (told.Copied c.in-Begun.range)) answers.Copied c.spend.result
          c.in-Ok.ensures.steps
          (tell_holds c.args.self.now.whole c.args.by.who c.args.by.epoch (told.Copied c.in-Begun.range))
          c.in-Ok.ensures.disk c.in-Ok.ensures.start refl c.spend.ensures);
    }
