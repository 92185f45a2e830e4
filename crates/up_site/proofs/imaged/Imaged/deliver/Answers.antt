use Rattle.std.proofs.Common.{◌≡◌, Some, false, ap, rules}
use Rattle.up_num.specs.declared.answers.Code.TheVariants.{Io}
use Rattle.up_model.specs.declared.entry.Call.TheVariants as calls
use Rattle.up_object.specs.OneCall.{brought_of, frames_of}
use Rattle.up_claims.specs.Claimed.{one_page, claim_of}
use Rattle.up_claims.specs.Sited.{Makes, delivers}
use Rattle.up_claims.specs.declared.claim.Claim.TheVariants.{Fetch}
use Rattle.up_site.specs.Stages.{stage_at}
use Rattle.up_site.specs.Places.{bytes_held}
use Rattle.up_site.specs.Standing.{telling}
use Rattle.up_site.proofs.Replied.{joins, bare_as}
use Rattle.up_site.proofs.imaged.Imaged.deliver.Goals as goal

pub returns-in-Unread : goal.returns-in-Unread
returns-in-Unread g c =
    let claim : claim_of c.args.self.now.whole.journal c.args.by.who ≡ Some (Fetch c.in-Unread.page false)
    = search rules in
    record {
      once = search rules;
      answers = joins (telling g.D.Disk.tells g.D.Disk.count g.D.Disk.blocks g.D.Disk.faults g.D.Disk.lasts
          g.D.Disk.time g.D.Disk.leaves) c.args.self.now c.fail_unread-bare.new.self
          c.fail_unread-bare.result c.with_frames.result c.args.by.who c.args.by.epoch
          (delivers (brought_of c.args.frames) (bytes_held (stage_at c.args.self.now.tours c.args.by.who))
          (claim_of c.args.self.now.whole.journal c.args.by.who)) (frames_of c.args.frames)
          (bare_as (telling g.D.Disk.tells g.D.Disk.count g.D.Disk.blocks g.D.Disk.faults g.D.Disk.lasts
          g.D.Disk.time g.D.Disk.leaves) c.args.self.now c.fail_unread-bare.new.self
          c.fail_unread-bare.result
          c.args.by.who c.args.by.epoch (Makes (calls.Fail (one_page c.in-Unread.page.0) Io))
          (delivers (brought_of c.args.frames) (bytes_held (stage_at c.args.self.now.tours c.args.by.who))
          (claim_of c.args.self.now.whole.journal c.args.by.who))
          (ap (delivers (brought_of c.args.frames) (bytes_held (stage_at c.args.self.now.tours
          c.args.by.who)))
          claim) c.fail_unread-bare.ensures.bare)
          c.with_frames.ensures c.own_frames.ensures;
    }
