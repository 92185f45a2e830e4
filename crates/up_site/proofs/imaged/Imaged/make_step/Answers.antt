use Rattle.std.proofs.Common.{◌≡◌, true, rules}
use Rattle.up_claims.specs.Claimed.{claim_of}
use Rattle.up_claims.specs.Sited.{fits}
use Rattle.up_claims.specs.declared.step.SiteStep.TheVariants as steps
use Rattle.up_object.specs.OneCall.{brought_of, frames_of}
use Rattle.up_claims.specs.Sited.{deed_of}
use Rattle.up_site.specs.Stages.{stage_at}
use Rattle.up_site.specs.Places.{bytes_held}
use Rattle.up_site.specs.Standing.{telling}
use Rattle.up_site.proofs.Choices.{pick_free}
use Rattle.up_site.proofs.Replied.{joins, bare_brings}
use Rattle.up_site.proofs.imaged.Imaged.make_step.Goals as goal

pub pick-requires-clause-none : goal.pick-requires-clause-none
pick-requires-clause-none g c =
    let fit : fits (steps.Pick c.in-Pick.write_first) (claim_of c.args.self.now.whole.journal
    c.args.by.who) (brought_of c.args.frames) ≡ true = search rules in
    pick_free c.in-Pick.write_first (claim_of c.args.self.now.whole.journal c.args.by.who) (brought_of
    c.args.frames) fit

pub returns-in_default : goal.returns-in_default
returns-in_default g c =
    record {
      once = search rules;
      answers = joins (telling g.D.Disk.tells g.D.Disk.count g.D.Disk.blocks g.D.Disk.faults g.D.Disk.lasts
          g.D.Disk.time g.D.Disk.leaves) c.args.self.now c.bare_step-bare.new.self
          c.bare_step-bare.result c.with_frames.result c.args.by.who c.args.by.epoch
          (deed_of c.args.self.now.whole.birth c.args.self.now.whole.journal c.args.by.who (brought_of
          c.args.frames) (bytes_held (stage_at c.args.self.now.tours c.args.by.who)) c.args.step) (frames_of
          c.args.frames)
          (bare_brings (telling g.D.Disk.tells g.D.Disk.count g.D.Disk.blocks g.D.Disk.faults
          g.D.Disk.lasts g.D.Disk.time g.D.Disk.leaves) c.args.self.now c.bare_step-bare.new.self
          c.bare_step-bare.result
          c.args.by.who c.args.by.epoch (bytes_held (stage_at c.args.self.now.tours c.args.by.who))
          c.args.step
          c.brought-brought.result (brought_of c.args.frames) c.brought-brought.ensures.value
          c.bare_step-bare.ensures.bare)
          c.with_frames.ensures c.own_frames.ensures;
    }
