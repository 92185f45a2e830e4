use Rattle.std.proofs.Common.{◌≡◌, Some, None, true, false, length, nat_lt, rules}
use Rattle.up_model.specs.Asks.{asked}
use Rattle.up_num.specs.declared.answers.AskKind.TheVariants.{Dirty as DirtyAsk}
use Rattle.up_model.specs.Packets.{sent, taken}
use Rattle.up_model.specs.declared.entry.Call.TheVariants as calls
use Rattle.up_object.specs.OneCall.{brought_of, frames_of}
use Rattle.up_claims.specs.Claimed.{one_page}
use Rattle.up_claims.specs.Sited.{Makes, picked, least}
use Rattle.up_site.specs.Nexts.{picked_pages}
use Rattle.up_site.specs.Standing.{telling}
use Rattle.up_site.proofs.Choices.{picks_packet, picks_grant, picks_pages}
use Rattle.up_site.proofs.Replied.{joins, bare_as, answers_as}
use Rattle.up_site.proofs.imaged.Imaged.pick.Goals as goal

pub returns-then-has_packet : goal.returns-then-has_packet
returns-then-has_packet g c =
    let some : nat_lt (taken c.args.self.now.whole.journal) (length (sent c.args.self.now.whole.birth
    c.args.self.now.whole.journal)) ≡ true = search rules in
    record {
      once = search rules;
      answers = joins (telling g.D.Disk.tells g.D.Disk.count g.D.Disk.blocks g.D.Disk.faults g.D.Disk.lasts
          g.D.Disk.time g.D.Disk.leaves) c.args.self.now c.take_next-bare.new.self
          c.take_next-bare.result c.with_frames.result c.args.by.who c.args.by.epoch
          (picked c.args.self.now.whole.birth c.args.self.now.whole.journal (brought_of c.args.frames)
          c.args.write_first) (frames_of c.args.frames)
          (bare_as (telling g.D.Disk.tells g.D.Disk.count g.D.Disk.blocks g.D.Disk.faults g.D.Disk.lasts
          g.D.Disk.time g.D.Disk.leaves) c.args.self.now c.take_next-bare.new.self
          c.take_next-bare.result
          c.args.by.who c.args.by.epoch (Makes calls.Packet)
          (picked c.args.self.now.whole.birth c.args.self.now.whole.journal (brought_of c.args.frames)
          c.args.write_first)
          (picks_packet c.args.self.now.whole.birth c.args.self.now.whole.journal (brought_of c.args.frames)
          c.args.write_first some) c.take_next-bare.ensures.bare)
          c.with_frames.ensures c.own_frames.ensures;
    }

pub returns-in-Some : goal.returns-in-Some
returns-in-Some g c =
    let none : nat_lt (taken c.args.self.now.whole.journal) (length (sent c.args.self.now.whole.birth
    c.args.self.now.whole.journal)) ≡ false = search rules in
    let found : least c.args.self.now.whole.birth c.args.self.now.whole.journal (asked
    c.args.self.now.whole.birth c.args.self.now.whole.journal DirtyAsk) ≡ Some c.in-Some.page = search
    rules in
    record {
      once = search rules;
      answers = answers_as (telling g.D.Disk.tells g.D.Disk.count g.D.Disk.blocks g.D.Disk.faults
          g.D.Disk.lasts g.D.Disk.time g.D.Disk.leaves) c.args.self.now c.grant_at.new.self
          c.grant_at.result
          c.args.by.who c.args.by.epoch (Makes (calls.Dirty (one_page c.in-Some.page) (brought_of
          c.args.frames)))
          (picked c.args.self.now.whole.birth c.args.self.now.whole.journal (brought_of c.args.frames)
          c.args.write_first) (frames_of c.args.frames)
          (picks_grant c.args.self.now.whole.birth c.args.self.now.whole.journal (brought_of c.args.frames)
          c.args.write_first c.in-Some.page none found) c.grant_at.ensures.answers;
    }

pub returns : goal.returns
returns g c =
    let none : nat_lt (taken c.args.self.now.whole.journal) (length (sent c.args.self.now.whole.birth
    c.args.self.now.whole.journal)) ≡ false = search rules in
    let found : least c.args.self.now.whole.birth c.args.self.now.whole.journal (asked
    c.args.self.now.whole.birth c.args.self.now.whole.journal DirtyAsk) ≡ None = search rules in
    record {
      once = search rules;
      answers = joins (telling g.D.Disk.tells g.D.Disk.count g.D.Disk.blocks g.D.Disk.faults g.D.Disk.lasts
          g.D.Disk.time g.D.Disk.leaves) c.args.self.now c.pick_pages-bare.new.self
          c.pick_pages-bare.result c.with_frames-2.result c.args.by.who c.args.by.epoch
          (picked c.args.self.now.whole.birth c.args.self.now.whole.journal (brought_of c.args.frames)
          c.args.write_first) (frames_of c.args.frames)
          (bare_as (telling g.D.Disk.tells g.D.Disk.count g.D.Disk.blocks g.D.Disk.faults g.D.Disk.lasts
          g.D.Disk.time g.D.Disk.leaves) c.args.self.now c.pick_pages-bare.new.self
          c.pick_pages-bare.result
          c.args.by.who c.args.by.epoch
          (picked_pages c.args.self.now.whole.birth c.args.self.now.whole.journal c.args.write_first)
          (picked c.args.self.now.whole.birth c.args.self.now.whole.journal (brought_of c.args.frames)
          c.args.write_first)
          (picks_pages c.args.self.now.whole.birth c.args.self.now.whole.journal (brought_of c.args.frames)
          c.args.write_first none found) c.pick_pages-bare.ensures.bare)
          c.with_frames-2.ensures c.own_frames.ensures;
    }
