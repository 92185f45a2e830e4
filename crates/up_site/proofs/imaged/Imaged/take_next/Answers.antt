use Rattle.std.proofs.Common.{rules, refl}
use Rattle.up_model.specs.declared.entry.Call.TheVariants as calls
use Rattle.up_claims.specs.declared.step.SiteReply.TheVariants as answers
use Rattle.up_site.specs.Standing.{telling}
use Rattle.up_site.proofs.Unmoved.{packet_holds}
use Rattle.up_site.proofs.Replied.{gives_none, bare_made}
use Rattle.up_site.proofs.imaged.Imaged.take_next.Goals as goal

pub spend-requires : goal.spend-requires
spend-requires g c = record {
  none = gives_none c.args.self.now.whole c.take_packet.new.self.whole
      c.in-Ok.stepped c.args.by.who c.args.by.epoch calls.Packet c.in-Ok.ensures.steps (packet_holds
      c.args.self.now.whole c.args.by.who c.args.by.epoch);
}

pub returns-in-Ok : goal.returns-in-Ok
returns-in-Ok g c = record {
  once = search rules;
  bare = bare_made (telling g.D.Disk.tells g.D.Disk.count g.D.Disk.blocks g.D.Disk.faults g.D.Disk.lasts
      g.D.Disk.time g.D.Disk.leaves) c.args.self.now c.take_packet.new.self
      c.in-Ok.stepped c.args.by.who c.args.by.epoch calls.Packet answers.Taken c.spend.result
      c.in-Ok.ensures.steps
      (packet_holds c.args.self.now.whole c.args.by.who c.args.by.epoch) c.in-Ok.ensures.disk
      c.in-Ok.ensures.start refl c.spend.ensures;
}
