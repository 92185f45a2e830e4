use Rattle.std.proofs.Common.{sym, subst}
use Rattle.up_site.specs.Sited.{Sited}
use Rattle.up_site.specs.Standing.{telling}
use Rattle.up_site.specs.Places.{IsCopied}
use Rattle.up_site.proofs.SiteSteps.{site_ended}
use Rattle.up_site.proofs.Numbered.{copied_numbered}
use Rattle.up_site.proofs.imaged.Imaged.end_range.Goals as goal

pub end-requires : goal.end-requires
end-requires g c =
    let copied : IsCopied c.self.inside.tours.items c.args.by.who c.args.range c.args.number
    c.args.range.count = subst (λ (v : Sited g.row.D.Denot). IsCopied v.tours c.args.by.who
    c.args.range c.args.number c.args.range.count) (sym c.self.view_is) c.requires.copied in
    record {
      proper = copied_numbered (telling g.D.Disk.tells g.D.Disk.count g.D.Disk.blocks
          g.D.Disk.faults g.D.Disk.lasts g.D.Disk.time g.D.Disk.leaves) c.self.inside.object.birth
          c.self.inside.object.journal c.self.inside.start.value c.self.inside.disk c.self.inside.tours.items
          c.self.invariant c.args.by.who c.args.range c.args.number c.args.range.count copied;
    }

pub invariant_of-self-2 : goal.invariant_of-self-2
invariant_of-self-2 g c =
    let copied : IsCopied c.self.inside.tours.items c.args.by.who c.args.range c.args.number
    c.args.range.count = subst (λ (v : Sited g.row.D.Denot). IsCopied v.tours c.args.by.who
    c.args.range c.args.number c.args.range.count) (sym c.self.view_is) c.requires.copied in
    rw (c.in_ok-stepped.ensures.object, c.take_out.ensures) (site_ended (telling g.D.Disk.tells
    g.D.Disk.count g.D.Disk.blocks g.D.Disk.faults g.D.Disk.lasts g.D.Disk.time g.D.Disk.leaves)
    c.self.inside.object.birth c.self.inside.object.journal c.self.inside.start.value
    c.self.inside.disk c.self.inside.tours.items c.self.invariant c.args.by.who c.args.by.epoch
    c.args.range c.args.number copied.bytes copied.stage)
