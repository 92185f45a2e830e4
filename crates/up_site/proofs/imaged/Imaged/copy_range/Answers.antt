use Rattle.std.proofs.Common.{◌≡◌, Some, sym, ap, ◌∙◌, subst}
use Rattle.up_site.specs.Sited.{Sited}
use Rattle.up_site.specs.Stages.{stage_at, tours_with}
use Rattle.up_site.specs.Standing.{telling}
use Rattle.up_site.specs.declared.stage.Stage.TheVariants.{Begun, Copied}
use Rattle.up_site.proofs.SiteSteps.{site_copied}
use Rattle.up_site.proofs.Numbered.{begun_there}
use Rattle.up_site.proofs.imaged.Imaged.copy_range.Goals as goal

pub bytes_in-requires : goal.bytes_in-requires
bytes_in-requires g c =
    let begun : stage_at c.self.inside.tours.items c.args.by.who ≡ Some (Begun c.args.range c.args.number) =
    subst (λ (v : Sited g.row.D.Denot). stage_at v.tours c.args.by.who ≡ Some (Begun c.args.range
    c.args.number)) (sym c.self.view_is) c.requires.begun in
    record {
      present = begun_there (telling g.D.Disk.tells g.D.Disk.count g.D.Disk.blocks g.D.Disk.faults
          g.D.Disk.lasts g.D.Disk.time g.D.Disk.leaves) c.self.inside.object.birth
          c.self.inside.object.journal c.self.inside.start.value c.self.inside.disk c.self.inside.tours.items
          c.self.invariant
          c.args.by.who c.args.range c.args.number begun;
    }

pub invariant_of-self-2 : goal.invariant_of-self-2
invariant_of-self-2 g c =
    let begun : stage_at c.self.inside.tours.items c.args.by.who ≡ Some (Begun c.args.range c.args.number) =
    subst (λ (v : Sited g.row.D.Denot). stage_at v.tours c.args.by.who ≡ Some (Begun c.args.range
    c.args.number)) (sym c.self.view_is) c.requires.begun in
    let tours : c.set_stage.new.tours.items ≡ tours_with c.args.by.who (Copied c.args.range c.args.number
    c.in-Ok.bytes 0) c.self.inside.tours.items =
    c.set_stage.ensures ∙ ap (tours_with c.args.by.who (Copied c.args.range c.args.number c.in-Ok.bytes 0))
    c.reserve.ensures.items in
    rw (c.in_ok-stepped.ensures.object, tours) (site_copied (telling g.D.Disk.tells g.D.Disk.count
    g.D.Disk.blocks g.D.Disk.faults g.D.Disk.lasts g.D.Disk.time g.D.Disk.leaves)
    c.self.inside.object.birth c.self.inside.object.journal c.self.inside.start.value
    c.self.inside.disk c.self.inside.tours.items c.self.invariant
    c.args.by.who c.args.by.epoch c.args.range c.args.number c.in-Ok.bytes begun c.in-Ok.ensures.value
    c.in-Ok.ensures.whole)
