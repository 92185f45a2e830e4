use Rattle.std.proofs.Common.{◌≡◌, Some, None, sym, ap, ◌∙◌, subst}
use Rattle.up_model.specs.declared.entry.Call.TheVariants as calls
use Rattle.up_object.specs.Whole.{after}
use Rattle.up_site.specs.Sited.{Sited}
use Rattle.up_site.specs.Stages.{stage_at}
use Rattle.up_site.specs.Standing.{telling}
use Rattle.up_site.specs.declared.stage.Stage.TheVariants.{Fetched}
use Rattle.up_claims.specs.Claimed.{one_page}
use Rattle.up_num.specs.Span.{Span}
use Rattle.up_num.specs.declared.answers.Code.TheVariants.{Io}
use Rattle.up_site.proofs.SiteSteps.{site_failed}
use Rattle.up_site.proofs.imaged.Imaged.fail_page.Goals as goal

pub invariant_of-self-2 : goal.invariant_of-self-2
invariant_of-self-2 g c =
    let stage : stage_at c.self.inside.tours.items c.args.by.who ≡ Some (Fetched c.args.page None) = subst
    (λ (v : Sited g.row.D.Denot). stage_at v.tours c.args.by.who ≡ Some (Fetched c.args.page None))
    (sym c.self.view_is) c.requires.stage in
    let object : c.fail.new.object ≡ after c.self.inside.object c.args.by.who c.args.by.epoch (calls.Fail
    (one_page c.args.page.0) Io) =
    c.in_ok-stepped.ensures.object ∙ ap (λ (r : Span). after c.self.inside.object c.args.by.who
    c.args.by.epoch (calls.Fail r Io)) c.one_page.ensures in
    rw (object, c.take_out.ensures) (site_failed (telling g.D.Disk.tells g.D.Disk.count g.D.Disk.blocks
    g.D.Disk.faults g.D.Disk.lasts g.D.Disk.time g.D.Disk.leaves) c.self.inside.object.birth
    c.self.inside.object.journal c.self.inside.start.value c.self.inside.disk c.self.inside.tours.items
    c.self.invariant c.args.by.who c.args.by.epoch c.args.page None Io stage)
