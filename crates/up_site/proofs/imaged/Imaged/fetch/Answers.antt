use Rattle.std.proofs.Common.{◌≡◌, Bool, true, false, is_some, sym, ap, ◌∙◌, subst, rules}
use Rattle.up_model.specs.declared.entry.Call.TheVariants as calls
use Rattle.up_model.specs.declared.entry.Told.TheVariants as told
use Rattle.up_object.specs.Whole.{after}
use Rattle.up_site.specs.Sited.{Sited}
use Rattle.up_site.specs.Stages.{tours_with}
use Rattle.up_site.specs.Standing.{telling, LeavesDated}
use Rattle.up_site.specs.declared.stage.Stage.TheVariants.{Fetched}
use Rattle.up_claims.specs.Sited.{Fetching}
use Rattle.up_claims.specs.Listed.{claimed}
use Rattle.up_model.specs.Asks.{asked}
use Rattle.up_num.specs.declared.answers.AskKind.TheVariants.{Read as ReadAsk}
use Rattle.up_site.proofs.Reached.{rose_told}
use Rattle.up_site.proofs.SiteSteps.{site_fetched, site_same}
use Rattle.up_site.proofs.Leaving.{within_none}
use Rattle.up_site.proofs.Numbered.{asked_block}
use Rattle.up_site.proofs.imaged.Imaged.fetch.Goals as goal

pub read_page-requires : goal.read_page-requires
read_page-requires g c =
    let asks : asked c.self.inside.object.birth c.self.inside.object.journal ReadAsk c.args.page.0 ≡ true =
    subst (λ (v : Sited g.row.D.Denot). asked v.whole.birth v.whole.journal ReadAsk c.args.page.0 ≡
    true) (sym c.self.view_is) c.requires.asks in
    record {
      number = asked_block (telling g.D.Disk.tells g.D.Disk.count g.D.Disk.blocks g.D.Disk.faults
          g.D.Disk.lasts g.D.Disk.time g.D.Disk.leaves) c.self.inside.object.birth
          c.self.inside.object.journal c.self.inside.start.value c.self.inside.disk c.self.inside.tours.items
          c.self.invariant c.args.page.0 asks;
    }

pub invariant_of-self-2 : goal.invariant_of-self-2
invariant_of-self-2 g c =
    let asks : asked c.self.inside.object.birth c.self.inside.object.journal ReadAsk c.args.page.0 ≡ true =
    subst (λ (v : Sited g.row.D.Denot). asked v.whole.birth v.whole.journal ReadAsk c.args.page.0 ≡
    true) (sym c.self.view_is) c.requires.asks in
    let bare : claimed c.self.inside.object.journal c.args.page.0 ≡ false = subst (λ (v : Sited
    g.row.D.Denot). claimed v.whole.journal c.args.page.0 ≡ false) (sym c.self.view_is)
    c.requires.unclaimed in
    let tours : c.set_stage.new.tours.items ≡ tours_with c.args.by.who (Fetched c.args.page c.in-Ok.block)
    c.self.inside.tours.items =
    c.set_stage.ensures ∙ ap (tours_with c.args.by.who (Fetched c.args.page c.in-Ok.block))
    c.reserve.ensures.items in
    let ok : c.is_some-ok.result ≡ is_some c.in-Ok.block = search rules in
    let object : c.tell.new.object ≡ after c.self.inside.object c.args.by.who c.args.by.epoch (calls.Tell
    (told.Fetched c.args.page (is_some c.in-Ok.block))) =
    c.in_ok-stepped.ensures.object ∙ ap (λ (b : Bool). after c.self.inside.object c.args.by.who
    c.args.by.epoch (calls.Tell (told.Fetched c.args.page b))) ok in
    rw (object, tours) (site_fetched (telling g.D.Disk.tells g.D.Disk.count g.D.Disk.blocks g.D.Disk.faults
    g.D.Disk.lasts g.D.Disk.time g.D.Disk.leaves) c.self.inside.object.birth
    c.self.inside.object.journal c.self.inside.start.value c.self.inside.disk c.read_page.new.disk
    c.self.inside.tours.items c.self.invariant c.args.by.who c.args.by.epoch c.args.page c.in-Ok.block
    asks bare
    c.in-Ok.ensures.whole c.in-Ok.ensures.gives c.in-Ok.ensures.count c.in-Ok.ensures.same (rose_told
    (Fetching c.args.page) (is_some c.in-Ok.block) _ _ c.in-Ok.ensures.rose) c.in-Ok.ensures.left)

-- memory was wanted behind the read
pub invariant_of-self-in_err-stepped : goal.invariant_of-self-in_err-stepped
invariant_of-self-in_err-stepped g c =
    rw (c.in_err-stepped.ensures.same, c.reserve.ensures.items) (site_same (telling g.D.Disk.tells
    g.D.Disk.count g.D.Disk.blocks g.D.Disk.faults g.D.Disk.lasts g.D.Disk.time g.D.Disk.leaves)
    c.self.inside.object.birth c.self.inside.object.journal c.self.inside.start.value
    c.self.inside.disk c.read_page.new.disk
    c.self.inside.tours.items c.self.invariant c.in-Ok.ensures.count c.in-Ok.ensures.same
    c.in-Ok.ensures.later c.in-Ok.ensures.left)

pub returns-in_err-stepped-clause-within : goal.returns-in_err-stepped-clause-within
returns-in_err-stepped-clause-within g c =
    subst (λ (v : Sited g.row.D.Denot). LeavesDated (telling g.D.Disk.tells g.D.Disk.count g.D.Disk.blocks
    g.D.Disk.faults g.D.Disk.lasts g.D.Disk.time g.D.Disk.leaves)
    v.whole.birth v.whole.journal v.start c.read_page.new.disk (g.D.Disk.time v.disk)) c.self.view_is
    (within_none (telling g.D.Disk.tells g.D.Disk.count g.D.Disk.blocks g.D.Disk.faults g.D.Disk.lasts
    g.D.Disk.time g.D.Disk.leaves) c.self.inside.object.birth c.self.inside.object.journal
    c.self.inside.start.value c.self.inside.disk c.read_page.new.disk c.self.inside.tours.items
    c.self.invariant
    c.in-Ok.ensures.left)

pub returns-clause-within : goal.returns-clause-within
returns-clause-within g c =
    subst (λ (v : Sited g.row.D.Denot). LeavesDated (telling g.D.Disk.tells g.D.Disk.count g.D.Disk.blocks
    g.D.Disk.faults g.D.Disk.lasts g.D.Disk.time g.D.Disk.leaves)
    v.whole.birth v.whole.journal v.start c.read_page.new.disk (g.D.Disk.time v.disk)) c.self.view_is
    (within_none (telling g.D.Disk.tells g.D.Disk.count g.D.Disk.blocks g.D.Disk.faults g.D.Disk.lasts
    g.D.Disk.time g.D.Disk.leaves) c.self.inside.object.birth c.self.inside.object.journal
    c.self.inside.start.value c.self.inside.disk c.read_page.new.disk c.self.inside.tours.items
    c.self.invariant
    c.in-Ok.ensures.left)
