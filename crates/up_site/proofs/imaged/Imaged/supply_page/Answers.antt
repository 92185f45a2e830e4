use Rattle.std.proofs.Common.{◌≡◌, ℕ, true, List, sym, ap, ◌∙◌, subst}
use Rattle.up_model.specs.declared.entry.Call.TheVariants as calls
use Rattle.up_object.specs.Whole.{after}
use Rattle.up_site.specs.Sited.{Sited}
use Rattle.up_site.specs.Standing.{telling}
use Rattle.up_model.specs.Reply.{counts_frames}
use Rattle.up_model.specs.declared.entry.Brought.{Brought}
use Rattle.up_num.specs.Span.{Span}
use Rattle.up_object.specs.OneCall.{brought_of}
use Rattle.up_claims.specs.Claimed.{one_page}
use Rattle.up_site.specs.Places.{IsRead, bytes_held}
use Rattle.up_site.proofs.SiteSteps.{site_supplied}
use Rattle.up_site.proofs.Numbered.{supply_proper}
use Rattle.up_site.proofs.imaged.Imaged.supply_page.Goals as goal

pub supply-requires-clause-proper : goal.supply-requires-clause-proper
supply-requires-clause-proper g c =
    let read : IsRead c.self.inside.tours.items c.args.by.who c.args.page = subst (λ (v : Sited
    g.row.D.Denot). IsRead v.tours c.args.by.who c.args.page) (sym c.self.view_is) c.requires.read in
    let some : counts_frames (brought_of c.args.frames) ≡ true = subst (λ (b : Brought). counts_frames b ≡
    true) c.brought.ensures.value c.brought.ensures.some in
    let bytes : c.in-Ok.bytes ≡ read.block = c.in-Ok.ensures ∙ ap bytes_held read.stage in
    rw (c.one_page.ensures, bytes) (supply_proper (telling g.D.Disk.tells g.D.Disk.count g.D.Disk.blocks
    g.D.Disk.faults g.D.Disk.lasts g.D.Disk.time g.D.Disk.leaves) c.self.inside.object.birth
    c.self.inside.object.journal c.self.inside.start.value c.self.inside.disk c.self.inside.tours.items
    c.self.invariant c.args.by.who c.args.page (brought_of c.args.frames) read c.requires.brings some)

pub invariant_of-self-2 : goal.invariant_of-self-2
invariant_of-self-2 g c =
    let read : IsRead c.self.inside.tours.items c.args.by.who c.args.page = subst (λ (v : Sited
    g.row.D.Denot). IsRead v.tours c.args.by.who c.args.page) (sym c.self.view_is) c.requires.read in
    let some : counts_frames (brought_of c.args.frames) ≡ true = subst (λ (b : Brought). counts_frames b ≡
    true) c.brought.ensures.value c.brought.ensures.some in
    let bytes : c.in-Ok.bytes ≡ read.block = c.in-Ok.ensures ∙ ap bytes_held read.stage in
    let object : c.supply.new.object ≡ after c.self.inside.object c.args.by.who c.args.by.epoch
    (calls.Supply (one_page c.args.page.0) read.block (brought_of c.args.frames)) =
    c.in_ok-stepped.ensures.object ∙ (ap (λ (r : Span). after c.self.inside.object c.args.by.who
    c.args.by.epoch (calls.Supply r c.in-Ok.bytes (brought_of c.args.frames))) c.one_page.ensures
    ∙ ap (λ (b : List ℕ). after c.self.inside.object c.args.by.who c.args.by.epoch (calls.Supply (one_page
    c.args.page.0) b (brought_of c.args.frames))) bytes) in
    rw (object, c.take_out.ensures) (site_supplied (telling g.D.Disk.tells g.D.Disk.count g.D.Disk.blocks
    g.D.Disk.faults g.D.Disk.lasts g.D.Disk.time g.D.Disk.leaves) c.self.inside.object.birth
    c.self.inside.object.journal c.self.inside.start.value c.self.inside.disk c.self.inside.tours.items
    c.self.invariant c.args.by.who c.args.by.epoch c.args.page read.block (brought_of c.args.frames)
    read.stage
    (supply_proper (telling g.D.Disk.tells g.D.Disk.count g.D.Disk.blocks g.D.Disk.faults g.D.Disk.lasts
    g.D.Disk.time g.D.Disk.leaves) c.self.inside.object.birth c.self.inside.object.journal
    c.self.inside.start.value c.self.inside.disk c.self.inside.tours.items c.self.invariant
    c.args.by.who c.args.page (brought_of c.args.frames) read c.requires.brings some))
