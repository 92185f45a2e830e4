use Rattle.std.proofs.Common.{◌≡◌, ℕ, ◌<◌, true, false, Option, None, sym, ap, ◌∙◌, subst, arith}
use Rattle.up_model.specs.Reply.{reply}
use Rattle.up_model.specs.declared.entry.Call.TheVariants as calls
use Rattle.up_site.specs.Sited.{Sited}
use Rattle.up_site.specs.Stages.{stage_at, tours_with}
use Rattle.up_site.specs.Standing.{telling}
use Rattle.up_site.specs.declared.stage.Stage.TheVariants.{Begun}
use Rattle.up_claims.specs.Claimed.{given_number}
use Rattle.up_num.specs.Span.{covers}
use Rattle.up_model.specs.States.{unclean}
use Rattle.up_claims.specs.Listed.{claimed}
use Rattle.up_site.proofs.SiteSteps.{site_begun}
use Rattle.up_site.proofs.imaged.Imaged.begin_run.Goals as goal

pub invariant_of-self-2 : goal.invariant_of-self-2
invariant_of-self-2 g c =
    let due = reply c.self.inside.object.birth c.self.inside.object.journal c.args.by.who c.args.by.epoch
    (calls.Begin c.args.range c.args.zero) in
    let number : c.number_of-number.result ≡ given_number due = c.number_of-number.ensures ∙ ap
    given_number c.in_ok-stepped.ensures.reply in
    let tours : c.set_stage.new.tours.items ≡ tours_with c.args.by.who (Begun c.args.range (given_number
    due)) c.self.inside.tours.items =
    c.set_stage.ensures ∙ (ap (tours_with c.args.by.who (Begun c.args.range c.number_of-number.result))
    c.reserve.ensures.items
    ∙ ap (λ (n : Option ℕ). tours_with c.args.by.who (Begun c.args.range n) c.self.inside.tours.items)
    number) in
    let some : 0 < c.args.range.count = omega arith in
    let free : stage_at c.self.inside.tours.items c.args.by.who ≡ None = subst (λ (v : Sited
    g.row.D.Denot). stage_at v.tours c.args.by.who ≡ None) (sym c.self.view_is) c.requires.free in
    let all = subst (λ (v : Sited g.row.D.Denot). (p : ℕ) → covers c.args.range p ≡ true → unclean
    v.whole.birth v.whole.journal p ≡ true) (sym c.self.view_is) c.requires.unclean in
    let bare = subst (λ (v : Sited g.row.D.Denot). (p : ℕ) → covers c.args.range p ≡ true → claimed
    v.whole.journal p ≡ false) (sym c.self.view_is) c.requires.unclaimed in
    rw (c.in_ok-stepped.ensures.object, tours) (site_begun (telling g.D.Disk.tells g.D.Disk.count
    g.D.Disk.blocks g.D.Disk.faults g.D.Disk.lasts g.D.Disk.time g.D.Disk.leaves)
    c.self.inside.object.birth c.self.inside.object.journal c.self.inside.start.value
    c.self.inside.disk c.self.inside.tours.items c.self.invariant c.args.by.who c.args.by.epoch
    c.args.range c.args.zero some free all bare)
