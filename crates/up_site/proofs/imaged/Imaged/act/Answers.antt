use Rattle.std.proofs.Common.{◌≡◌, ◌≤◌, Bool, refl, sym, subst, le_refl}
use Rattle.up_model.specs.Reply.{reply}
use Rattle.up_site.specs.Sited.{Sited}
use Rattle.up_site.specs.Standing.{AnswersNewest, telling}
use Rattle.std.proofs.Common.{IsTrue, cond}
use Rattle.up_model.specs.Reply.{proper}
use Rattle.up_model.specs.declared.entry.Reply.{Reply}
use Rattle.up_outside.specs.Cause.{Rose}
use Rattle.up_site.proofs.SiteSteps.{site_quiet, left_still, answers_newest}
use Rattle.up_site.proofs.imaged.Imaged.act.Goals as goal

pub invariant_of-self-2 : goal.invariant_of-self-2
invariant_of-self-2 g c =
    let fine : IsTrue (proper c.self.inside.object.birth c.self.inside.object.journal c.args.who
    c.args.call) = subst (λ (v : Sited g.row.D.Denot). IsTrue (proper v.whole.birth v.whole.journal
    c.args.who c.args.call)) (sym c.self.view_is) c.requires.proper in
    rw (c.in_ok-stepped.ensures.object) (site_quiet (telling g.D.Disk.tells g.D.Disk.count g.D.Disk.blocks
    g.D.Disk.faults g.D.Disk.lasts g.D.Disk.time g.D.Disk.leaves) c.self.inside.object.birth
    c.self.inside.object.journal c.self.inside.start.value c.self.inside.disk c.self.inside.disk
    c.self.inside.tours.items c.self.invariant c.args.who c.args.epoch c.args.call c.requires.quiet
    fine refl (λ tells. refl)
    (subst (λ (b : Bool). cond b (Rose (g.D.Disk.faults c.self.inside.disk) (g.D.Disk.faults
    c.self.inside.disk)) (g.D.Disk.faults c.self.inside.disk ≤ g.D.Disk.faults c.self.inside.disk))
    (sym c.requires.fine) (le_refl _))
    (left_still (telling g.D.Disk.tells g.D.Disk.count g.D.Disk.blocks g.D.Disk.faults g.D.Disk.lasts
    g.D.Disk.time g.D.Disk.leaves) c.args.call c.self.inside.disk c.requires.calm))

pub returns-clause-newest : goal.returns-clause-newest
returns-clause-newest g c =
    let fine : IsTrue (proper c.self.inside.object.birth c.self.inside.object.journal c.args.who
    c.args.call) = subst (λ (v : Sited g.row.D.Denot). IsTrue (proper v.whole.birth v.whole.journal
    c.args.who c.args.call)) (sym c.self.view_is) c.requires.proper in
    let said : c.in_ok-stepped.stepped.reply ≡ reply c.self.inside.object.birth
    c.self.inside.object.journal c.args.who c.args.epoch c.args.call = c.in_ok-stepped.ensures.reply in
    let newest : AnswersNewest (telling g.D.Disk.tells g.D.Disk.count g.D.Disk.blocks g.D.Disk.faults
    g.D.Disk.lasts g.D.Disk.time g.D.Disk.leaves) c.self.inside.object.birth
    c.self.inside.object.journal c.self.inside.start.value c.args.call (reply
    c.self.inside.object.birth c.self.inside.object.journal c.args.who c.args.epoch c.args.call) =
    answers_newest (telling g.D.Disk.tells g.D.Disk.count g.D.Disk.blocks g.D.Disk.faults
    g.D.Disk.lasts g.D.Disk.time g.D.Disk.leaves) c.self.inside.object.birth
    c.self.inside.object.journal c.self.inside.start.value c.self.inside.disk c.self.inside.tours.items
    c.self.invariant c.args.who c.args.epoch c.args.call fine in
    subst (λ (v : Sited g.row.D.Denot). AnswersNewest (telling g.D.Disk.tells g.D.Disk.count
    g.D.Disk.blocks g.D.Disk.faults g.D.Disk.lasts g.D.Disk.time g.D.Disk.leaves) v.whole.birth
    v.whole.journal v.start c.args.call c.in_ok-stepped.stepped.reply) c.self.view_is
    (subst (λ (r : Reply). AnswersNewest (telling g.D.Disk.tells g.D.Disk.count g.D.Disk.blocks
    g.D.Disk.faults g.D.Disk.lasts g.D.Disk.time g.D.Disk.leaves) c.self.inside.object.birth
    c.self.inside.object.journal c.self.inside.start.value c.args.call r) (sym said) newest)
