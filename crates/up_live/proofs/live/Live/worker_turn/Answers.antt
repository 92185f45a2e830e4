use Rattle.std.proofs.Common.{sym, ap, ◌∙◌, subst}
use Rattle.up_object.specs.Whole.{Whole}
use Rattle.up_object.specs.OneCall.{frames_of, brought_of}
use Rattle.up_model.specs.Legal.{Legal}
use Rattle.up_claims.specs.Sited.{fits}
use Rattle.up_site.specs.Hosted.{Hosted}
use Rattle.up_live.specs.Acts.{IsIn}
use Rattle.up_live.proofs.Acting.{goes_on, claim_now, call_looked}
use Rattle.up_live.proofs.Stepping.{did_adds, step_made, bare_back}
use Rattle.up_live.proofs.live.Live.worker_turn.Goals as goal

pub site_step-stepped-requires-clause-fits : goal.site_step-stepped-requires-clause-fits
site_step-stepped-requires-clause-fits g c =
    let i = subst (λ (v : Hosted g.row.D.Denot). IsIn c.args.who c.args.pass.now c.go_in-inside.new.pass v
    c.args.self.now.opening) (sym (ap (λ h. h.state) c.inside.view_is)) c.go_in-inside.ensures.is_in in
    ap (λ o. fits c.args.step o (brought_of c.args.frames)) (claim_now c.args.who c.args.pass.now
    c.go_in-inside.new.pass _ c.args.self.now.opening i) ∙ c.requires.fits

pub leave-requires-clause-goes_on : goal.leave-requires-clause-goes_on
leave-requires-clause-goes_on g c =
    let i = subst (λ (v : Hosted g.row.D.Denot). IsIn c.args.who c.args.pass.now c.go_in-inside.new.pass v
    c.args.self.now.opening) (sym (ap (λ h. h.state) c.inside.view_is)) c.go_in-inside.ensures.is_in in
    goes_on c.args.who c.args.epoch c.args.pass.now c.go_in-inside.new.pass _ c.args.self.now.opening
    c.site_step-stepped.new.self.whole i (did_adds c.site_step-stepped.result c.args.who c.args.epoch _ _
    c.site_step-stepped.new.self.whole c.site_step-stepped.ensures.did c.site_step-stepped.ensures.same)

pub returns-clause-ok : goal.returns-clause-ok
returns-clause-ok g c =
    let i = subst (λ (v : Hosted g.row.D.Denot). IsIn c.args.who c.args.pass.now c.go_in-inside.new.pass v
    c.args.self.now.opening) (sym (ap (λ h. h.state) c.inside.view_is)) c.go_in-inside.ensures.is_in in
    let legal = subst (λ (w : Whole). Legal w.birth w.journal) c.object.ensures c.is_legal.ensures in
    step_made c.site_step-stepped.result c.args.who c.args.epoch c.args.step (brought_of c.args.frames) _ (frames_of
    c.args.frames) c.args.pass.now c.go_in-inside.new.pass c.leave.new.pass _ c.args.self.now.opening
    c.site_step-stepped.new.self.whole i c.leave.ensures.pass c.site_step-stepped.ensures.did
    c.site_step-stepped.ensures.frames legal

pub returns-clause-none : goal.returns-clause-none
returns-clause-none g c =
    bare_back c.site_step-stepped.result c.args.who c.args.epoch c.args.step (brought_of c.args.frames) _ (frames_of
    c.args.frames) _ c.site_step-stepped.new.self.whole c.site_step-stepped.ensures.did
    c.site_step-stepped.ensures.frames

pub returns-clause-err : goal.returns-clause-err
returns-clause-err g c =
    let i = subst (λ (v : Hosted g.row.D.Denot). IsIn c.args.who c.args.pass.now c.go_in-inside.new.pass v
    c.args.self.now.opening) (sym (ap (λ h. h.state) c.inside.view_is)) c.go_in-inside.ensures.is_in in
    call_looked c.site_step-stepped.result c.args.who c.args.pass.now c.go_in-inside.new.pass c.leave.new.pass _
    c.site_step-stepped.new.self c.args.self.now.opening i c.leave.ensures.pass c.site_step-stepped.ensures.same
