use Rattle.std.proofs.Common.{sym, ap, subst}
use Rattle.up_object.specs.Whole.{Whole}
use Rattle.up_model.specs.Legal.{Legal}
use Rattle.up_site.specs.Hosted.{Hosted}
use Rattle.up_live.specs.Acts.{IsIn}
use Rattle.up_live.proofs.Acting.{goes_on, call_looked}
use Rattle.up_live.proofs.Stepping.{did_adds, resize_made}
use Rattle.up_live.proofs.live.Live.resize.Goals as goal

pub leave-requires-clause-goes_on : goal.leave-requires-clause-goes_on
leave-requires-clause-goes_on g c =
    let i = subst (λ (v : Hosted g.row.D.Denot). IsIn c.args.who c.args.pass.now c.go_in-inside.new.pass v
    c.args.self.now.opening) (sym (ap (λ h. h.state) c.inside.view_is)) c.go_in-inside.ensures.is_in in
    goes_on c.args.who c.args.epoch c.args.pass.now c.go_in-inside.new.pass _ c.args.self.now.opening
    c.resize-stepped.new.self.whole i (did_adds c.resize-stepped.result c.args.who c.args.epoch _ _
    c.resize-stepped.new.self.whole c.resize-stepped.ensures.did c.resize-stepped.ensures.same)

pub returns-clause-ok : goal.returns-clause-ok
returns-clause-ok g c =
    let i = subst (λ (v : Hosted g.row.D.Denot). IsIn c.args.who c.args.pass.now c.go_in-inside.new.pass v
    c.args.self.now.opening) (sym (ap (λ h. h.state) c.inside.view_is)) c.go_in-inside.ensures.is_in in
    let legal = subst (λ (w : Whole). Legal w.birth w.journal) c.object.ensures c.is_legal.ensures in
    resize_made c.resize-stepped.result c.args.who c.args.epoch c.args.pages c.args.pass.now c.go_in-inside.new.pass
    c.leave.new.pass _ c.args.self.now.opening c.resize-stepped.new.self.whole i c.leave.ensures.pass
    c.resize-stepped.ensures.did c.resize-stepped.ensures.frames legal

pub returns-clause-err : goal.returns-clause-err
returns-clause-err g c =
    let i = subst (λ (v : Hosted g.row.D.Denot). IsIn c.args.who c.args.pass.now c.go_in-inside.new.pass v
    c.args.self.now.opening) (sym (ap (λ h. h.state) c.inside.view_is)) c.go_in-inside.ensures.is_in in
    call_looked c.resize-stepped.result c.args.who c.args.pass.now c.go_in-inside.new.pass c.leave.new.pass _
    c.resize-stepped.new.self c.args.self.now.opening i c.leave.ensures.pass c.resize-stepped.ensures.same
