use Rattle.std.proofs.Common.{sym, ap, subst}
use Rattle.up_object.specs.Whole.{Whole}
use Rattle.up_object.specs.OneCall.{frames_of}
use Rattle.up_model.specs.Legal.{Legal}
use Rattle.up_site.specs.Hosted.{Hosted}
use Rattle.up_live.specs.Acts.{IsIn}
use Rattle.up_live.proofs.Acting.{proper_now, goes_on, call_adds, call_acted, call_looked, same_whole}
use Rattle.up_live.proofs.live.Live.act.Goals as goal

pub act-stepped-requires-clause-proper : goal.act-stepped-requires-clause-proper
act-stepped-requires-clause-proper g c =
    let i = subst (λ (v : Hosted g.row.D.Denot). IsIn c.args.who c.args.pass.now c.go_in-inside.new.pass v
    c.args.self.now.opening) (sym (ap (λ h. h.state) c.inside.view_is)) c.go_in-inside.ensures.is_in in
    proper_now c.args.who c.args.pass.now c.go_in-inside.new.pass _ c.args.self.now.opening c.args.call i
    c.requires.proper

pub leave-requires-clause-goes_on : goal.leave-requires-clause-goes_on
leave-requires-clause-goes_on g c =
    let i = subst (λ (v : Hosted g.row.D.Denot). IsIn c.args.who c.args.pass.now c.go_in-inside.new.pass v
    c.args.self.now.opening) (sym (ap (λ h. h.state) c.inside.view_is)) c.go_in-inside.ensures.is_in in
    goes_on c.args.who c.args.epoch c.args.pass.now c.go_in-inside.new.pass _ c.args.self.now.opening
    c.act-stepped.new.self.whole i (call_adds c.act-stepped.result c.args.who c.args.epoch c.args.call _
    c.act-stepped.new.self c.act-stepped.ensures.site c.act-stepped.ensures.same)

pub returns-clause-ok : goal.returns-clause-ok
returns-clause-ok g c =
    let i = subst (λ (v : Hosted g.row.D.Denot). IsIn c.args.who c.args.pass.now c.go_in-inside.new.pass v
    c.args.self.now.opening) (sym (ap (λ h. h.state) c.inside.view_is)) c.go_in-inside.ensures.is_in in
    let legal = subst (λ (w : Whole). Legal w.birth w.journal) c.object.ensures c.is_legal.ensures in
    call_acted c.act-stepped.result c.args.who c.args.epoch c.args.call (frames_of c.args.frames) c.args.pass.now
    c.go_in-inside.new.pass c.leave.new.pass _ c.act-stepped.new.self c.args.self.now.opening i c.leave.ensures.pass
    c.act-stepped.ensures.reply c.act-stepped.ensures.site c.act-stepped.ensures.frames legal

pub returns-clause-err : goal.returns-clause-err
returns-clause-err g c =
    let i = subst (λ (v : Hosted g.row.D.Denot). IsIn c.args.who c.args.pass.now c.go_in-inside.new.pass v
    c.args.self.now.opening) (sym (ap (λ h. h.state) c.inside.view_is)) c.go_in-inside.ensures.is_in in
    call_looked c.act-stepped.result c.args.who c.args.pass.now c.go_in-inside.new.pass c.leave.new.pass _
    c.act-stepped.new.self c.args.self.now.opening i c.leave.ensures.pass (same_whole c.act-stepped.result
    c.act-stepped.new.self _ c.act-stepped.ensures.same)
