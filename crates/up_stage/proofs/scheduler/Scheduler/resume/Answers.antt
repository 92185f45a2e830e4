use Rattle.std.proofs.Common.{◌≡◌, ◌<◌, true, length, refl, sym, ap, subst, slice_set}
use Rattle.std.proofs.lemmas.Option.{slice_get_read}
use Rattle.std.proofs.lemmas.Result.{IfOk-weaker}
use Rattle.up_stage.specs.Scheduled.{Scheduled}
use Rattle.up_worker.specs.Acting.{Acting}
use Rattle.up_worker.specs.declared.wish.Wish.{Wish}
use Rattle.up_stage.specs.Ready.{AtRest, Ready, is_waiting}
use Rattle.up_stage.specs.LeadsTo.{FollowsOn, ResumesOn}
use Rattle.up_stage.proofs.AbleLines.{is_parking}
use Rattle.up_stage.proofs.RestToRest.{resume_ready, resumed}
use Rattle.up_stage.proofs.scheduler.Scheduler.resume.Goals as goal

pub follow-requires : goal.follow-requires
follow-requires g c =
    let s : Scheduled = record { hands = g.H.Hands.shown c.self.inside.hands; actors = c.self.inside.actors.items; done = c.self.inside.done.items } in
    let who = c.args.who in
    let r = subst AtRest (sym c.self.view_is) c.requires.rest in
    let waits = subst (λ (v : Scheduled). is_waiting v who ≡ true) (sym c.self.view_is) c.requires.waits in
    let within = subst (λ (v : Scheduled). who < length v.actors) (sym c.self.view_is) c.requires.known in
    let a = c.index_mut.result.now in
    let is = slice_get_read s.actors (length s.actors) who a refl within c.index_mut.ensures.value in
    let mid : Scheduled = record { hands = s.hands; actors = slice_set s.actors who c.next.new.self; done = s.done } in
    subst (λ (w : Wish). Ready mid who w) (sym c.in-Ok.ensures.wish)
    (resume_ready s mid who a r is (is_parking s who a r is waits).1 refl (ap (λ (x : Acting). slice_set s.actors who x) c.in-Ok.ensures.ok) refl)

pub returns-in-Ok-clause-went : goal.returns-in-Ok-clause-went
returns-in-Ok-clause-went g c =
    let s : Scheduled = record { hands = g.H.Hands.shown c.self.inside.hands; actors = c.self.inside.actors.items; done = c.self.inside.done.items } in
    let who = c.args.who in
    let r = subst AtRest (sym c.self.view_is) c.requires.rest in
    let waits = subst (λ (v : Scheduled). is_waiting v who ≡ true) (sym c.self.view_is) c.requires.waits in
    let within = subst (λ (v : Scheduled). who < length v.actors) (sym c.self.view_is) c.requires.known in
    let a = c.index_mut.result.now in
    let is = slice_get_read s.actors (length s.actors) who a refl within c.index_mut.ensures.value in
    let mid : Scheduled = record { hands = s.hands; actors = slice_set s.actors who c.next.new.self; done = s.done } in
    IfOk-weaker c.follow.result (λ _. FollowsOn mid c.follow.new.self who c.in-Ok.wish) (λ _. ResumesOn c.args.self.now c.follow.new.self who)
    (λ _ f. subst (λ (v : Scheduled). ResumesOn v c.follow.new.self who) c.self.view_is
    (resumed s mid c.follow.new.self who a is (is_parking s who a r is waits).0 refl (ap (λ (x : Acting). slice_set s.actors who x) c.in-Ok.ensures.ok)
    (subst (λ (w : Wish). FollowsOn mid c.follow.new.self who w) c.in-Ok.ensures.wish f))) c.follow.ensures.went
