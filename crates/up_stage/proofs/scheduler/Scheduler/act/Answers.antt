use Rattle.std.proofs.Common.{◌≡◌, true, false, length, refl, sym, ap, subst, slice_set, length-set}
use Rattle.std.proofs.lemmas.Option.{slice_get_read}
use Rattle.std.proofs.lemmas.Result.{IfOk-weaker}
use Rattle.up_steps.specs.Handed.{births_in}
use Rattle.up_stage.specs.Scheduled.{Scheduled}
use Rattle.up_worker.specs.Acting.{Acting}
use Rattle.up_worker.specs.declared.wish.Wish.{Wish}
use Rattle.up_stage.specs.Played.{is_able_line}
use Rattle.up_stage.specs.Ready.{AtRest, Ready, is_waiting}
use Rattle.up_stage.specs.LeadsTo.{FollowsOn, ActsOn}
use Rattle.up_stage.proofs.AbleLines.{able_known, able_action, able_suits, is_free}
use Rattle.up_stage.proofs.RestToRest.{begin_ready, acted}
use Rattle.up_stage.proofs.scheduler.Scheduler.act.Goals as goal

pub begin_line-requires-clause-free : goal.begin_line-requires-clause-free
begin_line-requires-clause-free g c =
    let s : Scheduled = record { hands = g.H.Hands.shown c.self.inside.hands; actors = c.self.inside.actors.items; done = c.self.inside.done.items } in
    let line = c.args.line.now in
    let r = subst AtRest (sym c.self.view_is) c.requires.rest in
    let sound = subst (λ (v : Scheduled). is_able_line (births_in v.hands.lives) (length v.actors) line ≡ true) (sym c.self.view_is) c.requires.sound in
    let free = subst (λ (v : Scheduled). is_waiting v line.actor ≡ false) (sym c.self.view_is) c.requires.free in
    let within = able_known (births_in s.hands.lives) (length s.actors) line sound in
    let is = slice_get_read s.actors (length s.actors) line.actor c.index_mut.result.now refl within c.index_mut.ensures.value in
    (is_free s line.actor c.index_mut.result.now r is free).0

pub follow-requires : goal.follow-requires
follow-requires g c =
    let s : Scheduled = record { hands = g.H.Hands.shown c.self.inside.hands; actors = c.self.inside.actors.items; done = c.self.inside.done.items } in
    let line = c.args.line.now in
    let r = subst AtRest (sym c.self.view_is) c.requires.rest in
    let sound = subst (λ (v : Scheduled). is_able_line (births_in v.hands.lives) (length v.actors) line ≡ true) (sym c.self.view_is) c.requires.sound in
    let within = able_known (births_in s.hands.lives) (length s.actors) line sound in
    let a = c.index_mut.result.now in
    let is = slice_get_read s.actors (length s.actors) line.actor a refl within c.index_mut.ensures.value in
    let mid : Scheduled = record { hands = s.hands; actors = slice_set s.actors line.actor c.begin_line.new.self; done = slice_set s.done line.actor c.args.next } in
    subst (λ (w : Wish). Ready mid line.actor w) (sym c.in_ok-wish.ensures.wish)
    (begin_ready s mid line.actor a line.action r is (able_action (births_in s.hands.lives) (length s.actors) line sound) (able_suits (births_in s.hands.lives) (length s.actors) line sound) refl
    (ap (λ (x : Acting). slice_set s.actors line.actor x) c.in_ok-wish.ensures.ok) (length-set s.done line.actor c.args.next))

pub returns-clause-went : goal.returns-clause-went
returns-clause-went g c =
    let s : Scheduled = record { hands = g.H.Hands.shown c.self.inside.hands; actors = c.self.inside.actors.items; done = c.self.inside.done.items } in
    let line = c.args.line.now in
    let r = subst AtRest (sym c.self.view_is) c.requires.rest in
    let sound = subst (λ (v : Scheduled). is_able_line (births_in v.hands.lives) (length v.actors) line ≡ true) (sym c.self.view_is) c.requires.sound in
    let free = subst (λ (v : Scheduled). is_waiting v line.actor ≡ false) (sym c.self.view_is) c.requires.free in
    let within = able_known (births_in s.hands.lives) (length s.actors) line sound in
    let a = c.index_mut.result.now in
    let is = slice_get_read s.actors (length s.actors) line.actor a refl within c.index_mut.ensures.value in
    let mid : Scheduled = record { hands = s.hands; actors = slice_set s.actors line.actor c.begin_line.new.self; done = slice_set s.done line.actor c.args.next } in
    IfOk-weaker c.follow.result (λ _. FollowsOn mid c.follow.new.self line.actor c.in_ok-wish.wish) (λ _. ActsOn c.args.self.now c.follow.new.self line)
    (λ _ f. subst (λ (v : Scheduled). ActsOn v c.follow.new.self line) c.self.view_is
    (acted s mid c.follow.new.self line a is (is_free s line.actor a r is free).0 refl (ap (λ (x : Acting). slice_set s.actors line.actor x) c.in_ok-wish.ensures.ok)
    (subst (λ (w : Wish). FollowsOn mid c.follow.new.self line.actor w) c.in_ok-wish.ensures.wish f))) c.follow.ensures.went
