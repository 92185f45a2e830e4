use Rattle.std.proofs.Common.{◌≡◌, true, sym, subst}
use Rattle.up_worker.specs.Acting.{Acting, Sound, next_wish}
use Rattle.up_worker.specs.Viewing.{acting_of}
use Rattle.up_worker.specs.Wishes.{answers}
use Rattle.up_worker.proofs.AnswersKeep.{keeps_sound, wish_is, next_is}
use Rattle.up_worker.proofs.actor.Actor.next.Goals as goal

pub invariant_of-self : goal.invariant_of-self
invariant_of-self c =
    let f = c.self.inside in
    let a = acting_of f.who f.kind f.objects f.left f.doing f.at f.wants in
    subst Sound
    (sym (next_is f.who f.kind f.objects f.left f.doing f.at c.place_after-at.result f.wants c.wanted-self-inside.result c.args.heard c.in-Ok.wish
    c.place_after-at.ensures c.in-Ok.ensures c.wanted-self-inside.ensures))
    (keeps_sound a c.args.heard c.self.invariant
    (subst (λ (x : Acting). answers x.wants c.args.heard ≡ true) (sym c.self.view_is) c.requires))

pub returns-in-Ok-clause-wish : goal.returns-in-Ok-clause-wish
returns-in-Ok-clause-wish c =
    let f = c.self.inside in
    subst (λ (x : Acting). c.in-Ok.wish ≡ next_wish x c.args.heard) c.self.view_is
    (wish_is f.who f.kind f.objects f.left f.doing f.at c.place_after-at.result f.wants c.args.heard c.in-Ok.wish c.place_after-at.ensures c.in-Ok.ensures)
