use Rattle.std.proofs.Common.{◌≡◌, ◌<◌, length, refl, sym, ap, ◌∙◌, subst, arith, slice_set}
use Rattle.std.proofs.lemmas.Option.{slice_get_read, slice_get_within}
use Rattle.up_stage.specs.Scheduled.{Scheduled}
use Rattle.up_steps.specs.Carried.{object_of}
use Rattle.up_worker.specs.Acting.{Acting, next_wish, next_acting}
use Rattle.up_worker.specs.Wishes.{answers}
use Rattle.up_worker.specs.declared.wish.Wanted.{Wanted}
use Rattle.up_worker.specs.declared.wish.Wish.{Wish}
use Rattle.up_stage.specs.Ready.{Ready, rank_at}
use Rattle.up_stage.specs.LeadsTo.{OneMore}
use Rattle.up_stage.proofs.ObjectJournals.{some_same}
use Rattle.up_stage.proofs.WishByWish.{carried_here, answers_wish, if_some, on_object, is_proper, further, ranked, one_more, asks_few}
use Rattle.up_stage.proofs.scheduler.Scheduler.carry_out.Goals as goal

pub carry_out-requires-clause-known : goal.carry_out-requires-clause-known
carry_out-requires-clause-known g c =
    let s : Scheduled = record { hands = g.H.Hands.shown c.self.inside.hands; actors = c.self.inside.actors.items; done = c.self.inside.done.items } in
    let r = subst (λ (v : Scheduled). Ready v c.args.who c.args.wish) (sym c.self.view_is) c.requires.ready in
    rw r.keeps.kept (slice_get_within s.actors c.args.who r.acting r.is)

pub carry_out-requires-clause-object : goal.carry_out-requires-clause-object
carry_out-requires-clause-object g c =
    let s : Scheduled = record { hands = g.H.Hands.shown c.self.inside.hands; actors = c.self.inside.actors.items; done = c.self.inside.done.items } in
    let r = subst (λ (v : Scheduled). Ready v c.args.who c.args.wish) (sym c.self.view_is) c.requires.ready in
    if_some (object_of c.args.wish) (length s.hands.lives) (λ k is. on_object s.hands.lives c.args.who r.acting c.args.wish k (r.keeps.each c.args.who r.acting r.is) r.pending is)

pub carry_out-requires-clause-proper : goal.carry_out-requires-clause-proper
carry_out-requires-clause-proper g c =
    let s : Scheduled = record { hands = g.H.Hands.shown c.self.inside.hands; actors = c.self.inside.actors.items; done = c.self.inside.done.items } in
    let r = subst (λ (v : Scheduled). Ready v c.args.who c.args.wish) (sym c.self.view_is) c.requires.ready in
    is_proper s.hands.lives c.args.who r.acting c.args.wish (r.keeps.each c.args.who r.acting r.is) r.pending

pub index_mut-requires : goal.index_mut-requires
index_mut-requires g c =
    let s : Scheduled = record { hands = g.H.Hands.shown c.self.inside.hands; actors = c.self.inside.actors.items; done = c.self.inside.done.items } in
    let r = subst (λ (v : Scheduled). Ready v c.args.who c.args.wish) (sym c.self.view_is) c.requires.ready in
    omega (arith, slice_get_within s.actors c.args.who r.acting r.is, c.self.inside.actors.ok.0)

pub next-requires : goal.next-requires
next-requires g c =
    let s : Scheduled = record { hands = g.H.Hands.shown c.self.inside.hands; actors = c.self.inside.actors.items; done = c.self.inside.done.items } in
    let r = subst (λ (v : Scheduled). Ready v c.args.who c.args.wish) (sym c.self.view_is) c.requires.ready in
    let within = slice_get_within s.actors c.args.who r.acting r.is in
    let is = slice_get_read s.actors (length s.actors) c.args.who c.index_mut.result.now refl within c.index_mut.ensures.value in
    let same : r.acting ≡ c.index_mut.result.now = some_same r.acting c.index_mut.result.now (sym r.is ∙ is) in
    let d = carried_here s.hands (g.H.Hands.shown c.carry_out.new.self) c.args.who c.args.wish c.in_ok-heard.heard c.in_ok-heard.ensures.done in
    ap (λ (w : Wanted). answers w c.in_ok-heard.heard) (ap (λ (a : Acting). a.wants) (sym same) ∙ r.wants)
    ∙ answers_wish c.args.who c.args.wish c.in_ok-heard.heard d.made d.carries c.requires.goes

pub returns-in-Ok-clause-ready : goal.returns-in-Ok-clause-ready
returns-in-Ok-clause-ready g c =
    let s : Scheduled = record { hands = g.H.Hands.shown c.self.inside.hands; actors = c.self.inside.actors.items; done = c.self.inside.done.items } in
    let r = subst (λ (v : Scheduled). Ready v c.args.who c.args.wish) (sym c.self.view_is) c.requires.ready in
    let within = slice_get_within s.actors c.args.who r.acting r.is in
    let is = slice_get_read s.actors (length s.actors) c.args.who c.index_mut.result.now refl within c.index_mut.ensures.value in
    let same : r.acting ≡ c.index_mut.result.now = some_same r.acting c.index_mut.result.now (sym r.is ∙ is) in
    let heard = c.in_ok-heard.heard in
    let new : Scheduled = record { hands = g.H.Hands.shown c.carry_out.new.self; actors = slice_set s.actors c.args.who c.next.new.self; done = s.done } in
    let set = ap (λ (x : Acting). slice_set s.actors c.args.who x) (c.in-Ok.ensures.ok ∙ ap (λ (a : Acting). next_acting a heard) (sym same)) in
    let f = further s new c.args.who c.args.wish heard r c.requires.goes c.in_ok-heard.ensures.done c.carry_out.ensures.legal c.carry_out.ensures.actors set refl
    (asks_few heard c.frames_asked.result c.frames_asked.ensures.value c.frames_asked.ensures.small) in
    subst (λ (w : Wish). Ready new c.args.who w) (sym (c.in-Ok.ensures.wish ∙ ap (λ (a : Acting). next_wish a heard) (sym same))) f.ready

pub returns-in-Ok-clause-lower : goal.returns-in-Ok-clause-lower
returns-in-Ok-clause-lower g c =
    let s : Scheduled = record { hands = g.H.Hands.shown c.self.inside.hands; actors = c.self.inside.actors.items; done = c.self.inside.done.items } in
    let r = subst (λ (v : Scheduled). Ready v c.args.who c.args.wish) (sym c.self.view_is) c.requires.ready in
    let within = slice_get_within s.actors c.args.who r.acting r.is in
    let is = slice_get_read s.actors (length s.actors) c.args.who c.index_mut.result.now refl within c.index_mut.ensures.value in
    let same : r.acting ≡ c.index_mut.result.now = some_same r.acting c.index_mut.result.now (sym r.is ∙ is) in
    let heard = c.in_ok-heard.heard in
    let new : Scheduled = record { hands = g.H.Hands.shown c.carry_out.new.self; actors = slice_set s.actors c.args.who c.next.new.self; done = s.done } in
    let set = ap (λ (x : Acting). slice_set s.actors c.args.who x) (c.in-Ok.ensures.ok ∙ ap (λ (a : Acting). next_acting a heard) (sym same)) in
    let f = further s new c.args.who c.args.wish heard r c.requires.goes c.in_ok-heard.ensures.done c.carry_out.ensures.legal c.carry_out.ensures.actors set refl
    (asks_few heard c.frames_asked.result c.frames_asked.ensures.value c.frames_asked.ensures.small) in
    let next = c.in-Ok.ensures.wish ∙ ap (λ (a : Acting). next_wish a heard) (sym same) in
    subst (λ (v : Scheduled). rank_at new c.args.who c.in-Ok.next < rank_at v c.args.who c.args.wish) c.self.view_is
    (subst (λ (w : Wish). rank_at new c.args.who w < rank_at s c.args.who c.args.wish) (sym next)
    (ranked s new c.args.who r.acting (next_acting r.acting heard) c.args.wish (next_wish r.acting heard) r.is f.is f.lower))

pub returns-in-Ok-clause-went : goal.returns-in-Ok-clause-went
returns-in-Ok-clause-went g c =
    let s : Scheduled = record { hands = g.H.Hands.shown c.self.inside.hands; actors = c.self.inside.actors.items; done = c.self.inside.done.items } in
    let r = subst (λ (v : Scheduled). Ready v c.args.who c.args.wish) (sym c.self.view_is) c.requires.ready in
    let within = slice_get_within s.actors c.args.who r.acting r.is in
    let is = slice_get_read s.actors (length s.actors) c.args.who c.index_mut.result.now refl within c.index_mut.ensures.value in
    let same : r.acting ≡ c.index_mut.result.now = some_same r.acting c.index_mut.result.now (sym r.is ∙ is) in
    let heard = c.in_ok-heard.heard in
    let new : Scheduled = record { hands = g.H.Hands.shown c.carry_out.new.self; actors = slice_set s.actors c.args.who c.next.new.self; done = s.done } in
    let set = ap (λ (x : Acting). slice_set s.actors c.args.who x) (c.in-Ok.ensures.ok ∙ ap (λ (a : Acting). next_acting a heard) (sym same)) in
    let next = c.in-Ok.ensures.wish ∙ ap (λ (a : Acting). next_wish a heard) (sym same) in
    subst (λ (v : Scheduled). OneMore v new c.args.who c.args.wish c.in-Ok.next) c.self.view_is
    (one_more s new c.args.who c.args.wish c.in-Ok.next heard r c.in_ok-heard.ensures.done c.carry_out.ensures.legal set next)
