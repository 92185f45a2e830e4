use Rattle.std.proofs.Common.{List, ◌∷◌, reverse, ap, subst, ◌∙◌, arith}
use Rattle.std.proofs.lemmas.List.{reverse-append}
use Rattle.up_model.specs.declared.entry.Call.TheVariants.{Evict}
use Rattle.up_model.specs.declared.entry.Reply.{Reply}
use Rattle.up_evictor.specs.Relief.{reclaim_of}
use Rattle.up_evictor.specs.declared.herd.Reclaim.{Reclaim}
use Rattle.up_hands.specs.Machined.{Acted}
use Rattle.up_hands.proofs.ReliefSteps.{went_on}
use Rattle.up_hands.proofs.relieving.UnderReliefHerd.evict.Goals as goal

pub invariant_of-self-2 : goal.invariant_of-self-2
invariant_of-self-2 c =
    let inside = c.self.inside in
    went_on inside.start.value inside.machine c.act.new.self inside.who c.args.object c.args.limit c.args.max _ c.in-Pages.pages (reverse inside.reclaims.items) (reverse c.push_reserved.new.self.items) c.self.invariant
    (subst (λ (reply : Reply). Acted inside.machine c.act.new.self c.args.object inside.who (Evict c.args.limit c.args.max) reply) c.in-Pages.is c.in_ok-reply.ensures.acted)
    c.in_ok-reply.ensures.stays (λ kind. let same = c.in_ok-reply.ensures.frames kind in omega arith) c.len-given.ensures (ap reverse c.push_reserved.ensures.items ∙ reverse-append c.reserve.new.self.items _
    ∙ ap (λ (reclaims : List Reclaim). reclaim_of c.args.object c.args.limit c.args.max c.len-given.result ∷ reverse reclaims) c.reserve.ensures.items)
