use Rattle.std.proofs.Common.{ap, subst, ◌∙◌, refl}
use Rattle.up_claims.specs.declared.step.SiteReply.TheVariants as sites
use Rattle.up_object.specs.OneCall.{brought_of}
use Rattle.up_worker.specs.declared.wish.Heard.TheVariants as heard
use Rattle.up_worker.specs.declared.wish.Wish.TheVariants as wishes
use Rattle.up_steps.specs.Handed.{InHand, Handed}
use Rattle.up_steps.specs.Carried.{CarriedOut}
use Rattle.up_hands.specs.Keeping.{counts_of}
use Rattle.up_hands.proofs.WishesDone.{handed, carried_resize}
use Rattle.up_hands.proofs.hands.Hands.resize.Goals as goal

pub returns-clause-done : goal.returns-clause-done
returns-clause-done c = λ births g stood.
    let inside = c.self.inside in
    let acted = c.in_ok-reply.ensures.acted in
    let hand : InHand = record { brought = brought_of inside.hand; lent = inside.lent } in
    let old : Handed = handed inside.machine inside.frames inside.loan (counts_of inside.kept.items) inside.levels hand in
    let now : Handed = handed c.act.new.self inside.frames inside.loan (counts_of inside.kept.items) inside.levels hand in
    subst (λ (v : Handed). CarriedOut births v now c.args.who (wishes.Resize c.args.object c.args.pages) (heard.Site (sites.Resized c.in_ok-reply.reply)) g) c.self.view_is
    (carried_resize births old now c.args.who c.args.object c.args.pages c.in_ok-reply.reply acted.life g (ap (λ (v : Handed). v.lives) c.self.view_is ∙ stood)
    (ap (λ (v : Handed). v.hand) c.self.view_is ∙ c.requires.hand) (rw (acted.lives, c.in_ok-reply.ensures.stays.ages) refl) acted.due)
