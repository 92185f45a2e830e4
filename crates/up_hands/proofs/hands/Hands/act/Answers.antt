use Rattle.std.proofs.Common.{◌≡◌, ap, subst, ◌∙◌, refl, false}
use Rattle.up_object.specs.declared.step.FramesIn.{FramesIn}
use Rattle.up_object.specs.OneCall.{brought_of}
use Rattle.up_worker.specs.declared.wish.Heard.TheVariants as heard
use Rattle.up_worker.specs.declared.wish.Wish.TheVariants as wishes
use Rattle.up_steps.specs.Handed.{InHand, Handed, empty_hand}
use Rattle.up_steps.specs.Carried.{CarriedOut}
use Rattle.up_hands.specs.Keeping.{counts_of}
use Rattle.up_hands.proofs.WishesDone.{handed, carried_act}
use Rattle.up_hands.proofs.hands.Hands.act.Goals as goal

pub returns-clause-done : goal.returns-clause-done
returns-clause-done c = λ births g stood.
    let inside = c.self.inside in
    let acted = c.in_ok-reply.ensures.acted in
    let old : Handed = handed inside.machine inside.frames inside.loan (counts_of inside.kept.items) inside.levels (record { brought = brought_of inside.hand; lent = inside.lent }) in
    let hand : InHand = record { brought = brought_of c.replace-frames.new.dest; lent = false } in
    let none : hand ≡ empty_hand = ap (λ (frames : FramesIn). record { brought = brought_of frames; lent = false }) c.replace-frames.ensures.after in
    let now : Handed = handed c.act.new.self inside.frames inside.loan (counts_of inside.kept.items) inside.levels hand in
    subst (λ (v : Handed). CarriedOut births v now c.args.who (wishes.Act c.args.object c.args.call) (heard.Replied c.in_ok-reply.reply) g) c.self.view_is
    (carried_act births old now c.args.who c.args.object c.args.call c.in_ok-reply.reply acted.life g (ap (λ (v : Handed). v.lives) c.self.view_is ∙ stood)
    (rw (acted.lives, c.in_ok-reply.ensures.stays.ages, none) refl) acted.due)
