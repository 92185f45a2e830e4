use Rattle.std.proofs.Common.{◌≤◌, ◌+◌, refl, ap, ◌∙◌, arith}
use Rattle.up_bank.specs.Standing.{BankId}
use Rattle.up_model.specs.Written.{Written}
use Rattle.up_object.specs.Numbers.{Numbered}
use Rattle.up_object.proofs.Waits.{first_asks}
use Rattle.up_object.proofs.CallEnds.{first_stands}
use Rattle.up_object.proofs.object.Object.birth.Goals as goal

pub invariant_of-result : goal.invariant_of-result
invariant_of-result c =
    let few : c.args.birth.users + c.args.birth.pagers ≤ 128 = omega (arith, c.requires.users.1, c.requires.pagers.1) in
    let wide : c.args.birth.pages ≤ c.reserve.new.self.room = omega (arith, c.in_ok-reserve.ensures.enough) in
    first_stands _ _ _ _ _ _ c.new-numbers.result _ _ _ _ (ap (λ (b : BankId). b.kind) c.of.ensures ∙ c.requires.kinds.0, ap (λ (b : BankId). b.kind) c.of-2.ensures ∙ c.requires.kinds.1)
    (c.room.ensures.entries ∙ ap (λ (w : Written). w.entries) c.new-log.ensures) c.in_ok-pages.ensures.size c.in_ok-pages.ensures.pages c.in_ok-marks.ensures.size c.in_ok-marks.ensures.none
    (c.reserve.ensures.items ∙ c.new-queues.ensures) wide (first_asks _ c.args.birth c.requires.users.0 c.requires.pagers.0 c.in_ok-asks.ensures.asked c.in_ok-asks.ensures.packets c.in_ok-asks.ensures.tickets) refl (ap (λ (n : Numbered). n.begins) c.new-numbers.ensures) refl few c.in_ok-room.ensures.enough
