use Rattle.std.proofs.Common.{sym, subst, ap, ◌∙◌, true}
use Rattle.up_model.specs.Changes.{TakesPacket}
use Rattle.up_object.specs.Change.{Change}
use Rattle.up_object.proofs.Waits.{asks_before, takes_one, takes_asks, answered}
use Rattle.up_object.proofs.changing.Changing.take_packet.Goals as goal

pub invariant_of-self : goal.invariant_of-self
invariant_of-self c =
    let s = asks_before _ _ _ _ _ _ c.self.invariant.others.asks (ap (λ (v : Change). v.done.asks) c.self.view_is ∙ c.requires.first) in
    let takes = subst (λ (v : Change). TakesPacket v.birth v.entry v.journal) (sym c.self.view_is) c.requires.takes in
    answered _ _ _ _ _ _ _ c.packet-packet.new.self _ _ _ _ true _ c.self.invariant
    (takes_asks _ _ _ _ _ _ s takes (takes_one _ _ _ _ _ _ _ s takes c.packet-packet.ensures.next c.packet-packet.ensures.new))
