use Rattle.std.proofs.Common.{sym, subst, ap, ◌∙◌, true}
use Rattle.up_model.specs.Changes.{Detaches}
use Rattle.up_object.specs.Change.{Change}
use Rattle.up_object.proofs.Waits.{asks_before, detaches_asks, answered}
use Rattle.up_object.proofs.changing.Changing.detach.Goals as goal

pub invariant_of-self : goal.invariant_of-self
invariant_of-self c =
    let s = asks_before _ _ _ _ _ _ c.self.invariant.others.asks (ap (λ (v : Change). v.done.asks) c.self.view_is ∙ c.requires.first) in
    answered _ _ _ _ _ _ _ c.close-woken.new.self _ _ _ _ true _ c.self.invariant
    (detaches_asks _ _ _ _ _ _ s (subst (λ (v : Change). Detaches v.birth v.entry v.journal) (sym c.self.view_is) c.requires.detaches) c.close-woken.ensures.pages c.close-woken.ensures.rest)
