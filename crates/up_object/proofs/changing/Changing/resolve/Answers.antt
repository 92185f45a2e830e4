use Rattle.std.proofs.Common.{◌≤◌, sym, subst, ap, ◌∙◌, true, length}
use Rattle.up_asks.specs.Asking.{events_of}
use Rattle.up_model.specs.Changes.{Happens}
use Rattle.up_object.specs.Change.{Change}
use Rattle.up_object.proofs.Waits.{asks_before, each_room, happens_asks, answered}
use Rattle.up_object.proofs.changing.Changing.resolve.Goals as goal

pub settle-requires-clause-room : goal.settle-requires-clause-room
settle-requires-clause-room c = each_room c.self.inside.asks (length c.args.events.now) (subst (λ (v : Change). length c.args.events.now ≤ v.room.changes) (sym c.self.view_is) c.requires.room)

pub invariant_of-self : goal.invariant_of-self
invariant_of-self c =
    let s = asks_before _ _ _ _ _ _ c.self.invariant.others.asks (ap (λ (v : Change). v.done.asks) c.self.view_is ∙ c.requires.first) in
    answered _ _ _ _ _ _ _ c.settle.new.self _ _ _ _ true _ c.self.invariant
    (happens_asks _ _ _ _ _ _ (events_of c.args.events.now) s (subst (λ (v : Change). Happens v.birth v.entry v.journal (events_of c.args.events.now)) (sym c.self.view_is) c.requires.happens)
    c.settle.ensures.pages c.settle.ensures.tickets)
