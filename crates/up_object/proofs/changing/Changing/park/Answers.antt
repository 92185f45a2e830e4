use Rattle.std.proofs.Common.{◌≡◌, ◌<◌, not, sym, subst, ap, ◌∙◌, true, false}
use Rattle.up_num.specs.Asks.{Ask}
use Rattle.up_span.specs.Runs.{runs}
use Rattle.up_model.specs.Asks.{asked}
use Rattle.up_model.specs.Roles.{detached}
use Rattle.up_model.specs.Changes.{Parks}
use Rattle.up_object.specs.Asks.{access_of}
use Rattle.up_object.specs.Change.{Change}
use Rattle.up_object.proofs.Waits.{asks_before, fresh_parts, each_room, parks_asks, answered}
use Rattle.up_object.proofs.changing.Changing.park.Goals as goal

pub park-requires-clause-fresh : goal.park-requires-clause-fresh
park-requires-clause-fresh c =
    let s = asks_before _ _ _ _ _ _ c.self.invariant.others.asks (ap (λ (v : Change). v.done.asks) c.self.view_is ∙ c.requires.first) in
    subst (λ (v : Change). c.args.parts.now ≡ runs (λ p. not (asked v.birth v.journal c.args.kind p)) c.args.range.first 0 c.args.range.count) (sym c.self.view_is) c.requires.fresh
    ∙ fresh_parts _ _ _ _ c.args.kind c.args.range.first c.args.range.count s

pub park-requires-clause-open : goal.park-requires-clause-open
park-requires-clause-open c =
    let s = asks_before _ _ _ _ _ _ c.self.invariant.others.asks (ap (λ (v : Change). v.done.asks) c.self.view_is ∙ c.requires.first) in
    s.cut ∙ subst (λ (v : Change). detached v.birth v.journal ≡ false) (sym c.self.view_is) c.requires.parks.attached

pub park-requires-clause-change : goal.park-requires-clause-change
park-requires-clause-change c = each_room c.self.inside.asks 1 (subst (λ (v : Change). 0 < v.room.changes) (sym c.self.view_is) c.requires.change)

pub invariant_of-self : goal.invariant_of-self
invariant_of-self c =
    let s = asks_before _ _ _ _ _ _ c.self.invariant.others.asks (ap (λ (v : Change). v.done.asks) c.self.view_is ∙ c.requires.first) in
    let ask : Ask = record { kind = c.args.kind; first = c.args.range.first; count = c.args.range.count } in
    answered _ _ _ _ _ _ _ c.park.new.self _ _ _ _ true _ c.self.invariant
    (parks_asks _ _ _ _ _ _ c.args.who c.args.kind c.args.range.first c.args.range.count c.args.parts.now c.args.piece _ _ s
    (subst (λ (v : Change). Parks v.birth v.entry v.journal (access_of c.args.piece) ask) (sym c.self.view_is) c.requires.parks)
    (ap (λ (v : Change). v.entry.who) c.self.view_is ∙ c.requires.by)
    (subst (λ (v : Change). c.args.parts.now ≡ runs (λ p. not (asked v.birth v.journal c.args.kind p)) c.args.range.first 0 c.args.range.count) (sym c.self.view_is) c.requires.fresh)
    c.park.ensures.pages c.park.ensures.rest)
