use Rattle.std.proofs.Common.{◌≡◌, sym, subst, ap, ◌∙◌, true, false, is_some}
use Rattle.up_model.specs.Attempts.{parked}
use Rattle.up_model.specs.Tickets.{owner, spent}
use Rattle.up_model.specs.Changes.{Spends}
use Rattle.up_object.specs.Change.{Change}
use Rattle.up_object.proofs.Waits.{asks_rest, asks_after, spends_asks, answered}
use Rattle.up_object.proofs.Waiters.{held_is, access_is}
use Rattle.up_object.proofs.changing.Changing.spend.Goals as goal

pub spend-waiter-requires : goal.spend-waiter-requires
spend-waiter-requires c =
    let s = asks_rest _ _ _ _ _ _ c.self.invariant.others.asks (ap (λ (v : Change). v.done.asks) c.self.view_is ∙ c.requires.early) (ap (λ (v : Change). v.done.spent) c.self.view_is ∙ c.requires.first) in
    record { held = held_is _ _ _ c.args.ticket c.self.invariant.legal s (subst (λ (v : Change). (is_some (owner v.journal c.args.ticket) ≡ true) × (spent v.journal c.args.ticket ≡ false)) (sym c.self.view_is) c.requires.held) }

pub invariant_of-self : goal.invariant_of-self
invariant_of-self c =
    let early = ap (λ (v : Change). v.done.asks) c.self.view_is ∙ c.requires.early in
    let s = asks_rest _ _ _ _ _ _ c.self.invariant.others.asks early (ap (λ (v : Change). v.done.spent) c.self.view_is ∙ c.requires.first) in
    answered _ _ _ _ _ _ _ c.spend-waiter.new.self _ _ _ _ _ true c.self.invariant
    (asks_after _ _ _ _ _ _ early (spends_asks _ _ _ _ _ c.args.ticket s (subst (λ (v : Change). Spends v.entry v.journal c.args.ticket) (sym c.self.view_is) c.requires.spends) c.spend-waiter.ensures.new))

pub returns-clause-access : goal.returns-clause-access
returns-clause-access c =
    let s = asks_rest _ _ _ _ _ _ c.self.invariant.others.asks (ap (λ (v : Change). v.done.asks) c.self.view_is ∙ c.requires.early) (ap (λ (v : Change). v.done.spent) c.self.view_is ∙ c.requires.first) in
    ap (λ (v : Change). parked v.journal c.args.ticket) (sym c.self.view_is)
    ∙ access_is _ _ _ c.args.ticket c.spend-waiter.result s (subst (λ (v : Change). spent v.journal c.args.ticket ≡ false) (sym c.self.view_is) c.requires.held.1) c.spend-waiter.ensures.waiter
