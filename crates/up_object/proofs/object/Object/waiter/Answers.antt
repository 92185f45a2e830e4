use Rattle.std.proofs.Common.{◌≡◌, sym, subst, ap, ◌∙◌, true, false, is_some}
use Rattle.up_model.specs.Attempts.{parked}
use Rattle.up_model.specs.Tickets.{owner, spent}
use Rattle.up_model.proofs.WaitLaws.{parked_within}
use Rattle.up_object.specs.Asks.{access_of}
use Rattle.up_object.specs.Whole.{Whole}
use Rattle.up_object.proofs.Waiters.{held_is, access_is, waiter_whole}
use Rattle.up_object.proofs.object.Object.waiter.Goals as goal

pub waiter-requires : goal.waiter-requires
waiter-requires c = record {
  held = held_is _ _ _ c.args.ticket c.self.invariant.legal c.self.invariant.asks
      (subst (λ (v : Whole). (is_some (owner v.journal c.args.ticket) ≡ true) × (spent v.journal c.args.ticket ≡ false)) (sym c.self.view_is) c.requires.held);
}

pub returns-clause-access : goal.returns-clause-access
returns-clause-access c = ap (λ (v : Whole). parked v.journal c.args.ticket) (sym c.self.view_is)
    ∙ access_is _ _ _ c.args.ticket c.waiter.result.now c.self.invariant.asks (subst (λ (v : Whole). spent v.journal c.args.ticket ≡ false) (sym c.self.view_is) c.requires.held.1) c.waiter.ensures

pub returns-clause-within : goal.returns-clause-within
returns-clause-within c = parked_within c.self.inside.birth c.self.inside.log.entries c.self.invariant.legal c.args.ticket (access_of c.waiter.result.now)
    (access_is _ _ _ c.args.ticket c.waiter.result.now c.self.invariant.asks (subst (λ (v : Whole). spent v.journal c.args.ticket ≡ false) (sym c.self.view_is) c.requires.held.1) c.waiter.ensures)

pub returns-clause-whole : goal.returns-clause-whole
returns-clause-whole c = waiter_whole c.self.inside.log.entries c.args.ticket c.waiter.result.now
    (access_is _ _ _ c.args.ticket c.waiter.result.now c.self.invariant.asks (subst (λ (v : Whole). spent v.journal c.args.ticket ≡ false) (sym c.self.view_is) c.requires.held.1) c.waiter.ensures)
